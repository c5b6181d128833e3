-- Calls on the type of a name: how they are judged, and what they come to where they are accepted.
use Rattle.std.proofs.Common.{◌≡◌, ℕ, Bool, true, false, not, cond, List, refl, sym, ap, subst, ◌∙◌, Bor, Option}
use Rattle.std.proofs.Common.{None, Some, Ok, Err}
use Rattle.std.specs.Option.{option_map, option_copied, is_some}
use Rattle.std.specs.Prelude.{IsOk}
use Rattle.td_cdr.specs.Names.{word_name}
use Rattle.td_types.specs.declared.entry.TypeEntry.{TypeEntry}
use Rattle.td_types.specs.declared.fault.RepoFault.TheVariants as fault
use Rattle.td_types.specs.declared.fault.TypesFault.{TypesFault}
use Rattle.td_types.specs.declared.fault.TypesFault.TheVariants.{User, Full, Memory}
use Rattle.td_types.specs.declared.reply.TypesReply.{TypesReply}
use Rattle.td_types.specs.declared.reply.TypesReply.TheVariants as reply
use Rattle.td_types.specs.Calls.{RepositoryResult, refuse, on_type, act_on, AnswersFreely, sub_type, remove_unless}
use Rattle.td_types.specs.Calls.{without}
use Rattle.td_types.specs.Calls.{remove_type, set_mask, mask_type, unmask_type}
use Rattle.td_types.specs.Judgements.{IsRefusal}
use Rattle.td_types.specs.Kept.{entry_type, repository, AreEntries}
use Rattle.td_types.specs.Removing.{sub_entry, without_entry, with_mask}
use Rattle.td_types.specs.Repository.{Repository, ServiceType, InterfaceBases, type_named, mask_in, mask_of}
use Rattle.td_types.specs.Sought.{find_entry, entry_named}
use Rattle.td_types.proofs.Found.{type_of_entry}
use Rattle.td_types.proofs.Outcomes.{named}
use Rattle.td_types.proofs.Masks.{repository-masked, entries-masked}
use Rattle.td_types.proofs.Removed.{repository-without, entries-without, removed, has_sub}
use Rattle.td_types.proofs.Subtypes.{sub_type-kept}

pub refused-freely : (comes : RepositoryResult) (r : Repository) (t : TypesFault) → IsRefusal comes t
    → AnswersFreely comes r r (Err t)
refused-freely comes r (User f) h = (h, refl)
refused-freely comes r Full h = h
refused-freely comes r Memory h = (h, refl)

ok_from : (comes : RepositoryResult) (x : TypesReply × Repository) → comes ≡ Ok x → IsOk comes
ok_from comes x h = rw h refl

-- ---- a name

illegal : (r : Repository) (name : List ℕ) (act : ServiceType → RepositoryResult) → word_name name ≡ false
    → on_type r name act ≡ refuse (fault.IllegalServiceType name)
illegal r name act h = rw h refl

unknown : (r : Repository) (name : List ℕ) (act : ServiceType → RepositoryResult) → word_name name ≡ true
    → type_named r.types name ≡ None → on_type r name act ≡ refuse (fault.UnknownServiceType name)
unknown r name act w h = rw (w, h) refl

there : (r : Repository) (name : List ℕ) (act : ServiceType → RepositoryResult) (t : ServiceType) → word_name name ≡ true
    → type_named r.types name ≡ Some t → on_type r name act ≡ act t
there r name act t w h = rw (w, h) refl

-- what an accepted call did to the type that it found
accepted_when : (name : List ℕ) (act : ServiceType → RepositoryResult) (b : Bool) (found : Option ServiceType)
    → IsOk (cond b (act_on found name act) (refuse (fault.IllegalServiceType name)))
    → (t : ServiceType) × (found ≡ Some t) × IsOk (act t)
    × (cond b (act_on found name act) (refuse (fault.IllegalServiceType name)) ≡ act t)
accepted_when name act true (Some t) h = (t, refl, h, refl)
accepted_when name act true None h = absurd (let bad : ⊥ = cc in bad)
accepted_when name act false found h = absurd (let bad : ⊥ = cc in bad)

accepted_on : (r : Repository) (name : List ℕ) (act : ServiceType → RepositoryResult) → IsOk (on_type r name act)
    → (t : ServiceType) × (type_named r.types name ≡ Some t) × IsOk (act t) × (on_type r name act ≡ act t)
accepted_on r name act h = accepted_when name act (word_name name) (type_named r.types name) h

-- ---- masks

mask_none : (found : Option ServiceType) → mask_in found ≡ None → found ≡ None
mask_none None h = refl
mask_none (Some t) h = absurd (let bad : ⊥ = cc in bad)

mask_some : (found : Option ServiceType) (b : Bool) → mask_in found ≡ Some b
    → (t : ServiceType) × (found ≡ Some t) × (t.masked ≡ b)
mask_some None b h = absurd (let bad : ⊥ = cc in bad)
mask_some (Some t) b h = let same : t.masked ≡ b = cc in (t, refl, same)

module _ (r : Repository) (name : List ℕ) where
  pub mask_illegal : word_name name ≡ false → mask_type r name ≡ refuse (fault.IllegalServiceType name)
  unfolding mask_type
  mask_illegal h =
      illegal r name (λ t. cond t.masked (refuse (fault.AlreadyMasked name)) (Ok (reply.Masked, set_mask r name true)))
      h

  pub mask_unknown : word_name name ≡ true → mask_of r.types name ≡ None
      → mask_type r name ≡ refuse (fault.UnknownServiceType name)
  unfolding mask_type
  mask_unknown w h =
      unknown r name (λ t. cond t.masked (refuse (fault.AlreadyMasked name)) (Ok (reply.Masked, set_mask r name true)))
      w (mask_none (type_named r.types name) h)

  pub already_masked : word_name name ≡ true → mask_of r.types name ≡ Some true
      → mask_type r name ≡ refuse (fault.AlreadyMasked name)
  unfolding mask_type
  already_masked w h =
      let m = mask_some (type_named r.types name) true h in
      there r name (λ t. cond t.masked (refuse (fault.AlreadyMasked name)) (Ok (reply.Masked, set_mask r name true)))
      m.0 w m.1
      ∙ ap (λ (b : Bool). cond b (refuse (fault.AlreadyMasked name)) (Ok (reply.Masked, set_mask r name true))) m.2

  pub mask_accepted : word_name name ≡ true → mask_of r.types name ≡ Some false → IsOk (mask_type r name)
  unfolding mask_type
  mask_accepted w h =
      let m = mask_some (type_named r.types name) false h in
      ok_from (mask_type r name) (reply.Masked, set_mask r name true)
      (there r name (λ t. cond t.masked (refuse (fault.AlreadyMasked name)) (Ok (reply.Masked, set_mask r name true)))
      m.0 w m.1
      ∙ ap (λ (b : Bool). cond b (refuse (fault.AlreadyMasked name)) (Ok (reply.Masked, set_mask r name true))) m.2)

  mask_done_when : (b : Bool)
      → IsOk (cond b (refuse (fault.AlreadyMasked name)) (Ok (reply.Masked, set_mask r name true)))
      → cond b (refuse (fault.AlreadyMasked name)) (Ok (reply.Masked, set_mask r name true))
      ≡ Ok (reply.Masked, set_mask r name true)
  mask_done_when true h = absurd (let bad : ⊥ = cc in bad)
  mask_done_when false h = refl

  pub mask_done : IsOk (mask_type r name) → mask_type r name ≡ Ok (reply.Masked, set_mask r name true)
  unfolding mask_type
  mask_done h =
      let a =
      accepted_on r name (λ t. cond t.masked (refuse (fault.AlreadyMasked name))
      (Ok (reply.Masked, set_mask r name true)))
      h in
      a.3 ∙ mask_done_when a.0.masked a.2

  pub unmask_illegal : word_name name ≡ false → unmask_type r name ≡ refuse (fault.IllegalServiceType name)
  unfolding unmask_type
  unmask_illegal h =
      illegal r name (λ t. cond t.masked (Ok (reply.Unmasked, set_mask r name false)) (refuse (fault.NotMasked name))) h

  pub unmask_unknown : word_name name ≡ true → mask_of r.types name ≡ None
      → unmask_type r name ≡ refuse (fault.UnknownServiceType name)
  unfolding unmask_type
  unmask_unknown w h =
      unknown r name (λ t. cond t.masked (Ok (reply.Unmasked, set_mask r name false)) (refuse (fault.NotMasked name))) w
      (mask_none (type_named r.types name) h)

  pub not_masked : word_name name ≡ true → mask_of r.types name ≡ Some false
      → unmask_type r name ≡ refuse (fault.NotMasked name)
  unfolding unmask_type
  not_masked w h =
      let m = mask_some (type_named r.types name) false h in
      there r name (λ t. cond t.masked (Ok (reply.Unmasked, set_mask r name false)) (refuse (fault.NotMasked name))) m.0
      w m.1
      ∙ ap (λ (b : Bool). cond b (Ok (reply.Unmasked, set_mask r name false)) (refuse (fault.NotMasked name))) m.2

  pub unmask_accepted : word_name name ≡ true → mask_of r.types name ≡ Some true → IsOk (unmask_type r name)
  unfolding unmask_type
  unmask_accepted w h =
      let m = mask_some (type_named r.types name) true h in
      ok_from (unmask_type r name) (reply.Unmasked, set_mask r name false)
      (there r name (λ t. cond t.masked (Ok (reply.Unmasked, set_mask r name false)) (refuse (fault.NotMasked name)))
      m.0 w m.1
      ∙ ap (λ (b : Bool). cond b (Ok (reply.Unmasked, set_mask r name false)) (refuse (fault.NotMasked name))) m.2)

  unmask_done_when : (b : Bool)
      → IsOk (cond b (Ok (reply.Unmasked, set_mask r name false)) (refuse (fault.NotMasked name)))
      → cond b (Ok (reply.Unmasked, set_mask r name false)) (refuse (fault.NotMasked name))
      ≡ Ok (reply.Unmasked, set_mask r name false)
  unmask_done_when false h = absurd (let bad : ⊥ = cc in bad)
  unmask_done_when true h = refl

  pub unmask_done : IsOk (unmask_type r name) → unmask_type r name ≡ Ok (reply.Unmasked, set_mask r name false)
  unfolding unmask_type
  unmask_done h =
      let a =
      accepted_on r name (λ t. cond t.masked (Ok (reply.Unmasked, set_mask r name false))
      (refuse (fault.NotMasked name)))
      h in
      a.3 ∙ unmask_done_when a.0.masked a.2

  -- ---- removing

  pub remove_illegal : word_name name ≡ false → remove_type r name ≡ refuse (fault.IllegalServiceType name)
  unfolding remove_type
  remove_illegal h = illegal r name (λ t. remove_unless r t (sub_type r name)) h

  pub remove_unknown : word_name name ≡ true → type_named r.types name ≡ None
      → remove_type r name ≡ refuse (fault.UnknownServiceType name)
  unfolding remove_type
  remove_unknown w h = unknown r name (λ t. remove_unless r t (sub_type r name)) w h

  remove_done_when : (t : ServiceType) (sub : Option ServiceType) → t.name ≡ name → IsOk (remove_unless r t sub)
      → (sub ≡ None) × (remove_unless r t sub ≡ Ok (reply.Removed, without r name))
  remove_done_when t None same h = (refl, ap (λ (n : List ℕ). Ok (reply.Removed, without r n)) same)
  remove_done_when t (Some sub) same h = absurd (let bad : ⊥ = cc in bad)

  pub remove_done : IsOk (remove_type r name)
      → (sub_type r name ≡ None) × (remove_type r name ≡ Ok (reply.Removed, without r name))
  unfolding remove_type
  remove_done h =
      let a = accepted_on r name (λ t. remove_unless r t (sub_type r name)) h in
      let d = remove_done_when a.0 (sub_type r name) (named r.types name a.0 a.1) a.2 in
      (d.0, a.3 ∙ d.1)

-- ---- by the entries

sought_there : (es : List TypeEntry) (name : List ℕ) (e : TypeEntry) → word_name name ≡ true → entry_named es name ≡ Some e
    → find_entry es name ≡ Ok e
sought_there es name e w h = rw (w, h) refl

module _ (es : List TypeEntry) (interfaces : InterfaceBases) (last : ℕ) (name : List ℕ) (word : word_name name ≡ true) where
  pub unknown_entry : entry_named es name ≡ None
      → remove_type (repository es interfaces last) name ≡ refuse (fault.UnknownServiceType name)
  unknown_entry h =
      remove_unknown (repository es interfaces last) name word
      (type_of_entry es name ∙ ap (λ (o : Option TypeEntry). option_map entry_type o) h)

  pub remove_accepted : (e : TypeEntry) → AreEntries es interfaces last → entry_named es name ≡ Some e
      → sub_entry es name ≡ None → IsOk (remove_type (repository es interfaces last) name)
  remove_accepted e are h none =
      ok_from _ _ (removed es interfaces last name e are (sought_there es name e word h) none)

  pub has_sub_type : (e sub : TypeEntry) → AreEntries es interfaces last → entry_named es name ≡ Some e
      → sub_entry es name ≡ Some sub
      → remove_type (repository es interfaces last) name ≡ refuse (fault.HasSubTypes name sub.service_type.name)
  has_sub_type e sub are h some = has_sub es interfaces last name e sub are (sought_there es name e word h) some

pub word_from : (given name : List ℕ) (r b : Bool) → given ≡ name → r ≡ word_name given → r ≡ b → word_name name ≡ b
word_from given name r b same is answer = ap word_name (sym same) ∙ (sym is ∙ answer)

-- ---- what is left by accepted calls

none-mapped : (o : Option TypeEntry) → option_map entry_type o ≡ None → o ≡ None
none-mapped None h = refl
none-mapped (Some e) h = absurd (let bad : ⊥ = cc in bad)

module _ (es new : List TypeEntry) (interfaces : InterfaceBases) (last : ℕ) (name : List ℕ) (r : Repository)
    (view : repository es interfaces last ≡ r) where
  pub mask_content : new ≡ with_mask es name true → IsOk (mask_type r name)
      → mask_type r name ≡ Ok (reply.Masked, repository new interfaces last)
  mask_content n ok =
      mask_done r name ok
      ∙ ap (λ (after : Repository). Ok (reply.Masked, after))
      (ap (λ (x : Repository). set_mask x name true) (sym view)
      ∙ (sym (repository-masked es interfaces last name true)
      ∙ ap (λ (xs : List TypeEntry). repository xs interfaces last) (sym n)))

  pub unmask_content : new ≡ with_mask es name false → IsOk (unmask_type r name)
      → unmask_type r name ≡ Ok (reply.Unmasked, repository new interfaces last)
  unmask_content n ok =
      unmask_done r name ok
      ∙ ap (λ (after : Repository). Ok (reply.Unmasked, after))
      (ap (λ (x : Repository). set_mask x name false) (sym view)
      ∙ (sym (repository-masked es interfaces last name false)
      ∙ ap (λ (xs : List TypeEntry). repository xs interfaces last) (sym n)))

  pub remove_content : new ≡ without_entry es name → IsOk (remove_type r name)
      → remove_type r name ≡ Ok (reply.Removed, repository new interfaces last)
  remove_content n ok =
      (remove_done r name ok).1
      ∙ ap (λ (after : Repository). Ok (reply.Removed, after))
      (ap (λ (x : Repository). without x name) (sym view)
      ∙ (sym (repository-without es interfaces last name)
      ∙ ap (λ (xs : List TypeEntry). repository xs interfaces last) (sym n)))

  pub mask_keeps : (b : Bool) → AreEntries es interfaces last → new ≡ with_mask es name b
      → AreEntries new interfaces last
  mask_keeps b are n = rw n (entries-masked es interfaces last name b are)

  pub remove_keeps : AreEntries es interfaces last → new ≡ without_entry es name → IsOk (remove_type r name)
      → AreEntries new interfaces last
  remove_keeps are n ok =
      let none : sub_type (repository es interfaces last) name ≡ None =
      ap (λ (x : Repository). sub_type x name) view ∙ (remove_done r name ok).0 in
      rw n (entries-without es interfaces last name are
      (none-mapped (sub_entry es name) (sym (sub_type-kept es interfaces last name are.kept) ∙ none)))

pub mask_from : (r : Repository) (given name : List ℕ) (answer mask : Option Bool) → given ≡ name
    → answer ≡ mask_of r.types given → answer ≡ mask → mask_of r.types name ≡ mask
mask_from r given name answer mask same is content = ap (mask_of r.types) (sym same) ∙ (sym is ∙ content)

pub entry_from : (es : List TypeEntry) (given name : List ℕ) (found : Option TypeEntry) → given ≡ name
    → found ≡ entry_named es given → entry_named es name ≡ found
entry_from es given name found same is = ap (entry_named es) (sym same) ∙ sym is

no_entry : (found : Option (Bor TypeEntry)) → is_some found ≡ false → option_copied found ≡ None
no_entry None h = refl
no_entry (Some e) h = absurd (let bad : ⊥ = cc in bad)

some_entry : (found : Option (Bor TypeEntry)) → is_some found ≡ true → (e : TypeEntry) × (option_copied found ≡ Some e)
some_entry None h = absurd (let bad : ⊥ = cc in bad)
some_entry (Some e) h = (e.now, refl)

module _ (es : List TypeEntry) (interfaces : InterfaceBases) (last : ℕ) (name given : List ℕ) (found : Option (Bor TypeEntry))
    (none : Bool) (r : Repository) (view : repository es interfaces last ≡ r) (word : word_name name ≡ true)
    (same : given ≡ name) (is : option_copied found ≡ entry_named es given) (test : is_some found ≡ not none) where
  pub judged_unknown : none ≡ true → remove_type r name ≡ refuse (fault.UnknownServiceType name)
  judged_unknown h =
      ap (λ (x : Repository). remove_type x name) (sym view)
      ∙ unknown_entry es interfaces last name word
      (entry_from es given name None same (sym (no_entry found (test ∙ ap not h)) ∙ is))

  there_is : none ≡ false → (e : TypeEntry) × (entry_named es name ≡ Some e)
  there_is h =
      let f = some_entry found (test ∙ ap not h) in
      (f.0, entry_from es given name (Some f.0) same (sym f.1 ∙ is))

  pub judged_accepted : (gs : List TypeEntry) (g : List ℕ) → gs ≡ es → g ≡ name → AreEntries es interfaces last
      → none ≡ false → None ≡ sub_entry gs g → IsOk (remove_type r name)
  judged_accepted gs g p q are h sub =
      let e = there_is h in
      subst (λ (x : Repository). IsOk (remove_type x name)) view
      (remove_accepted es interfaces last name word e.0 are e.1
      (ap (λ (xs : List TypeEntry). sub_entry xs name) (sym p) ∙ (ap (sub_entry gs) (sym q) ∙ sym sub)))

  pub judged_sub : (gs : List TypeEntry) (g : List ℕ) (sub : TypeEntry) → gs ≡ es → g ≡ name → AreEntries es interfaces last
      → none ≡ false → Some sub ≡ sub_entry gs g
      → remove_type r name ≡ refuse (fault.HasSubTypes name sub.service_type.name)
  judged_sub gs g sub p q are h some =
      let e = there_is h in
      ap (λ (x : Repository). remove_type x name) (sym view)
      ∙ has_sub_type es interfaces last name word e.0 sub are e.1
      (ap (λ (xs : List TypeEntry). sub_entry xs name) (sym p) ∙ (ap (sub_entry gs) (sym q) ∙ sym some))
