-- What it means for a repository that a call was accepted.
use Rattle.std.proofs.Common.{◌≡◌, ℕ, suc, ◌+◌, ◌<◌, Bool, true, false, not, ◌||◌, cond, inl, inr, List, [], ◌∷◌}
use Rattle.std.proofs.Common.{reverse, length, refl, sym, ap, subst, ◌∙◌, arith, Option, None, Some, Ok, Err}
use Rattle.std.specs.List.{flat_map}
use Rattle.std.specs.Prelude.{slice_index_or}
use Rattle.std.specs.Str.{bytes_eq}
use Rattle.std.proofs.lemmas.Bool.{false≢true, both_ways, cases_Bool, or_cases, or_left, or_right, and_parts, and_from}
use Rattle.std.proofs.lemmas.Bool.{false_from_ne_true}
use Rattle.std.proofs.lemmas.List.Folds.{list_any-append}
use Rattle.td_cdr.specs.Names.{word_name}
use Rattle.td_value.specs.declared.structures.PropStruct.{PropStruct}
use Rattle.td_types.specs.declared.fault.RepoFault.{RepoFault}
use Rattle.td_types.specs.declared.fault.RepoFault.TheVariants as fault
use Rattle.td_types.specs.declared.fault.TypesFault.TheVariants.{Full}
use Rattle.td_types.specs.declared.reply.TypesReply.{TypesReply}
use Rattle.td_types.specs.declared.reply.TypesReply.TheVariants as reply
use Rattle.td_types.specs.Adding.{new_type, with_type, passes_limit}
use Rattle.td_types.specs.Calls.{RepositoryResult, refuse, unless, on_type, act_on, add_fault, add_type, sub_type}
use Rattle.td_types.specs.Calls.{remove_unless}
use Rattle.td_types.specs.Calls.{remove_type, without, set_mask, mask_type, unmask_type}
use Rattle.td_types.specs.Conforming.{walk, ancestors, conforms}
use Rattle.td_types.specs.Laws.{Removes, SetsMask, IsNewest}
use Rattle.td_types.specs.Repository.{Repository, ServiceType, IsRepository, is_named, is_among, type_named, mask_in}
use Rattle.td_types.specs.Repository.{has_type, IsWellFounded}
use Rattle.td_types.proofs.Chains.{same-bytes, bytes-same}
use Rattle.td_types.proofs.Masks.{masked_type, alike-masked, has-alike, named-masked, mask-set, all-unmasked}
use Rattle.td_types.proofs.Masks.{full-masked, ancestors-masked, conforms-masked, valid-masked}
use Rattle.td_types.proofs.Others.{has-others, named-others, has-not_gone}
use Rattle.td_types.proofs.Removed.{full-without, ancestors-without, conforms-without, valid-without}
use Rattle.td_types.proofs.Rising.{below-last}
use Rattle.td_types.proofs.Subtypes.{no-subtypes, ancestor-walked}

-- ---- the type of a name

named_when : (name : List ℕ) (x t : ServiceType) (b : Bool) (later : Option ServiceType) → is_named name x ≡ b
    → (later ≡ Some t → t.name ≡ name) → cond b (Some x) later ≡ Some t → t.name ≡ name
named_when name x t true later e there h =
    let same : x ≡ t = cc in subst (λ (y : ServiceType). y.name ≡ name) same (same-bytes x.name name e)
named_when name x t false later e there h = there h

pub named : (types : List ServiceType) (name : List ℕ) (t : ServiceType) → type_named types name ≡ Some t
    → t.name ≡ name
named [] name t h = absurd (let bad : ⊥ = cc in bad)
named (x ∷ types) name t h = named_when name x t (is_named name x) (type_named types name) refl (named types name t) h

known_when : (name : List ℕ) (act : ServiceType → RepositoryResult) (x : TypesReply × Repository) (b : Bool)
    (found : Option ServiceType)
    → cond b (act_on found name act) (refuse (fault.IllegalServiceType name)) ≡ Ok x
    → (t : ServiceType) × (found ≡ Some t) × (act t ≡ Ok x)
known_when name act x true (Some t) h = (t, refl, h)
known_when name act x true None h = absurd (let bad : ⊥ = cc in bad)
known_when name act x false found h = absurd (let bad : ⊥ = cc in bad)

-- an accepted call found the type and did this with it
known-ok : (r : Repository) (name : List ℕ) (act : ServiceType → RepositoryResult) (x : TypesReply × Repository)
    → on_type r name act ≡ Ok x
    → (t : ServiceType) × (t.name ≡ name) × (act t ≡ Ok x) × (type_named r.types name ≡ Some t)
known-ok r name act x h =
    let f = known_when name act x (word_name name) (type_named r.types name) h in
    (f.0, named r.types name f.0 f.1, f.2, f.1)

second : (a b : TypesReply × Repository) → ◌≡◌ {A = RepositoryResult} (Ok a) (Ok b) → a ≡ b
second a b h = cc

-- ---- removing

removed_when : (r : Repository) (t : ServiceType) (sub : Option ServiceType) (content : TypesReply) (after : Repository)
    → remove_unless r t sub ≡ Ok (content, after) → (sub ≡ None) × (without r t.name ≡ after)
removed_when r t None content after h =
    (refl, ap (λ (p : TypesReply × Repository). p.1) (second (reply.Removed, without r t.name) (content, after) h))
removed_when r t (Some sub) content after h = absurd (let bad : ⊥ = cc in bad)

pub after_removal : (r : Repository) (name : List ℕ) (content : TypesReply) (after : Repository)
    → remove_type r name ≡ Ok (content, after) → (sub_type r name ≡ None) × (without r name ≡ after)
unfolding remove_type
after_removal r name content after h =
    let f = known-ok r name (λ t. remove_unless r t (sub_type r name)) (content, after) h in
    let w = removed_when r f.0 (sub_type r name) content after f.2 in
    (w.0, subst (λ (n : List ℕ). without r n ≡ after) f.1 w.1)

removes : (r : Repository) (name : List ℕ) → IsRepository r → sub_type r name ≡ None → Removes name r (without r name)
removes r name valid none =
    let h = no-subtypes r.types name valid.founded none in
    record {
      valid = valid-without r name h valid;
      gone = has-not_gone name r.types;
      remaining = refl;
      types = λ other differs. named-others name other r.types differs;
      others = λ other differs. record {
        there = has-others name other r.types differs;
        properties = full-without r.types name other h differs;
        supertypes = ancestors-without r.types name other h differs;
        bases = λ base. conforms-without r.types name other base h differs;
      };
      interfaces = refl;
      last = refl;
    }

pub removal : (r : Repository) (name : List ℕ) (content : TypesReply) (after : Repository) → IsRepository r
    → remove_type r name ≡ Ok (content, after) → Removes name r after
removal r name content after valid h =
    let f = after_removal r name content after h in
    subst (Removes name r) f.1 (removes r name valid f.0)

-- ---- masking

sets : (r : Repository) (name : List ℕ) (masked : Bool) (t : ServiceType) → IsRepository r
    → type_named r.types name ≡ Some t → t.masked ≡ not masked → SetsMask name masked r (set_mask r name masked)
sets r name masked t valid found had = record {
  valid = valid-masked r name masked valid;
  had = ap mask_in found ∙ ap (λ (b : Bool). Some b) had;
  has = mask-set name masked r.types t found;
  all = all-unmasked name masked r.types;
  types = λ other differs. named-masked name masked r.types other differs;
  supertypes = λ n. record {
    there = has-alike (masked_type name masked) (alike-masked name masked) r.types n;
    properties = full-masked r.types name masked n;
    supertypes = ancestors-masked r.types name masked n;
    bases = λ base. conforms-masked r.types name masked n base;
  };
  interfaces = refl;
  last = refl;
}

masked_when : (b : Bool) (f : RepoFault) (done content : TypesReply) (later after : Repository)
    → cond b (refuse f) (Ok (done, later)) ≡ Ok (content, after) → (b ≡ false) × (later ≡ after)
masked_when true f done content later after h = absurd (let bad : ⊥ = cc in bad)
masked_when false f done content later after h =
    (refl, ap (λ (p : TypesReply × Repository). p.1) (second (done, later) (content, after) h))

unmasked_when : (b : Bool) (f : RepoFault) (done content : TypesReply) (later after : Repository)
    → cond b (Ok (done, later)) (refuse f) ≡ Ok (content, after) → (b ≡ true) × (later ≡ after)
unmasked_when false f done content later after h = absurd (let bad : ⊥ = cc in bad)
unmasked_when true f done content later after h =
    (refl, ap (λ (p : TypesReply × Repository). p.1) (second (done, later) (content, after) h))

pub masking : (r : Repository) (name : List ℕ) (content : TypesReply) (after : Repository) → IsRepository r
    → mask_type r name ≡ Ok (content, after) → SetsMask name true r after
unfolding mask_type
masking r name content after valid h =
    let act : ServiceType → RepositoryResult =
    λ t. cond t.masked (refuse (fault.AlreadyMasked name)) (Ok (reply.Masked, set_mask r name true)) in
    let f = known-ok r name act (content, after) h in
    let w = masked_when f.0.masked (fault.AlreadyMasked name) reply.Masked content (set_mask r name true) after f.2 in
    subst (SetsMask name true r) w.1 (sets r name true f.0 valid f.3 w.0)

pub unmasking : (r : Repository) (name : List ℕ) (content : TypesReply) (after : Repository) → IsRepository r
    → unmask_type r name ≡ Ok (content, after) → SetsMask name false r after
unfolding unmask_type
unmasking r name content after valid h =
    let act : ServiceType → RepositoryResult =
    λ t. cond t.masked (Ok (reply.Unmasked, set_mask r name false)) (refuse (fault.NotMasked name)) in
    let f = known-ok r name act (content, after) h in
    let w = unmasked_when f.0.masked (fault.NotMasked name) reply.Unmasked content (set_mask r name false) after f.2 in
    subst (SetsMask name false r) w.1 (sets r name false f.0 valid f.3 w.0)

-- ---- adding

added_when : (f : Option RepoFault) (full : Bool) (done content : TypesReply) (later after : Repository)
    → unless f (cond full (Err Full) (Ok (done, later))) ≡ Ok (content, after)
    → (f ≡ None) × (◌≡◌ {A = TypesReply × Repository} (done, later) (content, after))
added_when (Some f) full done content later after h = absurd (let bad : ⊥ = cc in bad)
added_when None true done content later after h = absurd (let bad : ⊥ = cc in bad)
added_when None false done content later after h = (refl, second (done, later) (content, after) h)

pub after_adding : (r : Repository) (name if_name : List ℕ) (props : List PropStruct) (supers : List (List ℕ))
    (content : TypesReply) (after : Repository)
    → add_type r name if_name props supers ≡ Ok (content, after)
    → (add_fault r name if_name props supers ≡ None)
    × (◌≡◌ {A = TypesReply × Repository}
    (reply.Added (r.last + 1), with_type r (new_type r name if_name props supers)) (content, after))
unfolding add_type
after_adding r name if_name props supers content after h =
    let t = new_type r name if_name props supers in
    added_when (add_fault r name if_name props supers) (passes_limit (with_type r t) t) (reply.Added (r.last + 1)) content
    (with_type r t) after h

pub newest : (r : Repository) (name if_name : List ℕ) (props : List PropStruct) (supers : List (List ℕ))
    (content : TypesReply) (after : Repository)
    → IsRepository r → add_type r name if_name props supers ≡ Ok (content, after) → IsNewest r after content
newest r name if_name props supers content after valid h =
    let t = new_type r name if_name props supers in
    let f = after_adding r name if_name props supers content after h in
    let last : r.last + 1 ≡ after.last = ap (λ (p : TypesReply × Repository). p.1.last) f.1 in
    let content_is : reply.Added (r.last + 1) ≡ content = ap (λ (p : TypesReply × Repository). p.0) f.1 in
    record {
      content_is = sym content_is ∙ ap (λ (n : ℕ). reply.Added n) last;
      above_last = omega (arith, last);
      above_all = below-last r after.last (omega (arith, last)) valid;
    }

-- ---- conforming

pub conforms-itself : (types : List ServiceType) (a : List ℕ) → has_type types a ≡ true → conforms types a a ≡ true
conforms-itself types a h =
    and_from (has_type types a) (bytes_eq a a || is_among a (ancestors types a)) h
    (or_left (bytes_eq a a) (is_among a (ancestors types a)) (bytes-same a a refl))

pub walks-when : (b : Bool) (x : List ℕ) (xs ys : List (List ℕ)) → is_among x (cond b xs ys) ≡ true
    → (b ≡ false → is_among x ys ≡ true) × (b ≡ true → is_among x xs ≡ true)
walks-when true x xs ys h = ((λ e. absurd (false≢true (sym e))), (λ e. h))
walks-when false x xs ys h = ((λ e. h), (λ e. absurd (false≢true e)))

-- a name that is met on the way from some supertype
pub met : (f : List ℕ → List (List ℕ)) (supers : List (List ℕ)) (x : List ℕ)
    → is_among x (flat_map (λ s. s ∷ f s) supers) ≡ true
    → (s : List ℕ) × (is_among s supers ≡ true) × (is_among x (s ∷ f s) ≡ true)
met f [] x h = absurd (false≢true h)
met f (s ∷ supers) x h =
    elim (or_cases (is_among x (s ∷ f s)) (is_among x (flat_map (λ s. s ∷ f s) supers))
    (sym (list_any-append (bytes_eq x) (s ∷ f s) (flat_map (λ s. s ∷ f s) supers)) ∙ h)) [
      | inl here ↦ (s, or_left (bytes_eq s s) (is_among s supers) (bytes-same s s refl), here)
      | inr there ↦ let m = met f supers x there in (m.0, or_right (bytes_eq m.0 s) (is_among m.0 supers) m.1, m.2)
    ]

pub met-from : (f : List ℕ → List (List ℕ)) (supers : List (List ℕ)) (x s : List ℕ) → is_among s supers ≡ true
    → is_among x (s ∷ f s) ≡ true → is_among x (flat_map (λ s. s ∷ f s) supers) ≡ true
met-from f [] x s a h = absurd (false≢true a)
met-from f (first ∷ supers) x s a h =
    list_any-append (bytes_eq x) (first ∷ f first) (flat_map (λ s. s ∷ f s) supers)
    ∙ elim (or_cases (bytes_eq s first) (is_among s supers) a) [
      | inl here ↦ or_left (is_among x (first ∷ f first)) (is_among x (flat_map (λ s. s ∷ f s) supers))
          (subst (λ (n : List ℕ). is_among x (n ∷ f n) ≡ true) (same-bytes s first here) h)
      | inr there ↦ or_right (is_among x (first ∷ f first)) (is_among x (flat_map (λ s. s ∷ f s) supers))
          (met-from f supers x s there h)
    ]

pub has-super : (older : List ServiceType) (supers : List (List ℕ))
    → ((k : ℕ) (d : List ℕ) → k < length supers → has_type older (slice_index_or supers k d) ≡ true) → (s : List ℕ)
    → is_among s supers ≡ true → has_type older s ≡ true
has-super older [] h s a = absurd (false≢true a)
has-super older (first ∷ supers) h s a =
    elim (or_cases (bytes_eq s first) (is_among s supers) a) [
      | inl here ↦ subst (λ (n : List ℕ). has_type older n ≡ true) (sym (same-bytes s first here))
          (h 0 [] (omega arith))
      | inr there ↦ has-super older supers (λ k d b. h (suc k) d (omega (arith, b))) s there
    ]

-- what is met is there
pub walk-has : {ts : List ServiceType} → IsWellFounded ts → (a b : List ℕ) → is_among b (walk ts a) ≡ true
    → has_type ts b ≡ true
walk-has IsWellFounded.none a b h = absurd (false≢true h)
walk-has (IsWellFounded.more t older fresh supers higher f) a b h =
    or_right (is_named b t) (has_type older b)
    (elim (cases_Bool (is_named a t)) [
      | inr other ↦ walk-has f a b
          ((walks-when (is_named a t) b (flat_map (λ s. s ∷ walk older s) t.supers) (walk older a) h).0 other)
      | inl here ↦
          let m =
          met (walk older) t.supers b
          ((walks-when (is_named a t) b (flat_map (λ s. s ∷ walk older s) t.supers) (walk older a) h).1 here) in
          elim (or_cases (bytes_eq b m.0) (is_among b (walk older m.0)) m.2) [
            | inl same ↦ subst (λ (n : List ℕ). has_type older n ≡ true) (sym (same-bytes b m.0 same))
                (has-super older t.supers supers m.0 m.1)
            | inr further ↦ walk-has f m.0 b further
          ]
    ])

-- a name that is there isn't the new one, so its walk is the older one
walk-older : (t : ServiceType) (older : List ServiceType) (b : List ℕ) → has_type older t.name ≡ false
    → has_type older b ≡ true → walk (t ∷ older) b ≡ walk older b
walk-older t older b fresh there =
    let other : is_named b t ≡ false =
    false_from_ne_true (is_named b t)
    (λ e. both_ways (has_type older t.name) fresh
    (subst (λ (n : List ℕ). has_type older n ≡ true) (sym (same-bytes t.name b e)) there)) in
    rw other refl

pub walks-on : {ts : List ServiceType} → IsWellFounded ts → (a b c : List ℕ) → is_among b (walk ts a) ≡ true
    → is_among c (walk ts b) ≡ true → is_among c (walk ts a) ≡ true
walks-on IsWellFounded.none a b c h k = absurd (false≢true h)
walks-on (IsWellFounded.more t older fresh supers higher f) a b c h k =
    let from = flat_map (λ s. s ∷ walk older s) t.supers in
    elim (cases_Bool (is_named a t)) [
      | inr other ↦
          let h' = (walks-when (is_named a t) b from (walk older a) h).0 other in
          let k' = rw (walk-older t older b fresh (walk-has f a b h')) at k in
          rw other (walks-on f a b c h' k')
      | inl here ↦
          let m = met (walk older) t.supers b ((walks-when (is_named a t) b from (walk older a) h).1 here) in
          rw here (met-from (walk older) t.supers c m.0 m.1
          (elim (or_cases (bytes_eq b m.0) (is_among b (walk older m.0)) m.2) [
            | inl same ↦
                let e = same-bytes b m.0 same in
                let there : has_type older b ≡ true =
                subst (λ (n : List ℕ). has_type older n ≡ true) (sym e) (has-super older t.supers supers m.0 m.1) in
                or_right (bytes_eq c m.0) (is_among c (walk older m.0))
                (subst (λ (n : List ℕ). is_among c (walk older n) ≡ true) e
                (rw (walk-older t older b fresh there) at k))
            | inr further ↦
                or_right (bytes_eq c m.0) (is_among c (walk older m.0))
                (walks-on f m.0 b c further (rw (walk-older t older b fresh (walk-has f m.0 b further)) at k))
          ]))
    ]

pub conforms-on : (types : List ServiceType) (a b c : List ℕ) → IsWellFounded (reverse types) → conforms types a b ≡ true
    → conforms types b c ≡ true → conforms types a c ≡ true
conforms-on types a b c founded h k =
    let p = and_parts (has_type types a) (bytes_eq a b || is_among b (ancestors types a)) h in
    let q = and_parts (has_type types b) (bytes_eq b c || is_among c (ancestors types b)) k in
    and_from (has_type types a) (bytes_eq a c || is_among c (ancestors types a)) p.0
    (elim (or_cases (bytes_eq a b) (is_among b (ancestors types a)) p.1) [
      | inl same ↦ subst (λ (n : List ℕ). (bytes_eq n c || is_among c (ancestors types n)) ≡ true)
          (sym (same-bytes a b same)) q.1
      | inr met_b ↦
          or_right (bytes_eq a c) (is_among c (ancestors types a))
          (elim (or_cases (bytes_eq b c) (is_among c (ancestors types b)) q.1) [
            | inl same ↦ subst (λ (n : List ℕ). is_among n (ancestors types a) ≡ true) (same-bytes b c same) met_b
            | inr met_c ↦ ancestor-walked types a c
                ∙ walks-on founded a b c (sym (ancestor-walked types a b) ∙ met_b)
                (sym (ancestor-walked types b c) ∙ met_c)
          ])
    ])
