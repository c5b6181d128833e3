-- Service types: what their changes come to can be written.
use Rattle.std.proofs.Common.{◌≡◌, ℕ, ◌+◌, ◌≤◌, Bool, true, false, cond, not, ◌||◌, List, [], ◌∷◌, ◌++◌}
use Rattle.std.proofs.Common.{reverse, Option, Some, None, Ok, Err, refl, ap, subst, sym, ◌∙◌, arith}
use Rattle.std.proofs.lemmas.List.{reverse-append}
use Rattle.std.proofs.lemmas.List.Elements.{All-nil, All-cons}
use Rattle.std.proofs.lemmas.List.Folds.{list_any-append}
use Rattle.std.specs.Bool.{IsTrue}
use Rattle.std.specs.List.{All, list_any}
use Rattle.td_cdr.specs.Names.{word_name}
use Rattle.td_cdr.specs.Sound.{text}
use Rattle.td_ops.specs.Answers.{AdmitsOutcome}
use Rattle.td_ops.specs.declared.call.Change.TheVariants as change
use Rattle.td_ops.specs.declared.operation.Operation.{Operation}
use Rattle.td_ops.specs.declared.operation.Operation.TheVariants.{Types}
use Rattle.td_ops.specs.declared.operation.TypesOperation.TheVariants as operation
use Rattle.td_ops.specs.declared.outcome.Outcome.TheVariants.{Done}
use Rattle.td_ops.specs.declared.outcome.Reply.{Reply}
use Rattle.td_ops.specs.declared.outcome.Reply.TheVariants as reply
use Rattle.td_types.specs.Adding.{base_fault, definitions, inherited_definitions, last_incarnation, name_fault}
use Rattle.td_types.specs.Adding.{new_type, or_else, property_fault, redefinition, super_fault, supers_fault, with_type}
use Rattle.td_types.specs.Calls as types
use Rattle.td_types.specs.Calls.{add_fault}
use Rattle.td_types.specs.Repository.{IsWellFounded, IsRepository, Repository, has_type, halves, is_named, top}
use Rattle.td_types.specs.Repository.{type_named}
use Rattle.td_types.specs.Writable.{AreWritable, IsWritableFault, StaysWritable}
use Rattle.td_types.specs.declared.entry.ServiceType.{ServiceType}
use Rattle.td_types.specs.declared.fault.RepoFault.{RepoFault}
use Rattle.td_types.specs.declared.fault.RepoFault.TheVariants as fault
use Rattle.td_types.specs.declared.fault.TypesFault.TheVariants.{User as Raises, Full, Memory}
use Rattle.td_types.specs.declared.reply.TypesReply.{TypesReply}
use Rattle.td_types.proofs.Additions.{adding-written}
use Rattle.td_types.proofs.Admitted.{masking-written, removing-written, unmasking-written}
use Rattle.td_types.proofs.Outcomes.{after_adding, masking, removal, unmasking}
use Rattle.td_value.specs.Structures.{incarnation_number}
use Rattle.td_value.specs.declared.structures.PropStruct.{PropStruct}
use Rattle.td_register.proofs.NoFault.{no-first, no-later, there-is}
use Rattle.td_register.specs.Causes.{unless}
use Rattle.td_register.specs.Stores.{Store}
use Rattle.td_changes.specs.Applying.{comes_to}
use Rattle.td_admin.specs.Repositories.{exception_of, next_incarnation, types_cause, with_types}
use Rattle.td_trader_laws.specs.Writable.{IsWritableStore}
use Rattle.td_trader_laws.proofs.Admitting.{AdmitsComes, AdmitsException}
use Rattle.td_admin.proofs.TypesTold.{added-content}

-- ---- exceptions

pub fault-admitted : (f : RepoFault) → IsWritableFault f → AdmitsException (exception_of f)
fault-admitted (fault.IllegalServiceType name) h = (name, refl, h)
fault-admitted (fault.UnknownServiceType name) h = (name, refl, h)
fault-admitted (fault.ServiceTypeExists name) h = (name, refl, h)
fault-admitted (fault.IllegalPropertyName name) h = (name, refl, h)
fault-admitted (fault.DuplicatePropertyName name) h = (name, refl, h)
fault-admitted (fault.DuplicateServiceTypeName name) h = (name, refl, h)
fault-admitted (fault.InterfaceTypeMismatch base base_if derived derived_if) h =
    ((base, (base_if, (derived, derived_if))), refl, h)
fault-admitted (fault.ValueTypeRedefinition type_1 definition_1 type_2 definition_2) h =
    ((type_1, (definition_1, (type_2, definition_2))), refl, h)
fault-admitted (fault.HasSubTypes the_type sub_type) h = ((the_type, sub_type), refl, h)
fault-admitted (fault.AlreadyMasked name) h = (name, refl, h)
fault-admitted (fault.NotMasked name) h = (name, refl, h)

-- ---- a store with another repository

-- what besides is asked of the repository that an accepted call leaves
pub record IsAccepted (o : Operation) (content : Reply) (r : Repository) : Type 0 where
  pub reply : AdmitsOutcome o (Done content)
  pub valid : IsRepository r
  pub last : r.last ≤ last_incarnation

changes : (s : Store) (o : Operation) (content : Reply) (r : types.RepositoryResult) → IsWritableStore s → StaysWritable r
    → ((a : TypesReply × Repository) → r ≡ Ok a → IsAccepted o content a.1)
    → AdmitsComes o (unless (types_cause r) content (with_types s r))
changes s o content (Ok a) w h k =
    let is = k a refl in
    let valid = w.store in (
      is.reply,
      record {
        store = record {
          types = is.valid;
          types_writable = h.1;
          offers = valid.offers;
          offers_rise = valid.offers_rise;
          offers_counted = valid.offers_counted;
          few_offers = valid.few_offers;
          links = valid.links;
          links_named = valid.links_named;
          few_links = valid.few_links;
          attributes = valid.attributes;
        };
        numbers = w.numbers;
        last_offer = w.last_offer;
        incarnation = is.last;
      },
    )
changes s o content (Err (Raises f)) w h k = fault-admitted f h
changes s o content (Err Full) w h k = tt
changes s o content (Err Memory) w h k = tt

-- ---- a repository with one type more

turned : (a b : Bool) → (a || (b || false)) ≡ (b || a)
turned true true = refl
turned true false = refl
turned false true = refl
turned false false = refl

any-reverse : {X : Type 0} (p : X → Bool) (xs : List X) → list_any p (reverse xs) ≡ list_any p xs
any-reverse p [] = refl
any-reverse p (x ∷ xs) =
    ap (list_any p) (reverse-append (x ∷ []) xs)
    ∙ (list_any-append p (reverse xs) (x ∷ []) ∙ (rw (any-reverse p xs) (turned (list_any p xs) (p x))))

free-name : (named has : Bool) (x y : RepoFault) → cond (not named) (Some x) (cond has (Some y) None) ≡ None
    → has ≡ false
free-name false has x y h = absurd (let bad : ⊥ = cc in bad)
free-name true true x y h = absurd (let bad : ⊥ = cc in bad)
free-name true false x y h = refl

module _ (r : Repository) (name if_name : List ℕ) where
  based : (before : List (List ℕ)) (super : List ℕ) (found : Option ServiceType) → type_named r.types super ≡ found
      → base_fault r name if_name before super found ≡ None → has_type r.types super ≡ true
  based before super None is h = absurd (let bad : ⊥ = cc in bad)
  based before super (Some t) is h = there-is r.types super t is

  super-when : (named : Bool) (before : List (List ℕ)) (super : List ℕ)
      → cond named (base_fault r name if_name before super (type_named r.types super))
      (Some (fault.IllegalServiceType super)) ≡ None → has_type r.types super ≡ true
  super-when true before super h = based before super (type_named r.types super) refl h
  super-when false before super h = absurd (let bad : ⊥ = cc in bad)

  supers-there : (before supers : List (List ℕ)) → supers_fault r name if_name before supers ≡ None
      → All (λ s. IsTrue (has_type (reverse r.types) s)) supers
  supers-there before [] h = All-nil (λ (s : List ℕ). IsTrue (has_type (reverse r.types) s))
  supers-there before (s ∷ supers) h =
      let first = no-first (super_fault r name if_name before s) (supers_fault r name if_name (s ∷ before) supers) h in
      let rest = no-later (super_fault r name if_name before s) (supers_fault r name if_name (s ∷ before) supers) h in
      All-cons (λ (s : List ℕ). IsTrue (has_type (reverse r.types) s)) s supers
      (any-reverse (is_named s) r.types ∙ super-when (word_name s) before s first)
      (supers-there (s ∷ before) supers rest)

valid-added : (r : Repository) (name if_name : List ℕ) (props : List PropStruct) (supers : List (List ℕ))
    → IsRepository r → add_fault r name if_name props supers ≡ None
    → IsRepository (with_type r (new_type r name if_name props supers))
valid-added r name if_name props supers valid h =
    let t = new_type r name if_name props supers in
    let redefined = redefinition (definitions name true props) (inherited_definitions r supers) in
    let behind = or_else (supers_fault r name if_name [] supers) redefined in
    let rest = or_else (property_fault [] props) behind in
    let fresh =
    free-name (word_name name) (has_type r.types name) (fault.IllegalServiceType name) (fault.ServiceTypeExists name)
    (no-first (name_fault r name) rest h) in
    let known =
    supers-there r name if_name [] supers (no-first (supers_fault r name if_name [] supers) redefined
    (no-later (property_fault [] props) behind (no-later (name_fault r name) rest h))) in
    let counted = valid.counted in
    let turn : reverse (r.types ++ t ∷ []) ≡ t ∷ reverse r.types = reverse-append r.types (t ∷ []) in
    let founded : IsWellFounded (t ∷ reverse r.types) =
    IsWellFounded.more t (reverse r.types) (any-reverse (is_named name) r.types ∙ fresh) known (omega (arith, counted))
    valid.founded in
    let last : top (t ∷ reverse r.types) ≤ r.last + 1 = omega arith in
    record {
      founded = subst IsWellFounded (sym turn) founded;
      counted = subst (λ (ts : List ServiceType). top ts ≤ r.last + 1) (sym turn) last;
    }

-- ---- changes

pub halves-admitted : (n : ℕ) → n ≤ last_incarnation → incarnation_number.format.admits (halves n)
halves-admitted n h = (omega (arith, h), omega (arith, h))

pub adds : (s : Store) (name if_name : List ℕ) (props : List PropStruct) (supers : List (List ℕ)) → IsWritableStore s
    → AreWritable name if_name props supers
    → AdmitsComes (Types operation.AddType) (comes_to s (change.AddType name if_name props supers))
unfolding comes_to
adds s name if_name props supers w h =
    let next = next_incarnation s.types.last in
    changes s (Types operation.AddType) (reply.Incarnation (halves next))
    (types.add_type s.types name if_name props supers) w
    (adding-written s.types name if_name props supers w.store.types_writable h)
    (λ a e.
    let below = (added-content s.types name if_name props supers a e).below in
    let f = after_adding s.types name if_name props supers a.0 a.1 e in
    let after : with_type s.types (new_type s.types name if_name props supers) ≡ a.1 =
    ap (λ (p : TypesReply × Repository). p.1) f.1 in
    let last : s.types.last + 1 ≡ a.1.last = ap (λ (r : Repository). r.last) after in
    record {
      reply = (refl, (halves next, refl, halves-admitted next (omega (arith, below))));
      valid = subst IsRepository after (valid-added s.types name if_name props supers w.store.types f.0);
      last = omega (arith, last, below);
    })

pub removes : (s : Store) (name : List ℕ) → IsWritableStore s → text.format.admits name
    → AdmitsComes (Types operation.RemoveType) (comes_to s (change.RemoveType name))
unfolding comes_to
removes s name w n =
    changes s (Types operation.RemoveType) reply.Nothing (types.remove_type s.types name) w
    (removing-written s.types name w.store.types w.store.types_writable n)
    (λ a e.
    let is = removal s.types name a.0 a.1 w.store.types e in
    let last = is.last in
    let before = w.incarnation in
    record { reply = (refl, refl); valid = is.valid; last = omega (arith, last, before) })

pub masks : (s : Store) (name : List ℕ) → IsWritableStore s → text.format.admits name
    → AdmitsComes (Types operation.MaskType) (comes_to s (change.MaskType name))
unfolding comes_to
masks s name w n =
    changes s (Types operation.MaskType) reply.Nothing (types.mask_type s.types name) w
    (masking-written s.types name w.store.types_writable n)
    (λ a e.
    let is = masking s.types name a.0 a.1 w.store.types e in
    let last = is.last in
    let before = w.incarnation in
    record { reply = (refl, refl); valid = is.valid; last = omega (arith, last, before) })

pub unmasks : (s : Store) (name : List ℕ) → IsWritableStore s → text.format.admits name
    → AdmitsComes (Types operation.UnmaskType) (comes_to s (change.UnmaskType name))
unfolding comes_to
unmasks s name w n =
    changes s (Types operation.UnmaskType) reply.Nothing (types.unmask_type s.types name) w
    (unmasking-written s.types name w.store.types_writable n)
    (λ a e.
    let is = unmasking s.types name a.0 a.1 w.store.types e in
    let last = is.last in
    let before = w.incarnation in
    record { reply = (refl, refl); valid = is.valid; last = omega (arith, last, before) })
