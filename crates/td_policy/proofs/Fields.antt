-- What holds of every field of what is stated. One clause by its field makes the others cases of the last.
use Rattle.std.proofs.Common.{◌≡◌, ◌∙◌, ℕ, Bool, true, false, not, if◌then◌else◌, List, [], ◌∷◌, map, Option, Some, None}
use Rattle.std.proofs.Common.{Result, Ok, Err, refl, ap}
use Rattle.std.specs.List.{AllByRecursion}
use Rattle.std.specs.Map.{lookup}
use Rattle.std.specs.Str.{bytes_eq}
use Rattle.td_cdr.specs.Names.{identifier}
use Rattle.td_value.specs.declared.structures.Policy.{Policy}
use Rattle.td_policy.specs.Fields.{Field, exact, FieldValue, fields, kind_of, name_of, nothing, put, value_in}
use Rattle.td_policy.specs.Laws.{AloneStates}
use Rattle.td_policy.specs.Stated.{entry, if_known, next_stated, policies, stated, stated_value, states, with_policy}
use Rattle.td_policy.specs.declared.fault.PolicyFault.{PolicyFault}
use Rattle.td_policy.specs.declared.fault.PolicyFault.TheVariants as fault
use Rattle.td_policy.specs.declared.stated.Stated.{Stated}
use Rattle.td_policy.proofs.ReadBack.{alone}

pub there : (f : Field) (x : Option (FieldValue f)) (s : Stated) → value_in f (put f x s) ≡ x
there exact x s = refl
there _ x s = refl

pub none_first : (f : Field) → value_in f nothing ≡ None
none_first exact = refl
none_first _ = refl

pub apart : (f g : Field) → bytes_eq (name_of g) (name_of f) ≡ false → (x : Option (FieldValue g)) (s : Stated)
    → value_in f (put g x s) ≡ value_in f s
apart exact exact other x s = cc
apart _ exact other x s = cc
apart _ _ other x s = cc

-- ---- the table of policies

-- what the policy of a field's name states
pub listed : (f : Field) (p : Policy) (s : Stated) → p.name ≡ name_of f
    → with_policy p s ≡ states (kind_of f) (put f) p s
listed exact p s is = ap (λ n. if_known (lookup (bytes_eq n) policies) p s) is
listed _ p s is = ap (λ n. if_known (lookup (bytes_eq n) policies) p s) is

-- what holds of each field's entry holds of the table
abbrev pub States : Type 0
States = Policy → Stated → Result Stated PolicyFault

pub each : (Q : List ℕ × States → Type 0) → ((f : Field) → Q (entry f)) → AllByRecursion Q policies
each Q holds = along fields
  where
    along : (fs : List Field) → AllByRecursion Q (map entry fs)
    along [] = tt
    along (f ∷ fs) = (holds f, along fs)

-- ---- a policy alone

named_alone : (f : Field) (p : Policy) → p.name ≡ name_of f
    → next_stated [] nothing p ≡ states (kind_of f) (put f) p nothing
named_alone f p is = legal (identifier p.name) (ap identifier is ∙ identified f)
  where
    legal : (b : Bool) → b ≡ true
        → (if not b then Err (fault.IllegalPolicyName p.name) else with_policy p nothing)
        ≡ states (kind_of f) (put f) p nothing
    legal true e = listed f p nothing is
    legal false e = absurd (let bad : ⊥ = cc in bad)

    identified : (f : Field) → identifier (name_of f) ≡ true
    identified exact = refl
    identified _ = refl

pub alone_states : (f : Field) (p : Policy) (x : FieldValue f) → p.name ≡ name_of f
    → stated_value (kind_of f) p ≡ Ok (Some x) → AloneStates p (put f (Some x) nothing)
alone_states f p x is held = alone (kind_of f) (put f) p x (named_alone f p is) held
