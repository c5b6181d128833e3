-- As it is defined, a list of policies states something, or an exception refuses it.
use Rattle.std.proofs.Common.{◌≡◌, ℕ, Bool, true, false, not, cond, List, [], ◌∷◌, Option, None, Some, Result, Ok, Err}
use Rattle.std.proofs.Common.{subst, bytes_eq}
use Rattle.std.specs.List.{AllByRecursion}
use Rattle.std.specs.Map.{lookup}
use Rattle.td_cdr.specs.Format.{◌>>=◌}
use Rattle.td_cdr.specs.Names.{identifier}
use Rattle.td_cdr.specs.Seen.{is_among}
use Rattle.td_typecode.specs.Same.{same}
use Rattle.td_value.specs.declared.structures.Policy.{Policy}
use Rattle.td_policy.specs.Stated.{if_known, next_stated, nothing, policies, stated, stated_after, stated_value, states}
use Rattle.td_policy.specs.Stated.{valid}
use Rattle.td_policy.specs.Fields.{kind_of, put}
use Rattle.td_policy.specs.Values.{PolicyKind}
use Rattle.td_policy.specs.declared.fault.PolicyFault.{PolicyFault}
use Rattle.td_policy.specs.declared.fault.PolicyFault.TheVariants as fault
use Rattle.td_policy.specs.declared.stated.Stated.{Stated}
use Rattle.td_policy.proofs.Fields.{States, each}

abbrev IsAnswered : {X : Type 0} → Result X PolicyFault → Type 0
IsAnswered (Ok x) = Unit {0}
IsAnswered (Err (fault.DuplicatePolicyName name)) = Unit {0}
IsAnswered (Err (fault.IllegalPolicyName name)) = Unit {0}
IsAnswered (Err (fault.PolicyTypeMismatch policy)) = Unit {0}
IsAnswered (Err (fault.InvalidPolicyValue policy)) = Unit {0}
IsAnswered (Err fault.Memory) = ⊥

when : {X : Type 0} (b : Bool) (x y : Result X PolicyFault) → IsAnswered x → IsAnswered y → IsAnswered (cond b x y)
when true x y h k = h
when false x y h k = k

bound : {X Y : Type 0} (r : Result X PolicyFault) (f : X → Result Y PolicyFault) → IsAnswered r
    → ((x : X) → IsAnswered (f x)) → IsAnswered (r >>= f)
bound (Ok x) f h k = k x
bound (Err (fault.DuplicatePolicyName name)) f h k = tt
bound (Err (fault.IllegalPolicyName name)) f h k = tt
bound (Err (fault.PolicyTypeMismatch policy)) f h k = tt
bound (Err (fault.InvalidPolicyValue policy)) f h k = tt
bound (Err fault.Memory) f h k = h

-- ---- one policy

valid-answered : {A : Type 0} (p : Policy) (o : Option A) → IsAnswered (valid p o)
valid-answered p None = tt
valid-answered p (Some x) = tt

value-answered : {A : Type 0} (kind : PolicyKind A) (p : Policy) → IsAnswered (stated_value kind p)
value-answered kind p =
    when (same p.value.code kind.code) (valid p (kind.value_of p.value.value)) (Err (fault.PolicyTypeMismatch p))
    (valid-answered p (kind.value_of p.value.value)) tt

abbrev Answers : States → Type 0
Answers entry = (p : Policy) (s : Stated) → IsAnswered (entry p s)

stating : {A : Type 0} (kind : PolicyKind A) (put : Option A → Stated → Stated) → Answers (states kind put)
stating kind put p s = bound (stated_value kind p) (λ x. Ok (put x s)) (value-answered kind p) (λ x. tt)

each-answers : AllByRecursion (λ x. Answers x.1) policies
each-answers = each (λ x. Answers x.1) (λ f. stating (kind_of f) (put f))

abbrev FoundAnswers : Option States → Type 0
FoundAnswers None = Unit {0}
FoundAnswers (Some entry) = Answers entry

found-when : (b : Bool) (entry : States) (later : Option States) → Answers entry → FoundAnswers later
    → FoundAnswers (cond b (Some entry) later)
found-when true entry later h k = h
found-when false entry later h k = k

looked : (test : List ℕ → Bool) (entries : List (List ℕ × States)) → AllByRecursion (λ x. Answers x.1) entries
    → FoundAnswers (lookup test entries)
looked test [] h = tt
looked test (x ∷ xs) h = found-when (test x.0) x.1 (lookup test xs) h.0 (looked test xs h.1)

known-answered : (found : Option States) (p : Policy) (s : Stated) → FoundAnswers found → IsAnswered (if_known found p s)
known-answered None p s h = tt
known-answered (Some entry) p s h = h p s

-- ---- a list of policies

next-answered : (earlier : List (List ℕ)) (s : Stated) (p : Policy) → IsAnswered (next_stated earlier s p)
next-answered earlier s p =
    let entry = if_known (lookup (bytes_eq p.name) policies) p s in
    when (not (identifier p.name)) (Err (fault.IllegalPolicyName p.name))
    (cond (is_among p.name earlier) (Err (fault.DuplicatePolicyName p.name)) entry) tt
    (when (is_among p.name earlier) (Err (fault.DuplicatePolicyName p.name)) entry tt
    (known-answered (lookup (bytes_eq p.name) policies) p s (looked (bytes_eq p.name) policies each-answers)))

after-answered : (earlier : List (List ℕ)) (s : Stated) (ps : List Policy) → IsAnswered (stated_after earlier s ps)
after-answered earlier s [] = tt
after-answered earlier s (p ∷ ps) =
    bound (next_stated earlier s p) (λ t. stated_after (p.name ∷ earlier) t ps) (next-answered earlier s p)
    (λ t. after-answered (p.name ∷ earlier) t ps)

pub stated-answered : (ps : List Policy) → stated ps ≡ Err fault.Memory → ⊥
stated-answered ps e = subst IsAnswered e (after-answered [] nothing ps)
