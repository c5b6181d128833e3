-- What an importer states by its policies (Trading Object Service, "Policies" and interface Lookup, query: the
-- exceptions IllegalPolicyName, DuplicatePolicyName, PolicyTypeMismatch, InvalidPolicyValue).
use Rattle.std.specs.Prelude.{ℕ, not, if◌then◌else◌, List, [], ◌∷◌, map, Option, Some, None, Result, Ok, Err}
use Rattle.std.specs.Map.{lookup}
use Rattle.std.specs.Str.{bytes_eq}
use Rattle.td_cdr.specs.Format.{◌>>=◌}
use Rattle.td_cdr.specs.Names.{identifier}
use Rattle.td_cdr.specs.Seen.{is_among}
use Rattle.td_typecode.specs.Same.{same}
use Rattle.td_value.specs.declared.structures.Policy.{Policy}
use Rattle.td_policy.specs.Fields.{Field, fields, kind_of, name_of, put}
use Rattle.td_policy.specs.Values.{PolicyKind}
use Rattle.td_policy.specs.declared.fault.PolicyFault.{PolicyFault}
use Rattle.td_policy.specs.declared.fault.PolicyFault.TheVariants as fault
use Rattle.td_policy.specs.declared.stated.Stated.{Stated}
pub use Rattle.td_policy.specs.Fields.{nothing}

-- ---- one policy

abbrev pub valid : {A : Type 0} → Policy → Option A → Result (Option A) PolicyFault
valid p None = Err (fault.InvalidPolicyValue p)
valid p (Some x) = Ok (Some x)

-- the value that the policy states, or why it states none
abbrev pub stated_value : {A : Type 0} → PolicyKind A → Policy → Result (Option A) PolicyFault
stated_value kind p =
    if same p.value.code kind.code then valid p (kind.value_of p.value.value)
    else Err (fault.PolicyTypeMismatch p)

-- a policy of a type, and the field that it states
abbrev pub states : {A : Type 0} → PolicyKind A → (Option A → Stated → Stated) → Policy → Stated
    → Result Stated PolicyFault
states kind put p s = stated_value kind p >>= λ x. Ok (put x s)

-- the policies, by their names
abbrev pub entry : Field → List ℕ × (Policy → Stated → Result Stated PolicyFault)
entry f = (name_of f, states (kind_of f) (put f))

abbrev pub policies : List (List ℕ × (Policy → Stated → Result Stated PolicyFault))
policies = map entry fields

-- a policy of an unknown name states nothing
abbrev pub if_known : Option (Policy → Stated → Result Stated PolicyFault) → Policy → Stated
    → Result Stated PolicyFault
if_known None p s = Ok s
if_known (Some entry) p s = entry p s

abbrev pub with_policy : Policy → Stated → Result Stated PolicyFault
with_policy p s = if_known (lookup (bytes_eq p.name) policies) p s

-- ---- a list of policies

-- a policy after others of these names, which state this
abbrev pub next_stated : (earlier : List (List ℕ)) → Stated → Policy → Result Stated PolicyFault
next_stated earlier s p =
    if not (identifier p.name) then Err (fault.IllegalPolicyName p.name)
    else if is_among p.name earlier then Err (fault.DuplicatePolicyName p.name)
    else with_policy p s

abbrev pub stated_after : (earlier : List (List ℕ)) → Stated → List Policy
    → Result Stated PolicyFault
stated_after earlier s [] = Ok s
stated_after earlier s (p ∷ ps) = next_stated earlier s p >>= λ t.
    stated_after (p.name ∷ earlier) t ps

-- what a list of policies states, or the refusal of the first bad one
abbrev pub stated : List Policy → Result Stated PolicyFault
stated ps = stated_after [] nothing ps
