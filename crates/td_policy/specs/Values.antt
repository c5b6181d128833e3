-- The types of policies (Trading Object Service, "Policies"): of each its TypeCode as a trader writes it, which
-- value an any of that type holds, and how one is written.
use Rattle.std.specs.Prelude.{ℕ, nat_eq, nat_le, Bool, if◌then◌else◌, List, [], ◌∷◌, length, map, Option, Some, None}
use Rattle.std.specs.Prelude.{codes}
use Rattle.td_value.specs.Enumerations.{follow_option_number}
use Rattle.td_typecode.specs.Labels.{ValueLayer}
use Rattle.td_typecode.specs.declared.code.TypeCode.{TypeCode}
use Rattle.td_typecode.specs.declared.code.TypeCode.TheVariants as code
use Rattle.td_typecode.specs.declared.code.TypeCode.TheOpen as c
use Rattle.td_typecode.specs.declared.code.Value.{Value, out-Value}
use Rattle.td_typecode.specs.declared.code.Value.TheVariants as value
use Rattle.td_value.specs.declared.enumerations.FollowOption.{FollowOption}
use Rattle.td_value.specs.declared.enumerations.FollowOption.TheVariants.{LocalOnly, IfNoLocal, Always}
use Rattle.td_value.specs.declared.structures.Policy.{Policy}

pub record PolicyKind (A : Type 0) : Type 0 where
  pub code : TypeCode
  -- the value that is held, if it may stand there
  pub value_of : Value → Option A
  pub value : A → Value

-- ---- a truth value

abbrev pub truth_in : ValueLayer → Option Bool
truth_in (c.Value::Boolean b) = Some b
truth_in l = None

abbrev pub truth : PolicyKind Bool
truth = record {
  code = code.Boolean;
  value_of = λ v. truth_in (out-Value v);
  value = λ b. value.Boolean b;
}

-- ---- a number

abbrev pub number_in : ValueLayer → Option ℕ
number_in (c.Value::ULong n) = Some n
number_in l = None

abbrev pub number : PolicyKind ℕ
number = record {
  code = code.ULong;
  value_of = λ v. number_in (out-Value v);
  value = λ n. value.ULong n;
}

-- ---- a rule for following links

abbrev pub rule_code : TypeCode
rule_code =
    code.Enum (codes "IDL:omg.org/CosTrading/FollowOption:1.0") (codes "FollowOption")
    (codes "local_only" ∷ codes "if_no_local" ∷ codes "always" ∷ [])

abbrev pub rule_numbered : ℕ → Option FollowOption
rule_numbered n =
    if nat_eq n 0 then Some LocalOnly else if nat_eq n 1 then Some IfNoLocal else if nat_eq n 2
    then Some Always
    else None

abbrev pub rule_in : ValueLayer → Option FollowOption
rule_in (c.Value::Enum n) = rule_numbered n
rule_in l = None

abbrev pub rule : PolicyKind FollowOption
rule = record {
  code = rule_code;
  value_of = λ v. rule_in (out-Value v);
  value = λ r. value.Enum (follow_option_number r);
}

-- ---- a sequence without bound, of at most so many items

abbrev pub one_more : {A : Type 0} → Option A → Option (List A) → Option (List A)
one_more None xs = None
one_more (Some x) None = None
one_more (Some x) (Some xs) = Some (x ∷ xs)

-- the items, if each is one
abbrev pub items_of : {A : Type 0} → (Value → Option A) → List Value → Option (List A)
items_of item_of [] = Some []
items_of item_of (v ∷ vs) = one_more (item_of v) (items_of item_of vs)

abbrev pub items_in : {A : Type 0} → (Value → Option A) → (most : ℕ) → ValueLayer → Option (List A)
items_in item_of most (c.Items vs) = if nat_le (length vs) most then items_of item_of vs else None
items_in item_of most l = None

abbrev pub sequence : {A : Type 0} → TypeCode → (Value → Option A) → (A → Value) → (most : ℕ)
    → PolicyKind (List A)
sequence item_code item_of item most = record {
  code = code.Sequence item_code 0;
  value_of = λ v. items_in item_of most (out-Value v);
  value = λ xs. value.Items (map item xs);
}

abbrev pub text_in : ValueLayer → Option (List ℕ)
text_in (c.Value::Str t) = Some t
text_in l = None

abbrev pub text_of : Value → Option (List ℕ)
text_of v = text_in (out-Value v)

abbrev pub octet_in : ValueLayer → Option ℕ
octet_in (c.Value::Octet o) = Some o
octet_in l = None

abbrev pub octet_of : Value → Option ℕ
octet_of v = octet_in (out-Value v)

abbrev pub texts : (most : ℕ) → PolicyKind (List (List ℕ))
texts = sequence (code.Str 0) text_of (λ t. value.Str t)

abbrev pub octets : (most : ℕ) → PolicyKind (List ℕ)
octets = sequence code.Octet octet_of (λ o. value.Octet o)

-- ---- a policy as a trader writes it

abbrev pub policy : {A : Type 0} → PolicyKind A → (name : List ℕ) → A → Policy
policy kind name x = record {
  name = name;
  value = record { code = kind.code; value = kind.value x };
}
