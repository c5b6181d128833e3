-- What is written as a policy is read back.
use Rattle.std.proofs.Common.{◌≡◌, ◌≤◌, ℕ, Bool, true, false, cond, List, [], ◌∷◌, length, map, nat_le, Option, Some}
use Rattle.std.proofs.Common.{None, Ok, refl, sym, ◌∙◌, ap, subst}
use Rattle.std.proofs.lemmas.Bool.{le-leb}
use Rattle.std.proofs.lemmas.List.{length-map}
use Rattle.td_sameness.proofs.Symmetry.{same-refl}
use Rattle.td_value.specs.Enumerations.{follow_option_number}
use Rattle.td_typecode.specs.Layers.{value-boolean, value-octet, value-ulong, value-str, value-enum, value-items}
use Rattle.td_typecode.specs.Same.{same}
use Rattle.td_typecode.specs.declared.code.TypeCode.TheOpen as c
use Rattle.td_typecode.specs.declared.code.Value.{Value, out-Value}
use Rattle.td_typecode.specs.declared.code.Value.TheVariants as value
use Rattle.td_value.specs.declared.enumerations.FollowOption.{FollowOption}
use Rattle.td_value.specs.declared.enumerations.FollowOption.TheVariants.{LocalOnly, IfNoLocal, Always}
use Rattle.td_value.specs.declared.structures.Policy.{Policy}
use Rattle.td_policy.specs.Stated.{next_stated, nothing, stated, stated_value, states}
use Rattle.td_policy.specs.Values.{PolicyKind, truth_in, truth, number_in, number, rule_in, rule, items_of, items_in}
use Rattle.td_policy.specs.Values.{text_in}
use Rattle.td_policy.specs.Values.{text_of, texts, octet_in, octet_of, octets, policy}
use Rattle.td_policy.specs.declared.stated.Stated.{Stated}
use Rattle.td_policy.proofs.Alone.{truth_alone, number_alone, rule_alone, texts_alone, octets_alone}
use Rattle.td_sameness.specs.Graphs.{StandsAlone}

-- ---- the values

numbered : (r : FollowOption) → rule_in (c.Value::Enum (follow_option_number r)) ≡ Some r
numbered LocalOnly = refl
numbered IfNoLocal = refl
numbered Always = refl

rule_held : (r : FollowOption) → rule.value_of (rule.value r) ≡ Some r
rule_held r = ap rule_in (value-enum (follow_option_number r)) ∙ numbered r

items_again : {A : Type 0} (item_of : Value → Option A) (item : A → Value) → ((x : A) → item_of (item x) ≡ Some x)
    → (xs : List A) → items_of item_of (map item xs) ≡ Some xs
items_again item_of item again [] = refl
items_again item_of item again (x ∷ xs) = rw (again x, items_again item_of item again xs) refl

chosen : {A : Type 0} (b : Bool) (x y : Option A) → b ≡ true → x ≡ y → cond b x None ≡ y
chosen true x y is same = same
chosen false x y is same = cc

few_enough : {A : Type 0} (item_of : Value → Option A) (item : A → Value) → ((x : A) → item_of (item x) ≡ Some x)
    → (most : ℕ) (xs : List A) → length xs ≤ most
    → items_in item_of most (out-Value (value.Items (map item xs))) ≡ Some xs
few_enough item_of item again most xs few =
    let within : nat_le (length (map item xs)) most ≡ true =
    le-leb (length (map item xs)) most (subst (λ n. n ≤ most) (sym (length-map xs item)) few) in
    ap (items_in item_of most) (value-items (map item xs))
    ∙ chosen _ (items_of item_of (map item xs)) (Some xs) within (items_again item_of item again xs)

-- ---- a policy

read_back : {A : Type 0} (kind : PolicyKind A) (name : List ℕ) (x : A) → StandsAlone kind.code
    → kind.value_of (kind.value x) ≡ Some x → stated_value kind (policy kind name x) ≡ Ok (Some x)
read_back kind name x alone held = let alike : same kind.code kind.code ≡ true = same-refl kind.code alone in
    rw (alike, held) refl

pub truth_back : (name : List ℕ) (b : Bool) → stated_value truth (policy truth name b) ≡ Ok (Some b)
truth_back name b = read_back truth name b truth_alone (ap truth_in (value-boolean b))

pub number_back : (name : List ℕ) (n : ℕ) → stated_value number (policy number name n) ≡ Ok (Some n)
number_back name n = read_back number name n number_alone (ap number_in (value-ulong n))

pub rule_back : (name : List ℕ) (r : FollowOption) → stated_value rule (policy rule name r) ≡ Ok (Some r)
rule_back name r = read_back rule name r rule_alone (rule_held r)

pub texts_back : (name : List ℕ) (xs : List (List ℕ)) (most : ℕ) → length xs ≤ most
    → stated_value (texts most) (policy (texts most) name xs) ≡ Ok (Some xs)
texts_back name xs most few =
    read_back (texts most) name xs (texts_alone most)
    (few_enough text_of (λ t. value.Str t) (λ t. ap text_in (value-str t)) most xs few)

pub octets_back : (name : List ℕ) (xs : List ℕ) (most : ℕ) → length xs ≤ most
    → stated_value (octets most) (policy (octets most) name xs) ≡ Ok (Some xs)
octets_back name xs most few =
    read_back (octets most) name xs (octets_alone most)
    (few_enough octet_of (λ o. value.Octet o) (λ o. ap octet_in (value-octet o)) most xs few)

-- a policy alone, which states one field
pub alone : {A : Type 0} (kind : PolicyKind A) (put : Option A → Stated → Stated) (p : Policy) (x : A)
    → next_stated [] nothing p ≡ states kind put p nothing → stated_value kind p ≡ Ok (Some x)
    → stated (p ∷ []) ≡ Ok (put (Some x) nothing)
alone kind put p x listed held = rw (listed, held) refl
