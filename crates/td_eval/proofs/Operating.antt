-- Lists as operands, and the items of a list one by one.
use Rattle.std.proofs.Common.{◌≡◌, ℕ, ◌+◌, ◌<◌, ◌≤◌, Bool, true, false, ◌||◌, List, ◌∷◌, length, get_or, drop, Option}
use Rattle.std.proofs.Common.{Some, None, option_map, refl, ap, sym, ◌∙◌}
use Rattle.std.specs.Option.{option_and_then}
use Rattle.std.specs.List.{list_any}
use Rattle.std.proofs.lemmas.List.{drop_more, drop_all}
use Rattle.td_typecode.specs.declared.code.Value.{Value}
use Rattle.td_eval.specs.declared.simple.Simple.{Simple}
use Rattle.td_eval.specs.declared.simple.Sort.{Sort}
use Rattle.td_eval.specs.Comparing.{equals}
use Rattle.td_eval.specs.Kinds.{One, simple_under, with_item, all_under, list_of, list_under}
use Rattle.td_eval.specs.Values.{operand, membership}

pub operand_one : (o : Option Simple) → operand (option_map One o) ≡ o
operand_one None = refl
operand_one (Some x) = refl

operand_listed : (s : Option Sort) (xs : Option (List Simple)) → None ≡ operand (list_of s xs)
operand_listed None xs = refl
operand_listed (Some s) None = refl
operand_listed (Some s) (Some xs) = refl

pub operand_many : (kind : ℕ) (v : Value) → None ≡ operand (list_under kind v)
unfolding list_under
operand_many kind v = operand_listed _ _

pub member_of_one : (x : Simple) (o : Option Simple) → None ≡ option_and_then (membership x) (option_map One o)
member_of_one x None = refl
member_of_one x (Some y) = refl

-- ---- the items from a place on

joins : (x y : Simple) (found : Bool) (o : Option (List Simple))
    → option_map (λ xs. found || list_any (equals x) xs) (with_item (Some y) o)
    ≡ option_map (λ xs. (found || equals x y) || list_any (equals x) xs) o
joins x y found None = refl
joins x y true (Some xs) = refl
joins x y false (Some xs) = refl

pub one_more : (x y : Simple) (found : Bool) (kind : ℕ) (vs : List Value) (i : ℕ) (v : Value) → i < length vs
    → simple_under kind (get_or vs i v) ≡ Some y
    → option_map (λ xs. (found || equals x y) || list_any (equals x) xs) (all_under kind (drop (i + 1) vs))
    ≡ option_map (λ xs. found || list_any (equals x) xs) (all_under kind (drop i vs))
one_more x y found kind vs i v h e =
    let front : drop i vs ≡ get_or vs i v ∷ drop (i + 1) vs = drop_more vs i v h in
    sym (joins x y found (all_under kind (drop (i + 1) vs)))
    ∙ ap (λ o. option_map (λ xs. found || list_any (equals x) xs) (with_item o (all_under kind (drop (i + 1) vs))))
    (sym e)
    ∙ ap (λ l. option_map (λ xs. found || list_any (equals x) xs) (all_under kind l)) (sym front)

pub none_more : (x : Simple) (found : Bool) (kind : ℕ) (vs : List Value) (i : ℕ) (v : Value) → i < length vs
    → simple_under kind (get_or vs i v) ≡ None
    → option_map (λ xs. found || list_any (equals x) xs) (all_under kind (drop i vs)) ≡ None
none_more x found kind vs i v h e =
    let front : drop i vs ≡ get_or vs i v ∷ drop (i + 1) vs = drop_more vs i v h in
    ap (λ l. option_map (λ xs. found || list_any (equals x) xs) (all_under kind l)) front
    ∙ ap (λ o. option_map (λ xs. found || list_any (equals x) xs) (with_item o (all_under kind (drop (i + 1) vs)))) e

or_false : (b : Bool) → (b || false) ≡ b
or_false true = refl
or_false false = refl

pub no_more : (x : Simple) (found : Bool) (kind : ℕ) (vs : List Value) (i : ℕ) → length vs ≤ i
    → option_map (λ xs. found || list_any (equals x) xs) (all_under kind (drop i vs)) ≡ Some found
no_more x found kind vs i h =
    ap (λ l. option_map (λ xs. found || list_any (equals x) xs) (all_under kind l)) (drop_all i vs h)
    ∙ ap (λ b. Some b) (or_false found)

pub ruleset operands = (operand_one, operand_many)

pub ruleset by_item = (one_more, none_more, no_more)
