-- What is a truth or nothing, and the truth of it.
use Rattle.std.proofs.Common.{◌≡◌, ◌⊎◌, inl, inr, ℤ, pos, List, Bool, true, false, not, if◌then◌else◌}
use Rattle.std.proofs.Common.{Option, Some, None, option_map, refl, sym, ap, ◌∙◌}
use Rattle.std.specs.List.{list_any}
use Rattle.std.specs.Option.{option_and_then, unwrap_or}
use Rattle.std.specs.declared.cmp.Ordering.{Ordering}
use Rattle.td_lang.specs.declared.expr.Expr.TheVariants as expr
use Rattle.td_lang.specs.declared.expr.Op.{Op}
use Rattle.td_lang.specs.declared.expr.Op.TheVariants as op
use Rattle.td_eval.specs.declared.simple.Simple.{Simple}
use Rattle.td_eval.specs.declared.simple.Simple.TheVariants.{Number, Text, Truth}
use Rattle.td_eval.specs.Comparing.{comparison, equals, occurrence, order_of}
use Rattle.td_eval.specs.Fractions.{fraction, with_denominator_turned, sum, difference, product, quotient}
use Rattle.td_eval.specs.Kinds.{LangValue, One, Many}
use Rattle.td_eval.specs.Values.{application, asks, binary, is_arithmetic, is_connective, is_of, is_true, membership}
use Rattle.td_eval.specs.Values.{negation, simple_value, truth_in, within}
use Rattle.td_eval.proofs.Evaluating.{of_number}
use Rattle.td_value.specs.declared.structures.Property.{Property}

-- a truth or nothing as a value
abbrev pub as_value : Option Bool → Option Simple
as_value o = option_map (λ t. Truth t) o

pub truth_back : (o : Option Bool) → truth_in (as_value o) ≡ o
truth_back None = refl
truth_back (Some p) = refl

-- the truth of a value that is a truth or nothing
pub truth_from : (r : Option Bool) (o : Option Simple) → as_value r ≡ o → r ≡ truth_in o
truth_from r o e = sym (truth_back r) ∙ ap truth_in e

-- what is a truth or nothing is that truth
abbrev pub IsTruth : Option Simple → Type 0
IsTruth o = o ≡ as_value (truth_in o)

pub is_matching : (o : Option Simple) → unwrap_or (truth_in o) false ≡ is_true o
is_matching None = refl
is_matching (Some (Number n d)) = refl
is_matching (Some (Text t)) = refl
is_matching (Some (Truth p)) = refl

-- ---- `and` and `or`

pub and_true : (x y : Option Simple) → truth_in x ≡ Some true → truth_in (binary op.And x y) ≡ truth_in y
unfolding application
and_true None y e = absurd cc
and_true (Some (Number n d)) y e = absurd cc
and_true (Some (Text t)) y e = absurd cc
and_true (Some (Truth false)) y e = absurd cc
and_true (Some (Truth true)) None e = refl
and_true (Some (Truth true)) (Some (Number n d)) e = refl
and_true (Some (Truth true)) (Some (Text t)) e = refl
and_true (Some (Truth true)) (Some (Truth q)) e = refl

pub and_false : (x y : Option Simple) → truth_in x ≡ Some false → truth_in (binary op.And x y) ≡ Some false
unfolding application
and_false None y e = absurd cc
and_false (Some (Number n d)) y e = absurd cc
and_false (Some (Text t)) y e = absurd cc
and_false (Some (Truth true)) y e = absurd cc
and_false (Some (Truth false)) y e = refl

pub and_none : (x y : Option Simple) → truth_in x ≡ None → truth_in (binary op.And x y) ≡ None
unfolding application
and_none None y e = refl
and_none (Some (Number n d)) None e = refl
and_none (Some (Number n d)) (Some y) e = refl
and_none (Some (Text t)) None e = refl
and_none (Some (Text t)) (Some y) e = refl
and_none (Some (Truth p)) y e = absurd cc

pub or_false : (x y : Option Simple) → truth_in x ≡ Some false → truth_in (binary op.Or x y) ≡ truth_in y
unfolding application
or_false None y e = absurd cc
or_false (Some (Number n d)) y e = absurd cc
or_false (Some (Text t)) y e = absurd cc
or_false (Some (Truth true)) y e = absurd cc
or_false (Some (Truth false)) None e = refl
or_false (Some (Truth false)) (Some (Number n d)) e = refl
or_false (Some (Truth false)) (Some (Text t)) e = refl
or_false (Some (Truth false)) (Some (Truth q)) e = refl

pub or_true : (x y : Option Simple) → truth_in x ≡ Some true → truth_in (binary op.Or x y) ≡ Some true
unfolding application
or_true None y e = absurd cc
or_true (Some (Number n d)) y e = absurd cc
or_true (Some (Text t)) y e = absurd cc
or_true (Some (Truth false)) y e = absurd cc
or_true (Some (Truth true)) y e = refl

pub or_none : (x y : Option Simple) → truth_in x ≡ None → truth_in (binary op.Or x y) ≡ None
unfolding application
or_none None y e = refl
or_none (Some (Number n d)) None e = refl
or_none (Some (Number n d)) (Some y) e = refl
or_none (Some (Text t)) None e = refl
or_none (Some (Text t)) (Some y) e = refl
or_none (Some (Truth p)) y e = absurd cc

pub and_is_truth : (x y : Option Simple) → IsTruth (binary op.And x y)
unfolding application
and_is_truth None y = refl
and_is_truth (Some (Number n d)) None = refl
and_is_truth (Some (Number n d)) (Some y) = refl
and_is_truth (Some (Text t)) None = refl
and_is_truth (Some (Text t)) (Some y) = refl
and_is_truth (Some (Truth false)) y = refl
and_is_truth (Some (Truth true)) None = refl
and_is_truth (Some (Truth true)) (Some (Number n d)) = refl
and_is_truth (Some (Truth true)) (Some (Text t)) = refl
and_is_truth (Some (Truth true)) (Some (Truth q)) = refl

pub or_is_truth : (x y : Option Simple) → IsTruth (binary op.Or x y)
unfolding application
or_is_truth None y = refl
or_is_truth (Some (Number n d)) None = refl
or_is_truth (Some (Number n d)) (Some y) = refl
or_is_truth (Some (Text t)) None = refl
or_is_truth (Some (Text t)) (Some y) = refl
or_is_truth (Some (Truth true)) y = refl
or_is_truth (Some (Truth false)) None = refl
or_is_truth (Some (Truth false)) (Some (Number n d)) = refl
or_is_truth (Some (Truth false)) (Some (Text t)) = refl
or_is_truth (Some (Truth false)) (Some (Truth q)) = refl

-- ---- operators that are no connectives

pub applied : (o : Op) (x y : Simple) → is_connective o ≡ false → binary o (Some x) (Some y) ≡ application o x y
applied op.Or x y e = absurd cc
applied op.And x y e = absurd cc
applied op.Twiddle x y e = refl
applied op.Add x y e = refl
applied op.Sub x y e = refl
applied op.Mul x y e = refl
applied op.Div x y e = refl
applied op.Eq x y e = refl
applied op.Ne x y e = refl
applied op.Lt x y e = refl
applied op.Le x y e = refl
applied op.Gt x y e = refl
applied op.Ge x y e = refl

pub applied_none : (o : Op) (x : Simple) → is_connective o ≡ false → binary o (Some x) None ≡ None
applied_none op.Or x e = absurd cc
applied_none op.And x e = absurd cc
applied_none op.Twiddle x e = refl
applied_none op.Add x e = refl
applied_none op.Sub x e = refl
applied_none op.Mul x e = refl
applied_none op.Div x e = refl
applied_none op.Eq x e = refl
applied_none op.Ne x e = refl
applied_none op.Lt x e = refl
applied_none op.Le x e = refl
applied_none op.Gt x e = refl
applied_none op.Ge x e = refl

pub no_connective : (o : Op) → (o ≡ op.And → ⊥) → (o ≡ op.Or → ⊥) → is_connective o ≡ false
no_connective op.Or a b = absurd (b refl)
no_connective op.And a b = absurd (a refl)
no_connective op.Twiddle a b = refl
no_connective op.Add a b = refl
no_connective op.Sub a b = refl
no_connective op.Mul a b = refl
no_connective op.Div a b = refl
no_connective op.Eq a b = refl
no_connective op.Ne a b = refl
no_connective op.Lt a b = refl
no_connective op.Le a b = refl
no_connective op.Gt a b = refl
no_connective op.Ge a b = refl

pub calculates : (o : Op) → is_arithmetic o ≡ true → is_connective o ≡ false
calculates op.Or e = absurd cc
calculates op.And e = absurd cc
calculates op.Twiddle e = absurd cc
calculates op.Add e = refl
calculates op.Sub e = refl
calculates op.Mul e = refl
calculates op.Div e = refl
calculates op.Eq e = absurd cc
calculates op.Ne e = absurd cc
calculates op.Lt e = absurd cc
calculates op.Le e = absurd cc
calculates op.Gt e = absurd cc
calculates op.Ge e = absurd cc

ordered : (asked : Ordering → Bool) (o : Option Ordering) → IsTruth (option_map (λ r. Truth (asked r)) o)
ordered asked None = refl
ordered asked (Some r) = refl

compared : (asked : Ordering → Bool) (x y : Simple) → IsTruth (comparison asked x y)
compared asked x y = ordered asked (order_of x y)

-- ---- the others

occurs : (x y : Simple) → IsTruth (occurrence x y)
occurs (Text s) (Text t) = refl
occurs (Text s) (Number n d) = refl
occurs (Text s) (Truth p) = refl
occurs (Number n d) y = refl
occurs (Truth p) y = refl

-- what two operands come to is a truth or nothing, where the operator is no arithmetic
applied_is_truth : (o : Op) (x y : Simple) → is_arithmetic o ≡ false → is_connective o ≡ false
    → IsTruth (application o x y)
unfolding application
applied_is_truth op.Or x y e f = absurd cc
applied_is_truth op.And x y e f = absurd cc
applied_is_truth op.Twiddle x y e f = occurs x y
applied_is_truth op.Add x y e f = absurd cc
applied_is_truth op.Sub x y e f = absurd cc
applied_is_truth op.Mul x y e f = absurd cc
applied_is_truth op.Div x y e f = absurd cc
applied_is_truth op.Eq x y e f = compared (asks op.Eq) x y
applied_is_truth op.Ne x y e f = compared (asks op.Ne) x y
applied_is_truth op.Lt x y e f = compared (asks op.Lt) x y
applied_is_truth op.Le x y e f = compared (asks op.Le) x y
applied_is_truth op.Gt x y e f = compared (asks op.Gt) x y
applied_is_truth op.Ge x y e f = compared (asks op.Ge) x y

none_is_truth : (o : Option Simple) → o ≡ None → IsTruth o
none_is_truth o e = rw e refl

test_is_truth : (o : Op) (x y : Option Simple) → is_arithmetic o ≡ false → is_connective o ≡ false
    → IsTruth (binary o x y)
test_is_truth o None y e f = refl
test_is_truth o (Some x) None e f = none_is_truth _ (applied_none o x f)
test_is_truth o (Some x) (Some y) e f = rw (applied o x y f) (applied_is_truth o x y e f)

-- so is what any operator but those of arithmetic comes to
pub binary_is_truth : (o : Op) (x y : Option Simple) → is_arithmetic o ≡ false → IsTruth (binary o x y)
binary_is_truth op.Or x y e = or_is_truth x y
binary_is_truth op.And x y e = and_is_truth x y
binary_is_truth op.Twiddle x y e = test_is_truth op.Twiddle x y refl refl
binary_is_truth op.Add x y e = absurd cc
binary_is_truth op.Sub x y e = absurd cc
binary_is_truth op.Mul x y e = absurd cc
binary_is_truth op.Div x y e = absurd cc
binary_is_truth op.Eq x y e = test_is_truth op.Eq x y refl refl
binary_is_truth op.Ne x y e = test_is_truth op.Ne x y refl refl
binary_is_truth op.Lt x y e = test_is_truth op.Lt x y refl refl
binary_is_truth op.Le x y e = test_is_truth op.Le x y refl refl
binary_is_truth op.Gt x y e = test_is_truth op.Gt x y refl refl
binary_is_truth op.Ge x y e = test_is_truth op.Ge x y refl refl

pub not_is_truth : (x : Option Simple) → IsTruth (option_and_then negation x)
not_is_truth None = refl
not_is_truth (Some (Number n d)) = refl
not_is_truth (Some (Text t)) = refl
not_is_truth (Some (Truth p)) = refl

pub negated : (x : Option Simple) (p : Bool) → truth_in x ≡ Some p
    → truth_in (option_and_then negation x) ≡ Some (not p)
negated None p e = absurd cc
negated (Some (Number n d)) p e = absurd cc
negated (Some (Text t)) p e = absurd cc
negated (Some (Truth q)) p e = ap (option_map not) e

pub negated_none : (x : Option Simple) → truth_in x ≡ None → truth_in (option_and_then negation x) ≡ None
negated_none None e = refl
negated_none (Some (Number n d)) e = refl
negated_none (Some (Text t)) e = refl
negated_none (Some (Truth q)) e = absurd cc

found_if : (wanted found : Bool) → IsTruth (if wanted then Some (Truth found) else None)
found_if true found = refl
found_if false found = refl

member : (x : Simple) (c : LangValue) → IsTruth (membership x c)
member x (One y) = refl
member x (Many s xs) = found_if (is_of s x) (list_any (equals x) xs)

pub within_is_truth : (x : Option Simple) (c : Option LangValue) → IsTruth (within x c)
within_is_truth None c = refl
within_is_truth (Some x) None = refl
within_is_truth (Some x) (Some c) = member x c

-- ---- arithmetic gives no truth

number_if : (b : Bool) (n d : ℤ) → truth_in (if b then Some (Number n d) else None) ≡ None
number_if true n d = refl
number_if false n d = refl

of_fraction : (n d : ℤ) → truth_in (fraction n d) ≡ None
unfolding fraction
of_fraction n d = number_if _ n d

of_either : (b : Bool) (x y : Option Simple) → truth_in x ≡ None → truth_in y ≡ None
    → truth_in (if b then x else y) ≡ None
of_either true x y e f = e
of_either false x y e f = f

of_turned : (n d : ℤ) → truth_in (with_denominator_turned n d) ≡ None
unfolding with_denominator_turned
of_turned n d = of_either _ _ _ (of_fraction _ _) (of_fraction _ _)

of_sum : (x y : Simple) → truth_in (sum x y) ≡ None
of_sum (Number a b) (Number c d) = of_fraction _ _
of_sum (Number a b) (Text t) = refl
of_sum (Number a b) (Truth p) = refl
of_sum (Text t) y = refl
of_sum (Truth p) y = refl

of_difference : (x y : Simple) → truth_in (difference x y) ≡ None
of_difference (Number a b) (Number c d) = of_fraction _ _
of_difference (Number a b) (Text t) = refl
of_difference (Number a b) (Truth p) = refl
of_difference (Text t) y = refl
of_difference (Truth p) y = refl

of_product : (x y : Simple) → truth_in (product x y) ≡ None
of_product (Number a b) (Number c d) = of_fraction _ _
of_product (Number a b) (Text t) = refl
of_product (Number a b) (Truth p) = refl
of_product (Text t) y = refl
of_product (Truth p) y = refl

of_quotient : (x y : Simple) → truth_in (quotient x y) ≡ None
of_quotient (Number a b) (Number c d) = of_turned _ _
of_quotient (Number a b) (Text t) = refl
of_quotient (Number a b) (Truth p) = refl
of_quotient (Text t) y = refl
of_quotient (Truth p) y = refl

-- ---- the operators, one by one

pub occurring : (x y : Simple) (r : Option Bool) → as_value r ≡ occurrence x y
    → r ≡ truth_in (application op.Twiddle x y)
unfolding application
occurring x y r e = truth_from r _ e

-- the operators that compare two operands
abbrev IsComparison : Op → Type 0
IsComparison o =
    (o ≡ op.Eq) ⊎ ((o ≡ op.Ne) ⊎ ((o ≡ op.Lt) ⊎ ((o ≡ op.Le) ⊎ ((o ≡ op.Gt) ⊎ (o ≡ op.Ge)))))

pub comparing : (o : Op) (x y : Simple) (r : Option Bool) → IsComparison o → as_value r ≡ comparison (asks o) x y
    → r ≡ truth_in (application o x y)
unfolding application
comparing o x y r (inl e) f = rw e (truth_from r _ (rw e at f))
comparing o x y r (inr (inl e)) f = rw e (truth_from r _ (rw e at f))
comparing o x y r (inr (inr (inl e))) f = rw e (truth_from r _ (rw e at f))
comparing o x y r (inr (inr (inr (inl e)))) f = rw e (truth_from r _ (rw e at f))
comparing o x y r (inr (inr (inr (inr (inl e))))) f = rw e (truth_from r _ (rw e at f))
comparing o x y r (inr (inr (inr (inr (inr e))))) f = rw e (truth_from r _ (rw e at f))

pub calculating : (o : Op) (x y : Simple) → is_arithmetic o ≡ true → None ≡ truth_in (application o x y)
unfolding application
calculating op.Or x y e = absurd cc
calculating op.And x y e = absurd cc
calculating op.Twiddle x y e = absurd cc
calculating op.Add x y e = sym (of_sum x y)
calculating op.Sub x y e = sym (of_difference x y)
calculating op.Mul x y e = sym (of_product x y)
calculating op.Div x y e = sym (of_quotient x y)
calculating op.Eq x y e = absurd cc
calculating op.Ne x y e = absurd cc
calculating op.Lt x y e = absurd cc
calculating op.Le x y e = absurd cc
calculating op.Gt x y e = absurd cc
calculating op.Ge x y e = absurd cc

pub added : (x y : Simple) → sum x y ≡ application op.Add x y
unfolding application
added x y = refl

pub subtracted : (x y : Simple) → difference x y ≡ application op.Sub x y
unfolding application
subtracted x y = refl

pub multiplied : (x y : Simple) → product x y ≡ application op.Mul x y
unfolding application
multiplied x y = refl

pub divided : (x y : Simple) → quotient x y ≡ application op.Div x y
unfolding application
divided x y = refl

-- a number is no truth
pub number_no_truth : (map : List Property) (n : ℤ) → None ≡ truth_in (simple_value map (expr.Number n))
number_no_truth map n = sym (ap truth_in (of_number map n) ∙ of_fraction n (pos 1))

-- what a truth needs, and what an operand needs
pub ruleset of_tests = (occurring, calculating)

pub ruleset of_arithmetic = (added, subtracted, multiplied, divided)

pub ruleset of_truths = (
  and_true,
  and_false,
  and_none,
  or_true,
  or_false,
  or_none,
  applied,
  applied_none,
  no_connective,
  negated,
  negated_none,
)

pub ruleset of_operands = (binary_is_truth, not_is_truth, within_is_truth, applied, applied_none, calculates)
