-- Trading Object Service, "The Constraint Language".
-- The value of an expression over the properties of an offer: a number, a text, a truth value, a list, or nothing.
-- Operands are taken left to right; one without a value, or of a wrong kind, gives no value.
use Rattle.std.specs.Prelude.{pos, Bool, true, false, not, ◌&&◌, ◌||◌, List, if◌then◌else◌, Option, None, Some, IsTrue}
use Rattle.std.specs.Prelude.{option_map, option_and_then, is_some}
use Rattle.std.specs.List.{list_any}
use Rattle.std.specs.declared.cmp.Ordering.{Ordering}
use Rattle.std.specs.Ordering.{is_eq, is_lt, is_gt, is_le, is_ge}
use Rattle.td_lang.specs.declared.expr.Op.{Op}
use Rattle.td_lang.specs.declared.expr.Op.TheVariants as op
use Rattle.td_lang.specs.declared.expr.Expr.{Expr, Expr-F, fold-Expr}
use Rattle.td_lang.specs.declared.expr.Expr.TheOpen as layer
use Rattle.td_lang.specs.declared.expr.Constraint.{Constraint}
use Rattle.td_lang.specs.declared.expr.Constraint.TheVariants as constraint
use Rattle.td_value.specs.declared.structures.Property.{Property}
use Rattle.td_eval.specs.declared.simple.Simple.{Simple}
use Rattle.td_eval.specs.declared.simple.Simple.TheVariants.{Number, Text, Truth}
use Rattle.td_eval.specs.declared.simple.Sort.{Sort}
use Rattle.td_eval.specs.declared.simple.Sort.TheVariants.{Numbers, Texts, Truths}
use Rattle.td_eval.specs.Fractions.{fraction, sum, difference, product, quotient}
use Rattle.td_eval.specs.Comparing.{comparison, equals, occurrence}
use Rattle.td_eval.specs.Kinds.{LangValue, One, Many}
use Rattle.td_eval.specs.Properties.{property, content_named}

-- what an operator takes: a list is an operand of none
abbrev pub operand : Option LangValue → Option Simple
operand None = None
operand (Some (One x)) = Some x
operand (Some (Many s xs)) = None

-- ---- operators

abbrev pub conjunction : Simple → Simple → Option Simple
conjunction (Truth p) (Truth q) = Some (Truth (p && q))
conjunction x y = None

abbrev pub disjunction : Simple → Simple → Option Simple
disjunction (Truth p) (Truth q) = Some (Truth (p || q))
disjunction x y = None

abbrev pub negation : Simple → Option Simple
negation (Truth p) = Some (Truth (not p))
negation x = None

-- what a comparison asks of the order of its operands
abbrev pub asks : Op → Ordering → Bool
asks op.Ne o = not (is_eq o)
asks op.Lt o = is_lt o
asks op.Le o = is_le o
asks op.Gt o = is_gt o
asks op.Ge o = is_ge o
asks other o = is_eq o

-- two operands with an operator between them
unfoldable pub application : Op → Simple → Simple → Option Simple
application op.Or x y = disjunction x y
application op.And x y = conjunction x y
application op.Twiddle x y = occurrence x y
application op.Add x y = sum x y
application op.Sub x y = difference x y
application op.Mul x y = product x y
application op.Div x y = quotient x y
application o x y = comparison (asks o) x y

-- a left side that is the value whatever the right side is: FALSE before `and`, TRUE before `or`
abbrev pub decides : Op → Simple → Bool
decides op.Or (Truth p) = p
decides op.And (Truth p) = not p
decides o x = false

-- the operators between truths, and those between numbers that give a number
abbrev pub is_connective : Op → Bool
is_connective op.Or = true
is_connective op.And = true
is_connective o = false

abbrev pub is_arithmetic : Op → Bool
is_arithmetic op.Add = true
is_arithmetic op.Sub = true
is_arithmetic op.Mul = true
is_arithmetic op.Div = true
is_arithmetic o = false

abbrev pub binary : Op → Option Simple → Option Simple → Option Simple
binary o None right = None
binary o (Some x) right = if decides o x then Some x else option_and_then (application o x) right

-- ---- lists

abbrev pub is_of : Sort → Simple → Bool
is_of Numbers (Number n d) = true
is_of Texts (Text t) = true
is_of Truths (Truth p) = true
is_of s x = false

-- whether a value is an item of a list of its kind; nothing is an item of an empty one
abbrev pub membership : Simple → LangValue → Option Simple
membership x (One y) = None
membership x (Many s xs) = if is_of s x then Some (Truth (list_any (equals x) xs)) else None

abbrev pub within : Option Simple → Option LangValue → Option Simple
within None list = None
within (Some x) list = option_and_then (membership x) list

-- ---- expressions

abbrev pub is_true : Option Simple → Bool
is_true (Some (Truth p)) = p
is_true o = false

-- the truth that a value is, where it is one
abbrev pub truth_in : Option Simple → Option Bool
truth_in (Some (Truth p)) = Some p
truth_in o = None

module _ (map : List Property) where
  abbrev pub value_layer : Expr-F (Option LangValue) → Option LangValue
  value_layer (layer.Binary o a b) = option_map One (binary o (operand a) (operand b))
  value_layer (layer.Within a name) = option_map One (within (operand a) (content_named map name))
  value_layer (layer.Not a) = option_map One (option_and_then negation (operand a))
  value_layer (layer.Exist name) = Some (One (Truth (is_some (property map name))))
  value_layer (layer.Name name) = content_named map name
  value_layer (layer.Number n) = option_map One (fraction n (pos 1))
  value_layer (layer.Str t) = Some (One (Text t))
  value_layer (layer.Truth p) = Some (One (Truth p))

  unfoldable pub value : Expr → Option LangValue
  value = fold-Expr (Option LangValue) value_layer

  -- the value, where it is no list
  unfoldable pub simple_value : Expr → Option Simple
  simple_value e = operand (value e)

  -- ---- constraints

  -- an empty constraint matches, and any other one where its value is TRUE
  abbrev pub matches_constraint : Constraint → Bool
  matches_constraint constraint.Empty = true
  matches_constraint (constraint.Is e) = is_true (simple_value e)

  abbrev pub Matches : Constraint → Type 0
  Matches c = IsTrue (matches_constraint c)
