-- Trading Object Service, appendix "OMG Constraint Language BNF", "The Constraint Language BNF".
-- The levels of the grammar: 1 bool_or, 2 bool_and, 3 bool_compare, 4 expr_in, 5 expr_twiddle, 6 expr, 7 term, 8
-- factor_not, 9 factor.
use Rattle.std.specs.Prelude.{ℕ}
use Rattle.td_lang.specs.declared.expr.Op.{Op}
use Rattle.td_lang.specs.declared.expr.Op.TheVariants as op

-- the level whose production has the operator
abbrev pub level : Op → ℕ
level op.Or = 1
level op.And = 2
level op.Eq = 3
level op.Ne = 3
level op.Lt = 3
level op.Le = 3
level op.Gt = 3
level op.Ge = 3
level op.Twiddle = 5
level op.Add = 6
level op.Sub = 6
level op.Mul = 7
level op.Div = 7

-- the level of its left operand: its own where operators of the level stand in a row
abbrev pub left : Op → ℕ
left op.Or = 1
left op.And = 2
left op.Eq = 4
left op.Ne = 4
left op.Lt = 4
left op.Le = 4
left op.Gt = 4
left op.Ge = 4
left op.Twiddle = 6
left op.Add = 6
left op.Sub = 6
left op.Mul = 7
left op.Div = 7

-- the level of its right operand
abbrev pub right : Op → ℕ
right op.Or = 2
right op.And = 3
right op.Eq = 4
right op.Ne = 4
right op.Lt = 4
right op.Le = 4
right op.Gt = 4
right op.Ge = 4
right op.Twiddle = 6
right op.Add = 7
right op.Sub = 7
right op.Mul = 8
right op.Div = 8
