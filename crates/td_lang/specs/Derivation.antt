-- Trading Object Service, appendix "OMG Constraint Language BNF", "The Constraint Language BNF".
-- The grammar of expressions, a rule for each production: the tokens of each kind, and their tree. What
-- departs from the appendix: a number has neither a fraction nor an exponent.
use Rattle.std.specs.Prelude.{◌≡◌, pos, neg_ℤ, ℕ, Bool, List, [], ◌∷◌, ◌++◌}
use Rattle.td_lang.specs.declared.expr.Op.{Op}
use Rattle.td_lang.specs.declared.expr.Op.TheVariants as op
use Rattle.td_lang.specs.declared.expr.Expr.{Expr}
use Rattle.td_lang.specs.declared.expr.Expr.TheVariants as expr
use Rattle.td_lang.specs.Grammar.{Phrase, IsOfLevel, tokens, tree}
use Rattle.td_lang.specs.declared.token.Token.{Token}
use Rattle.td_lang.specs.declared.token.Token.TheVariants as token

-- the appendix's bool_or, bool_and, bool_compare, expr_in, expr_twiddle, expr, term, factor_not and factor
pub data Nonterminal : Type 0 where
  Or : Nonterminal
  And : Nonterminal
  Compare : Nonterminal
  In : Nonterminal
  Twiddle : Nonterminal
  Sum : Nonterminal
  Term : Nonterminal
  NotFactor : Nonterminal
  Factor : Nonterminal

-- two operands with an operator between them
abbrev pub binary_tokens : List Token → Op → List Token → List Token
binary_tokens xs o ys = xs ++ token.Operator o ∷ ys

pub data Derives : Nonterminal → List Token → Expr → Type 0 where
  or_more : (xs ys : List Token) (a b : Expr)
      → Derives Or xs a → Derives And ys b
      → Derives Or (binary_tokens xs op.Or ys) (expr.Binary op.Or a b)
  or_one : (xs : List Token) (a : Expr) → Derives And xs a → Derives Or xs a
  and_more : (xs ys : List Token) (a b : Expr)
      → Derives And xs a → Derives Compare ys b
      → Derives And (binary_tokens xs op.And ys) (expr.Binary op.And a b)
  and_one : (xs : List Token) (a : Expr) → Derives Compare xs a → Derives And xs a
  equal : (xs ys : List Token) (a b : Expr)
      → Derives In xs a → Derives In ys b
      → Derives Compare (binary_tokens xs op.Eq ys) (expr.Binary op.Eq a b)
  unequal : (xs ys : List Token) (a b : Expr)
      → Derives In xs a → Derives In ys b
      → Derives Compare (binary_tokens xs op.Ne ys) (expr.Binary op.Ne a b)
  less : (xs ys : List Token) (a b : Expr)
      → Derives In xs a → Derives In ys b
      → Derives Compare (binary_tokens xs op.Lt ys) (expr.Binary op.Lt a b)
  less_or_equal : (xs ys : List Token) (a b : Expr)
      → Derives In xs a → Derives In ys b
      → Derives Compare (binary_tokens xs op.Le ys) (expr.Binary op.Le a b)
  greater : (xs ys : List Token) (a b : Expr)
      → Derives In xs a → Derives In ys b
      → Derives Compare (binary_tokens xs op.Gt ys) (expr.Binary op.Gt a b)
  greater_or_equal : (xs ys : List Token) (a b : Expr)
      → Derives In xs a → Derives In ys b
      → Derives Compare (binary_tokens xs op.Ge ys) (expr.Binary op.Ge a b)
  compare_one : (xs : List Token) (a : Expr) → Derives In xs a → Derives Compare xs a
  in_list : (xs : List Token) (a : Expr) (name : List ℕ)
      → Derives Twiddle xs a → Derives In (xs ++ token.Within ∷ token.Name name ∷ [])
      (expr.Within a name)
  in_one : (xs : List Token) (a : Expr) → Derives Twiddle xs a → Derives In xs a
  occurs : (xs ys : List Token) (a b : Expr)
      → Derives Sum xs a → Derives Sum ys b
      → Derives Twiddle (binary_tokens xs op.Twiddle ys) (expr.Binary op.Twiddle a b)
  twiddle_one : (xs : List Token) (a : Expr) → Derives Sum xs a → Derives Twiddle xs a
  plus : (xs ys : List Token) (a b : Expr)
      → Derives Sum xs a → Derives Term ys b
      → Derives Sum (binary_tokens xs op.Add ys) (expr.Binary op.Add a b)
  minus : (xs ys : List Token) (a b : Expr)
      → Derives Sum xs a → Derives Term ys b
      → Derives Sum (binary_tokens xs op.Sub ys) (expr.Binary op.Sub a b)
  sum_one : (xs : List Token) (a : Expr) → Derives Term xs a → Derives Sum xs a
  times : (xs ys : List Token) (a b : Expr)
      → Derives Term xs a → Derives NotFactor ys b
      → Derives Term (binary_tokens xs op.Mul ys) (expr.Binary op.Mul a b)
  divided : (xs ys : List Token) (a b : Expr)
      → Derives Term xs a → Derives NotFactor ys b
      → Derives Term (binary_tokens xs op.Div ys) (expr.Binary op.Div a b)
  term_one : (xs : List Token) (a : Expr) → Derives NotFactor xs a → Derives Term xs a
  denied : (xs : List Token) (a : Expr) → Derives Factor xs a
      → Derives NotFactor (token.Not ∷ xs) (expr.Not a)
  not_factor_one : (xs : List Token) (a : Expr) → Derives Factor xs a → Derives NotFactor xs a
  enclosed : (xs : List Token) (a : Expr) → Derives Or xs a
      → Derives Factor (token.Open ∷ (xs ++ token.Close ∷ [])) a
  exists : (name : List ℕ) → Derives Factor (token.Exist ∷ token.Name name ∷ []) (expr.Exist name)
  named : (name : List ℕ) → Derives Factor (token.Name name ∷ []) (expr.Name name)
  counted : (n : ℕ) → Derives Factor (token.Number n ∷ []) (expr.Number (pos n))
  opposed : (n : ℕ) → Derives Factor (token.Operator op.Sub ∷ token.Number n ∷ [])
      (expr.Number (neg_ℤ (pos n)))
  quoted : (t : List ℕ) → Derives Factor (token.Quoted t ∷ []) (expr.Str t)
  truth : (b : Bool) → Derives Factor (token.Truth b ∷ []) (expr.Truth b)

-- some phrase of the level has these tokens and this tree
pub record HasPhrase (l : ℕ) (ts : List Token) (e : Expr) : Type 0 where
  pub phrase : Phrase
  pub fits : IsOfLevel l phrase
  pub spelled : tokens phrase ≡ ts
  pub tree_is : tree phrase ≡ e
