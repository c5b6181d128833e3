-- Trading Object Service, appendix "OMG Constraint Language BNF", "The Constraint Language BNF".
-- The grammar of expressions as derivation trees: a phrase is a derivation, with its parentheses. What
-- departs from the appendix: a number has neither a fraction nor an exponent.
use Rattle.std.specs.Prelude.{◌≡◌, pos, neg_ℤ, ℕ, ◌-◌, ◌≤◌, ◌<◌, Bool, List, [], ◌∷◌, ◌++◌}
use Rattle.td_lang.specs.declared.expr.Op.{Op}
use Rattle.td_lang.specs.declared.expr.Op.TheVariants as op
use Rattle.td_lang.specs.declared.expr.Expr.{Expr}
use Rattle.td_lang.specs.declared.expr.Expr.TheVariants as expr
use Rattle.td_lang.specs.declared.token.Token.{Token}
use Rattle.td_lang.specs.declared.token.Token.TheVariants as token
use Rattle.td_lang.specs.Levels.{level, left, right}

pub data Phrase : Type 0 where
  Operation : Op → Phrase → Phrase → Phrase
  Within : Phrase → List ℕ → Phrase
  Negation : Phrase → Phrase
  Existence : List ℕ → Phrase
  PropertyName : List ℕ → Phrase
  Numeral : ℕ → Phrase
  Negative : ℕ → Phrase
  Quoted : List ℕ → Phrase
  Truth : Bool → Phrase
  Parenthesis : Phrase → Phrase

-- the phrase is one of the level
abbrev pub IsOfLevel : ℕ → Phrase → Type 0
IsOfLevel l (Operation o a b) = (l ≤ level o) × IsOfLevel (left o) a × IsOfLevel (right o) b
IsOfLevel l (Within a name) = (l ≤ 4) × IsOfLevel 5 a
IsOfLevel l (Negation a) = (l ≤ 8) × IsOfLevel 9 a
IsOfLevel l (Existence name) = l ≤ 9
IsOfLevel l (PropertyName name) = l ≤ 9
IsOfLevel l (Numeral n) = l ≤ 9
IsOfLevel l (Negative n) = l ≤ 9
IsOfLevel l (Quoted t) = l ≤ 9
IsOfLevel l (Truth b) = l ≤ 9
IsOfLevel l (Parenthesis a) = (l ≤ 9) × IsOfLevel 1 a

abbrev pub tokens : Phrase → List Token
tokens (Operation o a b) = tokens a ++ token.Operator o ∷ tokens b
tokens (Within a name) = tokens a ++ token.Within ∷ token.Name name ∷ []
tokens (Negation a) = token.Not ∷ tokens a
tokens (Existence name) = token.Exist ∷ token.Name name ∷ []
tokens (PropertyName name) = token.Name name ∷ []
tokens (Numeral n) = token.Number n ∷ []
tokens (Negative n) = token.Operator op.Sub ∷ token.Number n ∷ []
tokens (Quoted t) = token.Quoted t ∷ []
tokens (Truth b) = token.Truth b ∷ []
tokens (Parenthesis a) = token.Open ∷ (tokens a ++ token.Close ∷ [])

-- parentheses leave no node
abbrev pub tree : Phrase → Expr
tree (Operation o a b) = expr.Binary o (tree a) (tree b)
tree (Within a name) = expr.Within (tree a) name
tree (Negation a) = expr.Not (tree a)
tree (Existence name) = expr.Exist name
tree (PropertyName name) = expr.Name name
tree (Numeral n) = expr.Number (pos n)
tree (Negative n) = expr.Number (neg_ℤ (pos n))
tree (Quoted t) = expr.Str t
tree (Truth b) = expr.Truth b
tree (Parenthesis a) = tree a

-- at most so many parentheses are open anywhere
abbrev pub Shallow : ℕ → Phrase → Type 0
Shallow r (Operation o a b) = Shallow r a × Shallow r b
Shallow r (Within a name) = Shallow r a
Shallow r (Negation a) = Shallow r a
Shallow r (Existence name) = Unit {0}
Shallow r (PropertyName name) = Unit {0}
Shallow r (Numeral n) = Unit {0}
Shallow r (Negative n) = Unit {0}
Shallow r (Quoted t) = Unit {0}
Shallow r (Truth b) = Unit {0}
Shallow r (Parenthesis a) = (0 < r) × Shallow (r - 1) a

-- the tokens are an expression of the grammar, with at most 64 parentheses open, and this is its tree
pub record Sentence (ts : List Token) (e : Expr) : Type 0 where
  pub phrase : Phrase
  pub fits : IsOfLevel 1 phrase
  pub shallow : Shallow 64 phrase
  pub spelled : tokens phrase ≡ ts
  pub tree_is : tree phrase ≡ e
