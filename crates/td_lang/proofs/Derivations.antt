-- The phrases are the derivations.
use Rattle.std.proofs.Common.{ℕ, ◌≤◌, List, [], ◌∷◌, ◌++◌, refl, ap, ◌∙◌, arith}
use Rattle.td_lang.specs.declared.expr.Op.{Op}
use Rattle.td_lang.specs.declared.expr.Op.TheVariants as op
use Rattle.td_lang.specs.declared.expr.Expr.{Expr}
use Rattle.td_lang.specs.declared.expr.Expr.TheVariants as expr
use Rattle.td_lang.specs.declared.token.Token.{Token}
use Rattle.td_lang.specs.declared.token.Token.TheVariants as token
use Rattle.td_lang.specs.Levels.{level, left, right}
use Rattle.td_lang.specs.Grammar.{Phrase, Operation, Within, Negation, Existence, PropertyName, Numeral, Negative}
use Rattle.td_lang.specs.Grammar.{Quoted, Truth, Parenthesis, IsOfLevel, tokens, tree}
use Rattle.td_lang.specs.Derivation.{HasPhrase, Nonterminal, Or, And, Compare, In, Twiddle, Sum, Term, NotFactor}
use Rattle.td_lang.specs.Derivation.{Factor}
use Rattle.td_lang.specs.Derivation.{binary_tokens, Derives, or_more, or_one, and_more, and_one, equal, unequal, less}
use Rattle.td_lang.specs.Derivation.{less_or_equal, greater, greater_or_equal, compare_one, in_list, in_one, occurs}
use Rattle.td_lang.specs.Derivation.{twiddle_one, plus, minus, sum_one, times, divided, term_one, denied}
use Rattle.td_lang.specs.Derivation.{not_factor_one, enclosed, exists, named, counted, opposed, quoted, truth}
use Rattle.td_lang.proofs.Soundness.{fits_lower}

abbrev pub level_of : Nonterminal → ℕ
level_of Or = 1
level_of And = 2
level_of Compare = 3
level_of In = 4
level_of Twiddle = 5
level_of Sum = 6
level_of Term = 7
level_of NotFactor = 8
level_of Factor = 9

lower : (k m : ℕ) (ts : List Token) (e : Expr) → k ≤ m → HasPhrase m ts e → HasPhrase k ts e
lower k m ts e h p = record {
  phrase = p.phrase;
  fits = fits_lower p.phrase k m h p.fits;
  spelled = p.spelled;
  tree_is = p.tree_is;
}

joins : (o : Op) (xs ys : List Token) (a b : Expr) → HasPhrase (left o) xs a → HasPhrase (right o) ys b
    → HasPhrase (level o) (binary_tokens xs o ys) (expr.Binary o a b)
joins o xs ys a b p q = record {
  phrase = Operation o p.phrase q.phrase;
  fits = (omega arith, p.fits, q.fits);
  spelled =
      ap (λ (z : List Token). z ++ token.Operator o ∷ tokens q.phrase) p.spelled
      ∙ ap (λ (z : List Token). xs ++ token.Operator o ∷ z) q.spelled;
  tree_is =
      ap (λ (z : Expr). expr.Binary o z (tree q.phrase)) p.tree_is ∙ ap (λ (z : Expr). expr.Binary o a z) q.tree_is;
}

pub made : (k : Nonterminal) (ts : List Token) (e : Expr) → Derives k ts e → HasPhrase (level_of k) ts e
made _ _ _ (or_more xs ys a b p q) = joins op.Or xs ys a b (made _ _ _ p) (made _ _ _ q)
made _ _ _ (or_one xs a p) = lower 1 2 xs a (omega arith) (made _ _ _ p)
made _ _ _ (and_more xs ys a b p q) = joins op.And xs ys a b (made _ _ _ p) (made _ _ _ q)
made _ _ _ (and_one xs a p) = lower 2 3 xs a (omega arith) (made _ _ _ p)
made _ _ _ (equal xs ys a b p q) = joins op.Eq xs ys a b (made _ _ _ p) (made _ _ _ q)
made _ _ _ (unequal xs ys a b p q) = joins op.Ne xs ys a b (made _ _ _ p) (made _ _ _ q)
made _ _ _ (less xs ys a b p q) = joins op.Lt xs ys a b (made _ _ _ p) (made _ _ _ q)
made _ _ _ (less_or_equal xs ys a b p q) = joins op.Le xs ys a b (made _ _ _ p) (made _ _ _ q)
made _ _ _ (greater xs ys a b p q) = joins op.Gt xs ys a b (made _ _ _ p) (made _ _ _ q)
made _ _ _ (greater_or_equal xs ys a b p q) = joins op.Ge xs ys a b (made _ _ _ p) (made _ _ _ q)
made _ _ _ (compare_one xs a p) = lower 3 4 xs a (omega arith) (made _ _ _ p)
made _ _ _ (in_list xs a name p) =
    let m = made _ _ _ p in
    record {
      phrase = Within m.phrase name;
      fits = (omega arith, m.fits);
      spelled = ap (λ (z : List Token). z ++ token.Within ∷ token.Name name ∷ []) m.spelled;
      tree_is = ap (λ (z : Expr). expr.Within z name) m.tree_is;
    }
made _ _ _ (in_one xs a p) = lower 4 5 xs a (omega arith) (made _ _ _ p)
made _ _ _ (occurs xs ys a b p q) = joins op.Twiddle xs ys a b (made _ _ _ p) (made _ _ _ q)
made _ _ _ (twiddle_one xs a p) = lower 5 6 xs a (omega arith) (made _ _ _ p)
made _ _ _ (plus xs ys a b p q) = joins op.Add xs ys a b (made _ _ _ p) (made _ _ _ q)
made _ _ _ (minus xs ys a b p q) = joins op.Sub xs ys a b (made _ _ _ p) (made _ _ _ q)
made _ _ _ (sum_one xs a p) = lower 6 7 xs a (omega arith) (made _ _ _ p)
made _ _ _ (times xs ys a b p q) = joins op.Mul xs ys a b (made _ _ _ p) (made _ _ _ q)
made _ _ _ (divided xs ys a b p q) = joins op.Div xs ys a b (made _ _ _ p) (made _ _ _ q)
made _ _ _ (term_one xs a p) = lower 7 8 xs a (omega arith) (made _ _ _ p)
made _ _ _ (denied xs a p) =
    let m = made _ _ _ p in
    record {
      phrase = Negation m.phrase;
      fits = (omega arith, m.fits);
      spelled = ap (λ (z : List Token). token.Not ∷ z) m.spelled;
      tree_is = ap (λ (z : Expr). expr.Not z) m.tree_is;
    }
made _ _ _ (not_factor_one xs a p) = lower 8 9 xs a (omega arith) (made _ _ _ p)
made _ _ _ (enclosed xs a p) =
    let m = made _ _ _ p in
    record {
      phrase = Parenthesis m.phrase;
      fits = (omega arith, m.fits);
      spelled = ap (λ (z : List Token). token.Open ∷ (z ++ token.Close ∷ [])) m.spelled;
      tree_is = m.tree_is;
    }
made _ _ _ (exists name) = record { phrase = Existence name; fits = omega arith; spelled = refl; tree_is = refl }
made _ _ _ (named name) = record { phrase = PropertyName name; fits = omega arith; spelled = refl; tree_is = refl }
made _ _ _ (counted n) = record { phrase = Numeral n; fits = omega arith; spelled = refl; tree_is = refl }
made _ _ _ (quoted t) = record { phrase = Quoted t; fits = omega arith; spelled = refl; tree_is = refl }
made _ _ _ (truth b) = record { phrase = Truth b; fits = omega arith; spelled = refl; tree_is = refl }
made _ _ _ (opposed n) = record { phrase = Negative n; fits = omega arith; spelled = refl; tree_is = refl }

-- a phrase of a higher level is one of a lower level
abbrev At : ℕ → List Token → Expr → Type 0
At n ts e = (k : Nonterminal) → level_of k ≤ n → Derives k ts e

at_or : (ts : List Token) (e : Expr) → Derives Or ts e → At 1 ts e
at_or ts e d Or h = d
at_or ts e d k h = absurd (omega arith)

at_and : (ts : List Token) (e : Expr) → Derives And ts e → At 2 ts e
at_and ts e d And h = d
at_and ts e d k h = at_or ts e (or_one ts e d) k (omega arith)

at_compare : (ts : List Token) (e : Expr) → Derives Compare ts e → At 3 ts e
at_compare ts e d Compare h = d
at_compare ts e d k h = at_and ts e (and_one ts e d) k (omega arith)

at_in : (ts : List Token) (e : Expr) → Derives In ts e → At 4 ts e
at_in ts e d In h = d
at_in ts e d k h = at_compare ts e (compare_one ts e d) k (omega arith)

at_twiddle : (ts : List Token) (e : Expr) → Derives Twiddle ts e → At 5 ts e
at_twiddle ts e d Twiddle h = d
at_twiddle ts e d k h = at_in ts e (in_one ts e d) k (omega arith)

at_sum : (ts : List Token) (e : Expr) → Derives Sum ts e → At 6 ts e
at_sum ts e d Sum h = d
at_sum ts e d k h = at_twiddle ts e (twiddle_one ts e d) k (omega arith)

at_term : (ts : List Token) (e : Expr) → Derives Term ts e → At 7 ts e
at_term ts e d Term h = d
at_term ts e d k h = at_sum ts e (sum_one ts e d) k (omega arith)

at_not_factor : (ts : List Token) (e : Expr) → Derives NotFactor ts e → At 8 ts e
at_not_factor ts e d NotFactor h = d
at_not_factor ts e d k h = at_term ts e (term_one ts e d) k (omega arith)

at_factor : (ts : List Token) (e : Expr) → Derives Factor ts e → At 9 ts e
at_factor ts e d Factor h = d
at_factor ts e d k h = at_not_factor ts e (not_factor_one ts e d) k (omega arith)

-- each phrase is derived, and each derivation gives a phrase
pub derives : (c : Phrase) (k : Nonterminal) → IsOfLevel (level_of k) c → Derives k (tokens c) (tree c)
derives (Operation op.Or a b) k f =
    at_or _ _ (or_more (tokens a) (tokens b) (tree a) (tree b) (derives a Or f.1) (derives b And f.2)) k f.0
derives (Operation op.And a b) k f =
    at_and _ _ (and_more (tokens a) (tokens b) (tree a) (tree b) (derives a And f.1) (derives b Compare f.2)) k f.0
derives (Operation op.Eq a b) k f =
    at_compare _ _ (equal (tokens a) (tokens b) (tree a) (tree b) (derives a In f.1) (derives b In f.2)) k f.0
derives (Operation op.Ne a b) k f =
    at_compare _ _ (unequal (tokens a) (tokens b) (tree a) (tree b) (derives a In f.1) (derives b In f.2)) k f.0
derives (Operation op.Lt a b) k f =
    at_compare _ _ (less (tokens a) (tokens b) (tree a) (tree b) (derives a In f.1) (derives b In f.2)) k f.0
derives (Operation op.Le a b) k f =
    at_compare _ _ (less_or_equal (tokens a) (tokens b) (tree a) (tree b) (derives a In f.1) (derives b In f.2)) k f.0
derives (Operation op.Gt a b) k f =
    at_compare _ _ (greater (tokens a) (tokens b) (tree a) (tree b) (derives a In f.1) (derives b In f.2)) k f.0
derives (Operation op.Ge a b) k f =
    at_compare _ _ (greater_or_equal (tokens a) (tokens b) (tree a) (tree b) (derives a In f.1) (derives b In f.2)) k
    f.0
derives (Operation op.Twiddle a b) k f =
    at_twiddle _ _ (occurs (tokens a) (tokens b) (tree a) (tree b) (derives a Sum f.1) (derives b Sum f.2)) k f.0
derives (Operation op.Add a b) k f =
    at_sum _ _ (plus (tokens a) (tokens b) (tree a) (tree b) (derives a Sum f.1) (derives b Term f.2)) k f.0
derives (Operation op.Sub a b) k f =
    at_sum _ _ (minus (tokens a) (tokens b) (tree a) (tree b) (derives a Sum f.1) (derives b Term f.2)) k f.0
derives (Operation op.Mul a b) k f =
    at_term _ _ (times (tokens a) (tokens b) (tree a) (tree b) (derives a Term f.1) (derives b NotFactor f.2)) k f.0
derives (Operation op.Div a b) k f =
    at_term _ _ (divided (tokens a) (tokens b) (tree a) (tree b) (derives a Term f.1) (derives b NotFactor f.2)) k f.0
derives (Within a name) k f = at_in _ _ (in_list (tokens a) (tree a) name (derives a Twiddle f.1)) k f.0
derives (Negation a) k f = at_not_factor _ _ (denied (tokens a) (tree a) (derives a Factor f.1)) k f.0
derives (Existence name) k f = at_factor _ _ (exists name) k f
derives (PropertyName name) k f = at_factor _ _ (named name) k f
derives (Numeral n) k f = at_factor _ _ (counted n) k f
derives (Quoted t) k f = at_factor _ _ (quoted t) k f
derives (Truth b) k f = at_factor _ _ (truth b) k f
derives (Negative n) k f = at_factor _ _ (opposed n) k f
derives (Parenthesis a) k f = at_factor _ _ (enclosed (tokens a) (tree a) (derives a Or f.1)) k f.0
