-- A printed tree has no spare parentheses, and no other phrase of the tree is without them.
use Rattle.std.proofs.Common.{ℤ, pos, negsuc, zero, suc, ◌≡◌, ℕ, ◌≤◌, Bool, true, false, nat_lt, if◌then◌else◌, List}
use Rattle.std.proofs.Common.{refl, sym, ap, subst, ◌∙◌, arith}
use Rattle.std.proofs.lemmas.Bool.{ltb-true}
use Rattle.td_lang.specs.declared.expr.Op.{Op}
use Rattle.td_lang.specs.declared.expr.Expr.{Expr, Expr-F, ind-Expr, roll-Expr}
use Rattle.td_lang.specs.declared.expr.Expr.TheFolds.{map-Expr}
use Rattle.td_lang.specs.declared.expr.Expr.TheVariants as expr
use Rattle.td_lang.specs.declared.expr.Expr.TheOpen as layer
use Rattle.td_lang.specs.Levels.{level, left, right}
use Rattle.td_lang.specs.Grammar.{Phrase, Operation, Within, Negation, Existence, PropertyName, Numeral, Negative}
use Rattle.td_lang.specs.Grammar.{Quoted, Truth, Parenthesis, IsOfLevel, tree}
use Rattle.td_lang.specs.Printing.{number_phrase, phrase_of, IsTight}
use Rattle.td_lang.proofs.Completeness.{level-high, level-right, left-high}
use Rattle.td_lang.proofs.PrintedPhrases.{again, bare, of-Binary, of-Within, of-Not, of-Exist, of-Name, of-Number}
use Rattle.td_lang.proofs.PrintedPhrases.{of-Str, of-Truth}

-- parentheses stand only where the phrase doesn't fit
tight_if : (t : Bool) (l m : ℕ) (c : Phrase) → nat_lt m l ≡ t → (IsOfLevel l c → l ≤ m) → IsTight 1 c → IsTight l c
    → IsTight l (if t then Parenthesis c else c)
tight_if true l m c is low one here = ((λ f. let most = low f in absurd (omega (arith, ltb-true m l is))), one)
tight_if false l m c is low one here = here

abbrev Tight : Expr → Type 0
Tight e = (l : ℕ) → IsTight l (phrase_of e l)

abbrev Kept : Type 0
Kept = (e : Expr) × Tight e

number_tight : (z : ℤ) (l : ℕ) → IsTight l (number_phrase z)
number_tight (pos n) l = tt
number_tight (negsuc n) l = omega arith

tight-Binary : (o : Op) (a b : Expr) → Tight a → Tight b → Tight (expr.Binary o a b)
tight-Binary o a b ta tb l =
    let c = Operation o (phrase_of a (left o)) (phrase_of b (right o)) in
    rw (of-Binary o a b l) (tight_if (nat_lt (level o) l) l (level o) c refl (λ f. f.0) (ta (left o), tb (right o))
    (ta (left o), tb (right o)))

tight-Within : (a : Expr) (n : List ℕ) → Tight a → Tight (expr.Within a n)
tight-Within a n ta l =
    rw (of-Within a n l) (tight_if (nat_lt 4 l) l 4 (Within (phrase_of a 5) n) refl (λ f. f.0) (ta 5) (ta 5))

tight-Not : (a : Expr) → Tight a → Tight (expr.Not a)
tight-Not a ta l = rw (of-Not a l) (tight_if (nat_lt 8 l) l 8 (Negation (phrase_of a 9)) refl (λ f. f.0) (ta 9) (ta 9))

step : (y : Expr-F Kept) → Tight (roll-Expr (map-Expr Kept Expr (λ k. k.0) y))
step (layer.Binary o a b) = rw (expr.rolls-Binary o a.0 b.0) (tight-Binary o a.0 b.0 a.1 b.1)
step (layer.Within a n) = rw (expr.rolls-Within a.0 n) (tight-Within a.0 n a.1)
step (layer.Not a) = rw (expr.rolls-Not a.0) (tight-Not a.0 a.1)
step (layer.Exist n) = rw (expr.rolls-Exist n) (λ l. rw (of-Exist n l) tt)
step (layer.Name n) = rw (expr.rolls-Name n) (λ l. rw (of-Name n l) tt)
step (layer.Number z) = rw (expr.rolls-Number z) (λ l. rw (of-Number z l) (number_tight z l))
step (layer.Str t) = rw (expr.rolls-Str t) (λ l. rw (of-Str t l) tt)
step (layer.Truth b) = rw (expr.rolls-Truth b) (λ l. rw (of-Truth b l) tt)

pub tight : (e : Expr) (l : ℕ) → IsTight l (phrase_of e l)
tight = ind-Expr Tight (λ x y is. subst (λ (z : Expr-F Expr). Tight (roll-Expr z)) is (step y))

-- where a phrase is of the level, it is printed without parentheses
left_bare : (t : Bool) (l m : ℕ) (c d : Phrase) → nat_lt m l ≡ t → l ≤ m → c ≡ d → c ≡ (if t then Parenthesis d else d)
left_bare true l m c d is low e = absurd (omega (arith, ltb-true m l is))
left_bare false l m c d is low e = e

enclosed_only : (t : Bool) (l : ℕ) (a expr_text : Phrase) → (IsOfLevel l a → ⊥) → IsOfLevel l expr_text
    → expr_text ≡ (if t then Parenthesis a else a) → Parenthesis a ≡ expr_text
enclosed_only true l a expr_text needed fits is = sym is
enclosed_only false l a expr_text needed fits is = absurd (needed (subst (IsOfLevel l) is fits))

pub only : (c : Phrase) (l : ℕ) → l ≤ 9 → IsOfLevel l c → IsTight l c → c ≡ phrase_of (tree c) l
only (Operation o a b) l high f t =
    let x = only a (left o) (omega (arith, left-high o)) f.1 t.0 in
    let y = only b (right o) (omega (arith, level-right o, level-high o)) f.2 t.1 in
    let same : Operation o a b ≡ Operation o (phrase_of (tree a) (left o)) (phrase_of (tree b) (right o)) =
    ap (λ (z : Phrase). Operation o z b) x ∙ ap (λ (z : Phrase). Operation o (phrase_of (tree a) (left o)) z) y in
    left_bare (nat_lt (level o) l) l (level o) (Operation o a b)
    (Operation o (phrase_of (tree a) (left o)) (phrase_of (tree b) (right o))) refl f.0 same
    ∙ sym (of-Binary o (tree a) (tree b) l)
only (Within a n) l high f t =
    let same : Within a n ≡ Within (phrase_of (tree a) 5) n =
    ap (λ (z : Phrase). Within z n) (only a 5 (omega arith) f.1 t) in
    left_bare (nat_lt 4 l) l 4 (Within a n) (Within (phrase_of (tree a) 5) n) refl f.0 same
    ∙ sym (of-Within (tree a) n l)
only (Negation a) l high f t =
    let same : Negation a ≡ Negation (phrase_of (tree a) 9) =
    ap (λ (z : Phrase). Negation z) (only a 9 (omega arith) f.1 t) in
    left_bare (nat_lt 8 l) l 8 (Negation a) (Negation (phrase_of (tree a) 9)) refl f.0 same ∙ sym (of-Not (tree a) l)
only (Existence n) l high f t = sym (of-Exist n l)
only (PropertyName n) l high f t = sym (of-Name n l)
only (Numeral n) l high f t = sym (of-Number (pos n) l)
only (Negative zero) l high f t = absurd (omega (arith, t))
only (Negative (suc n)) l high f t = sym (of-Number (negsuc n) l)
only (Quoted s) l high f t = sym (of-Str s l)
only (Truth b) l high f t = sym (of-Truth b l)
only (Parenthesis a) l high f t =
    let b = bare (tree a) l in
    let inner : phrase_of (tree a) 1 ≡ a = sym (only a 1 (omega arith) f.1 t.1) in
    enclosed_only b.0 l a (phrase_of (tree a) l) t.0 (again (tree a) l high).fits
    (b.1 ∙ ap (λ (z : Phrase). if b.0 then Parenthesis z else z) inner)
