-- What is printed is in the grammar at its level, has the tree, and has no more parentheses than any phrase of that
-- tree.
use Rattle.std.proofs.Common.{ℤ, pos, negsuc, zero, suc, ◌≡◌, ℕ, ◌-◌, ◌<◌, ◌≤◌, Bool, true, false, nat_lt}
use Rattle.std.proofs.Common.{if◌then◌else◌, List, refl, sym, ap, subst, ◌∙◌, arith}
use Rattle.std.proofs.lemmas.Bool.{le-ltb, ltb-false, ltb-true}
use Rattle.td_lang.specs.declared.expr.Op.{Op}
use Rattle.td_lang.specs.declared.expr.Expr.{Expr, Expr-F, ind-Expr, fold-roll-Expr, roll-Expr}
use Rattle.td_lang.specs.declared.expr.Expr.TheFolds.{map-Expr}
use Rattle.td_lang.specs.declared.expr.Expr.TheVariants as expr
use Rattle.td_lang.specs.declared.expr.Expr.TheOpen as layer
use Rattle.td_lang.specs.Levels.{level, left, right}
use Rattle.td_lang.specs.Grammar.{Phrase, Operation, Within, Negation, Existence, PropertyName, Numeral, Negative}
use Rattle.td_lang.specs.Grammar.{Quoted, Truth, Parenthesis, IsOfLevel, tokens, tree, Shallow, Sentence}
use Rattle.td_lang.specs.Printing.{number_phrase, phrase_of, phrase_layer, at_level}
use Rattle.td_lang.proofs.Completeness.{level-low, level-high, level-right, left-high}
use Rattle.td_lang.proofs.Soundness.{fits_lower}

tree_if : (b : Bool) (c : Phrase) → tree (if b then Parenthesis c else c) ≡ tree c
tree_if true c = refl
tree_if false c = refl

fits_if : (b : Bool) (l m : ℕ) (c : Phrase) → nat_lt m l ≡ b → l ≤ 9 → 1 ≤ m → IsOfLevel m c
    → IsOfLevel l (if b then Parenthesis c else c)
fits_if true l m c is high low f = (high, fits_lower c 1 m low f)
fits_if false l m c is high low f = fits_lower c l m (ltb-false m l is) f

pub record Printed (e : Expr) (l : ℕ) (c : Phrase) : Type 0 where
  pub fits : IsOfLevel l c
  pub tree_is : tree c ≡ e

abbrev Again : Expr → Type 0
Again e = (l : ℕ) → l ≤ 9 → Printed e l (phrase_of e l)

printed_number : (z : ℤ) (l : ℕ) → l ≤ 9 → Printed (expr.Number z) l (number_phrase z)
printed_number (pos n) l high = record { fits = high; tree_is = refl }
printed_number (negsuc n) l high = record { fits = high; tree_is = refl }

abbrev Kept : Type 0
Kept = (e : Expr) × Again e

binary_step : (o : Op) (a b : Expr) → Again a → Again b → (l : ℕ) → l ≤ 9
    → Printed (expr.Binary o a b) l (at_level l (level o) (Operation o (phrase_of a (left o)) (phrase_of b (right o))))
binary_step o a b pa pb l high =
    let x = pa (left o) (omega (arith, left-high o)) in
    let y = pb (right o) (omega (arith, level-right o, level-high o)) in
    let c = Operation o (phrase_of a (left o)) (phrase_of b (right o)) in
    record {
      fits = fits_if (nat_lt (level o) l) l (level o) c refl high (level-low o) (omega arith, x.fits, y.fits);
      tree_is =
          tree_if (nat_lt (level o) l) c ∙ ap (λ (z : Expr). expr.Binary o z (tree (phrase_of b (right o)))) x.tree_is
          ∙ ap (λ (z : Expr). expr.Binary o a z) y.tree_is;
    }

step : (y : Expr-F Kept) (l : ℕ) → l ≤ 9
    → Printed (roll-Expr (map-Expr Kept Expr (λ k. k.0) y)) l
    (phrase_of (roll-Expr (map-Expr Kept Expr (λ k. k.0) y)) l)
step (layer.Binary o a b) l high =
    let expr_text = binary_step o a.0 b.0 a.1 b.1 l high in
    rw (fold-roll-Expr (ℕ → Phrase) phrase_layer (layer.Binary o a.0 b.0)) (rw (expr.rolls-Binary o a.0 b.0) expr_text)
step (layer.Within a n) l high =
    let x = a.1 5 (omega arith) in
    let expr_text : Printed (expr.Within a.0 n) l (at_level l 4 (Within (phrase_of a.0 5) n)) = record {
      fits = fits_if (nat_lt 4 l) l 4 (Within (phrase_of a.0 5) n) refl high (omega arith) (omega arith, x.fits);
      tree_is = tree_if (nat_lt 4 l) (Within (phrase_of a.0 5) n) ∙ ap (λ (z : Expr). expr.Within z n) x.tree_is;
    } in
    rw (fold-roll-Expr (ℕ → Phrase) phrase_layer (layer.Within a.0 n)) (rw (expr.rolls-Within a.0 n) expr_text)
step (layer.Not a) l high =
    let x = a.1 9 (omega arith) in
    let expr_text : Printed (expr.Not a.0) l (at_level l 8 (Negation (phrase_of a.0 9))) = record {
      fits = fits_if (nat_lt 8 l) l 8 (Negation (phrase_of a.0 9)) refl high (omega arith) (omega arith, x.fits);
      tree_is = tree_if (nat_lt 8 l) (Negation (phrase_of a.0 9)) ∙ ap (λ (z : Expr). expr.Not z) x.tree_is;
    } in
    rw (fold-roll-Expr (ℕ → Phrase) phrase_layer (layer.Not a.0)) (rw (expr.rolls-Not a.0) expr_text)
step (layer.Exist n) l high =
    rw (fold-roll-Expr (ℕ → Phrase) phrase_layer (layer.Exist n))
    (rw (expr.rolls-Exist n) (record { fits = high; tree_is = refl }))
step (layer.Name n) l high =
    rw (fold-roll-Expr (ℕ → Phrase) phrase_layer (layer.Name n))
    (rw (expr.rolls-Name n) (record { fits = high; tree_is = refl }))
step (layer.Number n) l high =
    rw (fold-roll-Expr (ℕ → Phrase) phrase_layer (layer.Number n)) (rw (expr.rolls-Number n) (printed_number n l high))
step (layer.Str t) l high =
    rw (fold-roll-Expr (ℕ → Phrase) phrase_layer (layer.Str t))
    (rw (expr.rolls-Str t) (record { fits = high; tree_is = refl }))
step (layer.Truth b) l high =
    rw (fold-roll-Expr (ℕ → Phrase) phrase_layer (layer.Truth b))
    (rw (expr.rolls-Truth b) (record { fits = high; tree_is = refl }))

pub again : (e : Expr) (l : ℕ) → l ≤ 9 → Printed e l (phrase_of e l)
again = ind-Expr Again (λ x y is. subst (λ (z : Expr-F Expr). Again (roll-Expr z)) is (step y))

-- what is printed is read as the tree, where few enough parentheses are open
pub is_read : (e : Expr) → Shallow 64 (phrase_of e 1) → Sentence (tokens (phrase_of e 1)) e
is_read e shallow =
    let p = again e 1 (omega arith) in
    record { phrase = phrase_of e 1; fits = p.fits; shallow = shallow; spelled = refl; tree_is = p.tree_is }

pub shallow_more : (c : Phrase) (r s : ℕ) → r ≤ s → Shallow r c → Shallow s c
shallow_more (Operation o a b) r s h k = (shallow_more a r s h k.0, shallow_more b r s h k.1)
shallow_more (Within a n) r s h k = shallow_more a r s h k
shallow_more (Negation a) r s h k = shallow_more a r s h k
shallow_more (Existence n) r s h k = tt
shallow_more (PropertyName n) r s h k = tt
shallow_more (Numeral n) r s h k = tt
shallow_more (Negative n) r s h k = tt
shallow_more (Quoted t) r s h k = tt
shallow_more (Truth b) r s h k = tt
shallow_more (Parenthesis a) r s h k = (omega (arith, k.0), shallow_more a (r - 1) (s - 1) (omega arith) k.1)

pub of-Binary : (o : Op) (a b : Expr) (l : ℕ)
    → phrase_of (expr.Binary o a b) l
    ≡ at_level l (level o) (Operation o (phrase_of a (left o)) (phrase_of b (right o)))
of-Binary o a b l =
    ap (λ (e : Expr). phrase_of e l) (sym (expr.rolls-Binary o a b))
    ∙ ap (λ (f : ℕ → Phrase). f l) (fold-roll-Expr (ℕ → Phrase) phrase_layer (layer.Binary o a b))

pub of-Within : (a : Expr) (n : List ℕ) (l : ℕ)
    → phrase_of (expr.Within a n) l ≡ at_level l 4 (Within (phrase_of a 5) n)
of-Within a n l =
    ap (λ (e : Expr). phrase_of e l) (sym (expr.rolls-Within a n))
    ∙ ap (λ (f : ℕ → Phrase). f l) (fold-roll-Expr (ℕ → Phrase) phrase_layer (layer.Within a n))

pub of-Not : (a : Expr) (l : ℕ) → phrase_of (expr.Not a) l ≡ at_level l 8 (Negation (phrase_of a 9))
of-Not a l =
    ap (λ (e : Expr). phrase_of e l) (sym (expr.rolls-Not a))
    ∙ ap (λ (f : ℕ → Phrase). f l) (fold-roll-Expr (ℕ → Phrase) phrase_layer (layer.Not a))

pub of-Exist : (n : List ℕ) (l : ℕ) → phrase_of (expr.Exist n) l ≡ Existence n
of-Exist n l =
    ap (λ (e : Expr). phrase_of e l) (sym (expr.rolls-Exist n))
    ∙ ap (λ (f : ℕ → Phrase). f l) (fold-roll-Expr (ℕ → Phrase) phrase_layer (layer.Exist n))

pub of-Name : (n : List ℕ) (l : ℕ) → phrase_of (expr.Name n) l ≡ PropertyName n
of-Name n l =
    ap (λ (e : Expr). phrase_of e l) (sym (expr.rolls-Name n))
    ∙ ap (λ (f : ℕ → Phrase). f l) (fold-roll-Expr (ℕ → Phrase) phrase_layer (layer.Name n))

pub of-Number : (n : ℤ) (l : ℕ) → phrase_of (expr.Number n) l ≡ number_phrase n
of-Number n l =
    ap (λ (e : Expr). phrase_of e l) (sym (expr.rolls-Number n))
    ∙ ap (λ (f : ℕ → Phrase). f l) (fold-roll-Expr (ℕ → Phrase) phrase_layer (layer.Number n))

pub of-Str : (t : List ℕ) (l : ℕ) → phrase_of (expr.Str t) l ≡ Quoted t
of-Str t l =
    ap (λ (e : Expr). phrase_of e l) (sym (expr.rolls-Str t))
    ∙ ap (λ (f : ℕ → Phrase). f l) (fold-roll-Expr (ℕ → Phrase) phrase_layer (layer.Str t))

pub of-Truth : (b : Bool) (l : ℕ) → phrase_of (expr.Truth b) l ≡ Truth b
of-Truth b l =
    ap (λ (e : Expr). phrase_of e l) (sym (expr.rolls-Truth b))
    ∙ ap (λ (f : ℕ → Phrase). f l) (fold-roll-Expr (ℕ → Phrase) phrase_layer (layer.Truth b))

-- a phrase, in parentheses or not
abbrev pub Bare : Expr → Type 0
Bare e = (l : ℕ) → (b : Bool) × (phrase_of e l ≡ (if b then Parenthesis (phrase_of e 1) else phrase_of e 1))

bare_step : (y : Expr-F Expr) → Bare (roll-Expr y)
bare_step (layer.Binary o a b) l = (
  nat_lt (level o) l,
  rw (fold-roll-Expr (ℕ → Phrase) phrase_layer (layer.Binary o a b))
      (rw (le-ltb (level o) 1 (level-low o)) refl),
)
bare_step (layer.Within a n) l = (nat_lt 4 l, rw (fold-roll-Expr (ℕ → Phrase) phrase_layer (layer.Within a n)) refl)
bare_step (layer.Not a) l = (nat_lt 8 l, rw (fold-roll-Expr (ℕ → Phrase) phrase_layer (layer.Not a)) refl)
bare_step (layer.Exist n) l = (false, rw (fold-roll-Expr (ℕ → Phrase) phrase_layer (layer.Exist n)) refl)
bare_step (layer.Name n) l = (false, rw (fold-roll-Expr (ℕ → Phrase) phrase_layer (layer.Name n)) refl)
bare_step (layer.Number n) l = (false, rw (fold-roll-Expr (ℕ → Phrase) phrase_layer (layer.Number n)) refl)
bare_step (layer.Str t) l = (false, rw (fold-roll-Expr (ℕ → Phrase) phrase_layer (layer.Str t)) refl)
bare_step (layer.Truth b) l = (false, rw (fold-roll-Expr (ℕ → Phrase) phrase_layer (layer.Truth b)) refl)

pub bare : (e : Expr) → Bare e
bare = ind-Expr Bare (λ x y is. bare_step x)

shallow_if : (b : Bool) (r : ℕ) (c : Phrase) → 0 < r → Shallow (r - 1) c → Shallow r (if b then Parenthesis c else c)
shallow_if true r c some h = (some, h)
shallow_if false r c some h = shallow_more c (r - 1) r (omega arith) h

keeps : (b : Bool) (r l m : ℕ) (c : Phrase) → nat_lt m l ≡ b → l ≤ m → Shallow r c
    → Shallow r (if b then Parenthesis c else c)
keeps true r l m c is low h = absurd (omega (arith, ltb-true m l is))
keeps false r l m c is low h = h

-- no phrase of the tree has fewer parentheses open at once
pub least : (c : Phrase) (l r : ℕ) → l ≤ 9 → IsOfLevel l c → Shallow r c → Shallow r (phrase_of (tree c) l)
least (Operation o a b) l r high f s = rw (of-Binary o (tree a) (tree b) l)
    (keeps (nat_lt (level o) l) r l (level o) (Operation o (phrase_of (tree a) (left o)) (phrase_of (tree b) (right o)))
    refl f.0 (
      least a (left o) r (omega (arith, left-high o)) f.1 s.0,
      least b (right o) r (omega (arith, level-right o, level-high o)) f.2 s.1,
    ))
least (Within a n) l r high f s =
    rw (of-Within (tree a) n l)
    (keeps (nat_lt 4 l) r l 4 (Within (phrase_of (tree a) 5) n) refl f.0 (least a 5 r (omega arith) f.1 s))
least (Negation a) l r high f s =
    rw (of-Not (tree a) l) (keeps (nat_lt 8 l) r l 8 (Negation (phrase_of (tree a) 9)) refl f.0
    (least a 9 r (omega arith) f.1 s))
least (Existence n) l r high f s = rw (of-Exist n l) tt
least (PropertyName n) l r high f s = rw (of-Name n l) tt
least (Numeral n) l r high f s = rw (of-Number (pos n) l) tt
least (Negative zero) l r high f s = rw (of-Number (pos 0) l) tt
least (Negative (suc n)) l r high f s = rw (of-Number (negsuc n) l) tt
least (Quoted t) l r high f s = rw (of-Str t l) tt
least (Truth b) l r high f s = rw (of-Truth b l) tt
least (Parenthesis a) l r high f s =
    let b = bare (tree a) l in
    rw b.1 (shallow_if b.0 r (phrase_of (tree a) 1) s.0 (least a 1 (r - 1) (omega arith) f.1 s.1))
