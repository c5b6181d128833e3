-- A plain tree is printed in tokens that have a spelling, and only such a tree is read from them.
use Rattle.std.proofs.Common.{ℤ, pos, negsuc, suc, ◌≡◌, ℕ, ◌^◌, Bool, true, false, ◌&&◌, nat_lt, if◌then◌else◌, List}
use Rattle.std.proofs.Common.{[], ◌∷◌, ◌++◌, sym, ap, subst, ◌∙◌}
use Rattle.std.proofs.lemmas.Bool.{ltb-true}
use Rattle.td_cdr.specs.Names.{identifier}
use Rattle.td_lang.specs.declared.expr.Op.{Op}
use Rattle.td_lang.specs.declared.expr.Expr.{Expr, Expr-F, ind-Expr, fold-roll-Expr, roll-Expr}
use Rattle.td_lang.specs.declared.expr.Expr.TheFolds.{map-Expr}
use Rattle.td_lang.specs.declared.expr.Expr.TheVariants as expr
use Rattle.td_lang.specs.declared.expr.Expr.TheOpen as layer
use Rattle.td_lang.specs.declared.token.Token.{Token}
use Rattle.td_lang.specs.declared.token.Token.TheVariants as token
use Rattle.td_lang.specs.Levels.{level, left, right}
use Rattle.td_lang.specs.Grammar.{Phrase, Operation, Within, Negation, Parenthesis, tokens}
use Rattle.td_lang.specs.Lexing.{AllSpelled}
use Rattle.td_lang.specs.Printing.{number_phrase, phrase_of, plain, plain_layer, plain_number, HasNoParentheses}
use Rattle.td_lang.proofs.Conjunction.{and-left, and-right}
use Rattle.td_lang.proofs.PrintedPhrases.{of-Binary, of-Within, of-Not, of-Exist, of-Name, of-Number, of-Str, of-Truth}

pub spelled-append : (xs ys : List Token) → AllSpelled xs → AllSpelled ys → AllSpelled (xs ++ ys)
spelled-append [] ys a b = b
spelled-append (t ∷ xs) ys a b = (a.0, spelled-append xs ys a.1 b)

pub spelled-front : (xs ys : List Token) → AllSpelled (xs ++ ys) → AllSpelled xs
spelled-front [] ys a = tt
spelled-front (t ∷ xs) ys a = (a.0, spelled-front xs ys a.1)

pub spelled-back : (xs ys : List Token) → AllSpelled (xs ++ ys) → AllSpelled ys
spelled-back [] ys a = a
spelled-back (t ∷ xs) ys a = spelled-back xs ys a.1

-- parentheses have a spelling
spelled_if : (t : Bool) (c : Phrase) → AllSpelled (tokens c) → AllSpelled (tokens (if t then Parenthesis c else c))
spelled_if true c a = (tt, spelled-append (tokens c) (token.Close ∷ []) a (tt, tt))
spelled_if false c a = a

abbrev Spells : Expr → Type 0
Spells e = (l : ℕ) → plain e ≡ true → AllSpelled (tokens (phrase_of e l))

number-spelled : (z : ℤ) → plain_number z ≡ true → AllSpelled (tokens (number_phrase z))
number-spelled (pos n) h = (ltb-true n (2 ^ 63) h, tt)
number-spelled (negsuc n) h = (tt, (ltb-true (suc n) (2 ^ 63) h, tt))

abbrev Kept : Type 0
Kept = (e : Expr) × Spells e

pub plain-Binary : (o : Op) (a b : Expr) → plain (expr.Binary o a b) ≡ (plain a && plain b)
plain-Binary o a b = ap plain (sym (expr.rolls-Binary o a b)) ∙ fold-roll-Expr Bool plain_layer (layer.Binary o a b)

pub plain-Within : (a : Expr) (n : List ℕ) → plain (expr.Within a n) ≡ (plain a && identifier n)
plain-Within a n = ap plain (sym (expr.rolls-Within a n)) ∙ fold-roll-Expr Bool plain_layer (layer.Within a n)

pub plain-Not : (a : Expr) → plain (expr.Not a) ≡ plain a
plain-Not a = ap plain (sym (expr.rolls-Not a)) ∙ fold-roll-Expr Bool plain_layer (layer.Not a)

pub plain-Exist : (n : List ℕ) → plain (expr.Exist n) ≡ identifier n
plain-Exist n = ap plain (sym (expr.rolls-Exist n)) ∙ fold-roll-Expr Bool plain_layer (layer.Exist n)

pub plain-Name : (n : List ℕ) → plain (expr.Name n) ≡ identifier n
plain-Name n = ap plain (sym (expr.rolls-Name n)) ∙ fold-roll-Expr Bool plain_layer (layer.Name n)

pub plain-Number : (z : ℤ) → plain (expr.Number z) ≡ plain_number z
plain-Number z = ap plain (sym (expr.rolls-Number z)) ∙ fold-roll-Expr Bool plain_layer (layer.Number z)

pub plain-Str : (t : List ℕ) → plain (expr.Str t) ≡ true
plain-Str t = ap plain (sym (expr.rolls-Str t)) ∙ fold-roll-Expr Bool plain_layer (layer.Str t)

pub plain-Truth : (b : Bool) → plain (expr.Truth b) ≡ true
plain-Truth b = ap plain (sym (expr.rolls-Truth b)) ∙ fold-roll-Expr Bool plain_layer (layer.Truth b)

spells-Binary : (o : Op) (a b : Expr) → Spells a → Spells b → Spells (expr.Binary o a b)
spells-Binary o a b pa pb l h =
    let both = sym (plain-Binary o a b) ∙ h in
    let x = pa (left o) (and-left (plain a) (plain b) both) in
    let y = pb (right o) (and-right (plain a) (plain b) both) in
    rw (of-Binary o a b l) (spelled_if (nat_lt (level o) l) (Operation o (phrase_of a (left o)) (phrase_of b (right o)))
    (spelled-append (tokens (phrase_of a (left o))) (token.Operator o ∷ tokens (phrase_of b (right o))) x (tt, y)))

spells-Within : (a : Expr) (n : List ℕ) → Spells a → Spells (expr.Within a n)
spells-Within a n pa l h =
    let both = sym (plain-Within a n) ∙ h in
    let x = pa 5 (and-left (plain a) (identifier n) both) in
    rw (of-Within a n l) (spelled_if (nat_lt 4 l) (Within (phrase_of a 5) n)
    (spelled-append (tokens (phrase_of a 5)) (token.Within ∷ token.Name n ∷ []) x
    (tt, (and-right (plain a) (identifier n) both, tt))))

spells-Not : (a : Expr) → Spells a → Spells (expr.Not a)
spells-Not a pa l h =
    rw (of-Not a l) (spelled_if (nat_lt 8 l) (Negation (phrase_of a 9)) (tt, pa 9 (sym (plain-Not a) ∙ h)))

step : (y : Expr-F Kept) → Spells (roll-Expr (map-Expr Kept Expr (λ k. k.0) y))
step (layer.Binary o a b) = rw (expr.rolls-Binary o a.0 b.0) (spells-Binary o a.0 b.0 a.1 b.1)
step (layer.Within a n) = rw (expr.rolls-Within a.0 n) (spells-Within a.0 n a.1)
step (layer.Not a) = rw (expr.rolls-Not a.0) (spells-Not a.0 a.1)
step (layer.Exist n) = rw (expr.rolls-Exist n) (λ l h. rw (of-Exist n l) (tt, (sym (plain-Exist n) ∙ h, tt)))
step (layer.Name n) = rw (expr.rolls-Name n) (λ l h. rw (of-Name n l) (sym (plain-Name n) ∙ h, tt))
step (layer.Number z) =
    rw (expr.rolls-Number z) (λ l h. rw (of-Number z l) (number-spelled z (sym (plain-Number z) ∙ h)))
step (layer.Str t) = rw (expr.rolls-Str t) (λ l h. rw (of-Str t l) (tt, tt))
step (layer.Truth b) = rw (expr.rolls-Truth b) (λ l h. rw (of-Truth b l) (tt, tt))

pub plain-spelled : (e : Expr) (l : ℕ) → HasNoParentheses e → AllSpelled (tokens (phrase_of e l))
plain-spelled = ind-Expr Spells (λ x y is. subst (λ (z : Expr-F Expr). Spells (roll-Expr z)) is (step y))
