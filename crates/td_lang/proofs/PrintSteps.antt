-- Printing one part after another.
use Rattle.std.proofs.Common.{ℤ, ◌≡◌, ℕ, List, [], ◌∷◌, ◌++◌, Bool, true, false, nat_lt, if◌then◌else◌, refl, ap, ◌∙◌}
use Rattle.td_lang.specs.declared.expr.Op.{Op}
use Rattle.td_lang.specs.declared.expr.Expr.{Expr}
use Rattle.td_lang.specs.declared.expr.Expr.TheVariants as expr
use Rattle.td_lang.specs.declared.token.Token.{Token}
use Rattle.td_lang.specs.declared.token.Token.TheVariants as token
use Rattle.td_lang.specs.Levels.{level, left, right}
use Rattle.td_lang.specs.Grammar.{Phrase, Operation, Within, Negation, Parenthesis, tokens}
use Rattle.td_lang.specs.Printing.{number_phrase, phrase_of, put, put_all, expr_text, open_if, close_if}
use Rattle.td_lang.proofs.PrintedPhrases.{of-Binary, of-Within, of-Not, of-Exist, of-Name, of-Number, of-Str, of-Truth}

pub put_all_append : (xs : List Token) (text : List ℕ) (ys : List Token)
    → put_all text (xs ++ ys) ≡ put_all (put_all text xs) ys
put_all_append [] text ys = refl
put_all_append (t ∷ xs) text ys = put_all_append xs (put text t) ys

in_parentheses : (b : Bool) (text : List ℕ) (c : Phrase)
    → put_all text (tokens (if b then Parenthesis c else c)) ≡ close_if b (put_all (open_if b text) (tokens c))
in_parentheses true text c = put_all_append (tokens c) (put text token.Open) (token.Close ∷ [])
in_parentheses false text c = refl

pub printed_binary : (text : List ℕ) (o : Op) (a b : Expr) (l : ℕ)
    → expr_text text (expr.Binary o a b) l
    ≡ close_if (nat_lt (level o) l)
    (expr_text (put (expr_text (open_if (nat_lt (level o) l) text) a (left o)) (token.Operator o)) b (right o))
printed_binary text o a b l =
    let t = nat_lt (level o) l in
    let x = tokens (phrase_of a (left o)) in
    let y = tokens (phrase_of b (right o)) in
    ap (λ (c : Phrase). put_all text (tokens c)) (of-Binary o a b l)
    ∙ in_parentheses t text (Operation o (phrase_of a (left o)) (phrase_of b (right o)))
    ∙ ap (λ (s : List ℕ). close_if t s) (put_all_append x (open_if t text) (token.Operator o ∷ y))

pub printed_within : (text : List ℕ) (a : Expr) (n : List ℕ) (l : ℕ)
    → expr_text text (expr.Within a n) l
    ≡ close_if (nat_lt 4 l) (put (put (expr_text (open_if (nat_lt 4 l) text) a 5) token.Within) (token.Name n))
printed_within text a n l =
    let t = nat_lt 4 l in
    ap (λ (c : Phrase). put_all text (tokens c)) (of-Within a n l) ∙ in_parentheses t text (Within (phrase_of a 5) n)
    ∙ ap (λ (s : List ℕ). close_if t s)
    (put_all_append (tokens (phrase_of a 5)) (open_if t text) (token.Within ∷ token.Name n ∷ []))

pub printed_not : (text : List ℕ) (a : Expr) (l : ℕ)
    → expr_text text (expr.Not a) l ≡ close_if (nat_lt 8 l) (expr_text (put (open_if (nat_lt 8 l) text) token.Not) a 9)
printed_not text a l =
    ap (λ (c : Phrase). put_all text (tokens c)) (of-Not a l)
    ∙ in_parentheses (nat_lt 8 l) text (Negation (phrase_of a 9))

pub printed_exist : (text : List ℕ) (n : List ℕ) (l : ℕ)
    → expr_text text (expr.Exist n) l ≡ put (put text token.Exist) (token.Name n)
printed_exist text n l = ap (λ (c : Phrase). put_all text (tokens c)) (of-Exist n l)

pub printed_name : (text : List ℕ) (n : List ℕ) (l : ℕ) → expr_text text (expr.Name n) l ≡ put text (token.Name n)
printed_name text n l = ap (λ (c : Phrase). put_all text (tokens c)) (of-Name n l)

pub printed_number : (text : List ℕ) (n : ℤ) (l : ℕ)
    → expr_text text (expr.Number n) l ≡ put_all text (tokens (number_phrase n))
printed_number text n l = ap (λ (c : Phrase). put_all text (tokens c)) (of-Number n l)

pub printed_quoted : (text : List ℕ) (t : List ℕ) (l : ℕ) → expr_text text (expr.Str t) l ≡ put text (token.Quoted t)
printed_quoted text t l = ap (λ (c : Phrase). put_all text (tokens c)) (of-Str t l)

pub printed_truth : (text : List ℕ) (b : Bool) (l : ℕ) → expr_text text (expr.Truth b) l ≡ put text (token.Truth b)
printed_truth text b l = ap (λ (c : Phrase). put_all text (tokens c)) (of-Truth b l)

pub ruleset printed = (printed_binary, printed_exist, printed_name, printed_number, printed_quoted, printed_truth)
