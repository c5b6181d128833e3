-- The names in each form of an expression.
use Rattle.std.proofs.Common.{◌≡◌, ℤ, ℕ, List, [], ◌∷◌, ◌++◌, Bool, refl, ap, sym, ◌∙◌}
use Rattle.td_lang.specs.declared.expr.Op.{Op}
use Rattle.td_lang.specs.declared.expr.Expr.{Expr, fold-Expr, fold-roll-Expr}
use Rattle.td_lang.specs.declared.expr.Expr.TheVariants as expr
use Rattle.td_lang.specs.declared.expr.Expr.TheOpen as layer
use Rattle.td_eval.specs.Mentioning.{Names, names_layer, names_in, with_name, with_names}

pub none : (names : Names) → names ≡ with_names names []
unfolding with_names
none names = refl

pub more : (names xs ys : Names) → with_names names (xs ++ ys) ≡ with_names (with_names names xs) ys
unfolding with_names
more names [] ys = refl
more names (x ∷ xs) ys = more (with_name names x) xs ys

one_more : (names : Names) (name : List ℕ) → with_names names (name ∷ []) ≡ with_name names name
unfolding with_names
one_more names name = refl

pub of_binary : (names : Names) (o : Op) (a b : Expr)
    → with_names names (names_in (expr.Binary o a b)) ≡ with_names (with_names names (names_in a)) (names_in b)
unfolding names_in
of_binary names o a b =
    ap (λ e. with_names names (fold-Expr Names names_layer e)) (sym (expr.rolls-Binary o a b))
    ∙ ap (with_names names) (fold-roll-Expr Names names_layer (layer.Binary o a b)) ∙ more names _ _

pub of_within : (names : Names) (a : Expr) (name : List ℕ)
    → with_names names (names_in (expr.Within a name)) ≡ with_name (with_names names (names_in a)) name
unfolding names_in
of_within names a name =
    ap (λ e. with_names names (fold-Expr Names names_layer e)) (sym (expr.rolls-Within a name))
    ∙ ap (with_names names) (fold-roll-Expr Names names_layer (layer.Within a name))
    ∙ more names _ _ ∙ one_more _ name

pub of_not : (names : Names) (a : Expr) → with_names names (names_in (expr.Not a)) ≡ with_names names (names_in a)
unfolding names_in
of_not names a =
    ap (λ e. with_names names (fold-Expr Names names_layer e)) (sym (expr.rolls-Not a))
    ∙ ap (with_names names) (fold-roll-Expr Names names_layer (layer.Not a))

pub of_exist : (names : Names) (name : List ℕ) → with_names names (names_in (expr.Exist name)) ≡ with_name names name
unfolding names_in
of_exist names name =
    ap (λ e. with_names names (fold-Expr Names names_layer e)) (sym (expr.rolls-Exist name))
    ∙ ap (with_names names) (fold-roll-Expr Names names_layer (layer.Exist name)) ∙ one_more names name

pub of_name : (names : Names) (name : List ℕ) → with_names names (names_in (expr.Name name)) ≡ with_name names name
unfolding names_in
of_name names name =
    ap (λ e. with_names names (fold-Expr Names names_layer e)) (sym (expr.rolls-Name name))
    ∙ ap (with_names names) (fold-roll-Expr Names names_layer (layer.Name name)) ∙ one_more names name

pub of_number : (names : Names) (n : ℤ) → with_names names (names_in (expr.Number n)) ≡ names
unfolding names_in
of_number names n =
    ap (λ e. with_names names (fold-Expr Names names_layer e)) (sym (expr.rolls-Number n))
    ∙ ap (with_names names) (fold-roll-Expr Names names_layer (layer.Number n)) ∙ sym (none names)

pub of_text : (names : Names) (t : List ℕ) → with_names names (names_in (expr.Str t)) ≡ names
unfolding names_in
of_text names t =
    ap (λ e. with_names names (fold-Expr Names names_layer e)) (sym (expr.rolls-Str t))
    ∙ ap (with_names names) (fold-roll-Expr Names names_layer (layer.Str t)) ∙ sym (none names)

pub of_truth : (names : Names) (p : Bool) → with_names names (names_in (expr.Truth p)) ≡ names
unfolding names_in
of_truth names p =
    ap (λ e. with_names names (fold-Expr Names names_layer e)) (sym (expr.rolls-Truth p))
    ∙ ap (with_names names) (fold-roll-Expr Names names_layer (layer.Truth p)) ∙ sym (none names)

pub ruleset by_variant = (of_binary, of_within, of_not, of_exist, of_name, of_number, of_text, of_truth)
