-- The value of each form of an expression, by the values of its parts.
use Rattle.std.proofs.Common.{◌≡◌, ℤ, pos, List, ℕ, Bool, Option, Some, is_some, ap, sym, ◌∙◌}
use Rattle.std.specs.Option.{option_and_then}
use Rattle.td_lang.specs.declared.expr.Op.{Op}
use Rattle.td_lang.specs.declared.expr.Expr.{Expr, fold-Expr, fold-roll-Expr}
use Rattle.td_lang.specs.declared.expr.Expr.TheVariants as expr
use Rattle.td_lang.specs.declared.expr.Expr.TheOpen as layer
use Rattle.td_value.specs.declared.structures.Property.{Property}
use Rattle.td_eval.specs.declared.simple.Simple.TheVariants.{Text, Truth}
use Rattle.td_eval.specs.Fractions.{fraction}
use Rattle.td_eval.specs.Kinds.{LangValue}
use Rattle.td_eval.specs.Properties.{property, content_named}
use Rattle.td_eval.specs.Values.{operand, binary, within, negation, value_layer, value, simple_value}
use Rattle.td_eval.proofs.Operating.{operand_one}

module _ (map : List Property) where
  pub of_binary : (o : Op) (a b : Expr)
      → simple_value map (expr.Binary o a b) ≡ binary o (simple_value map a) (simple_value map b)
  unfolding value simple_value
  of_binary o a b =
      ap (λ e. operand (fold-Expr (Option LangValue) (value_layer map) e)) (sym (expr.rolls-Binary o a b))
      ∙ ap operand (fold-roll-Expr (Option LangValue) (value_layer map) (layer.Binary o a b)) ∙ operand_one _

  pub of_within : (a : Expr) (name : List ℕ)
      → simple_value map (expr.Within a name) ≡ within (simple_value map a) (content_named map name)
  unfolding value simple_value
  of_within a name =
      ap (λ e. operand (fold-Expr (Option LangValue) (value_layer map) e)) (sym (expr.rolls-Within a name))
      ∙ ap operand (fold-roll-Expr (Option LangValue) (value_layer map) (layer.Within a name)) ∙ operand_one _

  pub of_not : (a : Expr) → simple_value map (expr.Not a) ≡ option_and_then negation (simple_value map a)
  unfolding value simple_value
  of_not a =
      ap (λ e. operand (fold-Expr (Option LangValue) (value_layer map) e)) (sym (expr.rolls-Not a))
      ∙ ap operand (fold-roll-Expr (Option LangValue) (value_layer map) (layer.Not a)) ∙ operand_one _

  pub of_exist : (name : List ℕ) → simple_value map (expr.Exist name) ≡ Some (Truth (is_some (property map name)))
  unfolding value simple_value
  of_exist name =
      ap (λ e. operand (fold-Expr (Option LangValue) (value_layer map) e)) (sym (expr.rolls-Exist name))
      ∙ ap operand (fold-roll-Expr (Option LangValue) (value_layer map) (layer.Exist name))

  pub of_name : (name : List ℕ) → simple_value map (expr.Name name) ≡ operand (content_named map name)
  unfolding value simple_value
  of_name name =
      ap (λ e. operand (fold-Expr (Option LangValue) (value_layer map) e)) (sym (expr.rolls-Name name))
      ∙ ap operand (fold-roll-Expr (Option LangValue) (value_layer map) (layer.Name name))

  pub of_number : (n : ℤ) → simple_value map (expr.Number n) ≡ fraction n (pos 1)
  unfolding value simple_value
  of_number n =
      ap (λ e. operand (fold-Expr (Option LangValue) (value_layer map) e)) (sym (expr.rolls-Number n))
      ∙ ap operand (fold-roll-Expr (Option LangValue) (value_layer map) (layer.Number n)) ∙ operand_one _

  pub of_text : (t : List ℕ) → simple_value map (expr.Str t) ≡ Some (Text t)
  unfolding value simple_value
  of_text t =
      ap (λ e. operand (fold-Expr (Option LangValue) (value_layer map) e)) (sym (expr.rolls-Str t))
      ∙ ap operand (fold-roll-Expr (Option LangValue) (value_layer map) (layer.Str t))

  pub of_truth : (p : Bool) → simple_value map (expr.Truth p) ≡ Some (Truth p)
  unfolding value simple_value
  of_truth p =
      ap (λ e. operand (fold-Expr (Option LangValue) (value_layer map) e)) (sym (expr.rolls-Truth p))
      ∙ ap operand (fold-roll-Expr (Option LangValue) (value_layer map) (layer.Truth p))

pub ruleset by_variant = (of_binary, of_within, of_not, of_exist, of_name, of_number, of_text, of_truth)
