-- Trading Object Service, "The Constraint Language", on property names.
-- The names of properties that a constraint and a preference mention.
use Rattle.std.specs.Prelude.{ℕ, Bool, List, [], ◌∷◌, ◌++◌, if◌then◌else◌, fold}
use Rattle.std.specs.List.{list_any}
use Rattle.std.specs.Str.{bytes_eq}
use Rattle.td_lang.specs.declared.expr.Expr.{Expr, Expr-F, fold-Expr}
use Rattle.td_lang.specs.declared.expr.Expr.TheOpen as layer
use Rattle.td_lang.specs.declared.expr.Constraint.{Constraint}
use Rattle.td_lang.specs.declared.expr.Constraint.TheVariants as constraint
use Rattle.td_lang.specs.declared.expr.Preference.{Preference}
use Rattle.td_lang.specs.declared.expr.Preference.TheVariants as preference

abbrev pub Names : Type 0
Names = List (List ℕ)

-- `exist` and `in` mention the name behind them
abbrev pub names_layer : Expr-F Names → Names
names_layer (layer.Binary o a b) = a ++ b
names_layer (layer.Within a name) = a ++ name ∷ []
names_layer (layer.Not a) = a
names_layer (layer.Exist name) = name ∷ []
names_layer (layer.Name name) = name ∷ []
names_layer (layer.Number n) = []
names_layer (layer.Str t) = []
names_layer (layer.Truth p) = []

-- the names in an expression, in the order of mention
unfoldable pub names_in : Expr → Names
names_in = fold-Expr Names names_layer

abbrev pub constraint_names : Constraint → Names
constraint_names constraint.Empty = []
constraint_names (constraint.Is e) = names_in e

abbrev pub preference_names : Preference → Names
preference_names (preference.Min e) = names_in e
preference_names (preference.Max e) = names_in e
preference_names (preference.With e) = names_in e
preference_names p = []

-- a name behind others, where it isn't among them
abbrev pub with_name : Names → List ℕ → Names
with_name names name = if list_any (λ other. bytes_eq other name) names then names else names
    ++ name ∷ []

-- each of the further names that isn't there yet, behind those that are
unfoldable pub with_names : Names → Names → Names
with_names names further = fold with_name names further

-- those of the constraint and then those of the preference, each once
abbrev pub names_asked : Constraint → Preference → Names
names_asked c p = with_names [] (constraint_names c ++ preference_names p)

-- the name is one of these
abbrev pub is_mentioned : List ℕ → Names → Bool
is_mentioned name names = list_any (bytes_eq name) names
