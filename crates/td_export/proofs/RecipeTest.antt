-- What a reader of recipes tells of the test of a recipe.
use Rattle.std.proofs.Common.{◌≡◌, ℕ, ◌≤◌, Bool, true, List, length, Err, sym, ap}
use Rattle.std.specs.Option.{is_some}
use Rattle.std.specs.Result.{IfOk}
use Rattle.td_lang.specs.Recipes.{ReadsRecipe, SpellsParts}
use Rattle.td_lang.specs.declared.expr.Part.{Part}
use Rattle.td_lang.specs.declared.fault.LangFault.{LangFault}
use Rattle.td_lang.specs.declared.fault.LangFault.TheVariants as fault
use Rattle.td_lang.proofs.SpelledRecipes.{refused, spelled, too_long}
use Rattle.td_register.specs.Judged.{is_recipe_fault}
use Rattle.td_register.specs.Proxies.{is_recipe}

pub read-passes : (text : List ℕ) (parts : List Part) → length text ≤ 4096 → SpellsParts parts text →
    is_recipe text ≡ true
unfolding is_recipe
read-passes text parts short h = ap is_some (sym (spelled parts text short h))

-- the answer of the test where the reader meets a fault
pub fault-tells : (text : List ℕ) (f : LangFault) → ReadsRecipe text (Err f) →
    IfOk (is_recipe_fault f) (λ (passes : Bool). passes ≡ is_recipe text)
unfolding is_recipe
fault-tells text (fault.Syntax place) h = sym (ap is_some (refused text place h.0 h.1))
fault-tells text (fault.Float place) h = absurd h
fault-tells text (fault.Depth place) h = absurd h
fault-tells text fault.TooLong h = sym (ap is_some (too_long text h))
fault-tells text fault.Memory h = tt
