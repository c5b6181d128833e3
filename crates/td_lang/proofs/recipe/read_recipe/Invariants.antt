use Rattle.std.proofs.Common.{length, take, ◌-◌, ◌≤◌}
use Rattle.td_lang.specs.Recipes.{SpellsParts}
use Rattle.td_lang.proofs.recipe.read_recipe.Given as goal

abbrev pub invariant-parts : goal.invariant-parts
invariant-parts l = record { within : l.place ≤ length l.text; so_far : SpellsParts l.parts (take l.place l.text) }

abbrev pub decreases-parts : goal.decreases-parts
decreases-parts l = length l.text - l.place
