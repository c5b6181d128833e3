use Rattle.std.proofs.Common.{sym}
use Rattle.td_lang.proofs.RecipeParts.{one_recipe, one_place, not_both, refused_bytes}
use Rattle.td_lang.proofs.SpelledRecipes.{spelled, spelled_by}
use Rattle.td_lang.proofs.recipe_laws.recipes_are_read.Goals as goal

pub returns : goal.returns
returns c = record {
  spelled = λ text ps. (spelled_by text ps, λ h. sym (spelled ps text h.0 h.1));
  one_recipe = λ ps qs text h k. one_recipe ps qs text h k;
  one_place = λ text place other r s. one_place text place other r s;
  not_both = λ text place ps r h. not_both text place ps r h;
  byte = λ rest some none. refused_bytes rest some none;
}
