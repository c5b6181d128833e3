use Rattle.std.proofs.Common.{sym}
use Rattle.td_lang.proofs.SpelledRecipes.{refused}
use Rattle.td_visit.proofs.recipe.recipe_of.Goals as goal

pub returns-in-Err-Syntax : goal.returns-in-Err-Syntax
returns-in-Err-Syntax c =
    let h = rw c.in-Err-Syntax.field-0-is at c.in-Err-Syntax.ensures in
    sym (refused c.args.text.now c.in-Err-Syntax.field-0-0 h.0 h.1)
