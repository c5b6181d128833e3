use Rattle.std.proofs.Common.{sym}
use Rattle.td_export.proofs.RecipeTest.{fault-tells, read-passes}
use Rattle.td_export.proofs.proxy_exporting.is_recipe.Goals.{in-Ok, in-Err}
use Rattle.td_export.proofs.proxy_exporting.is_recipe.Goals as goal

pub returns : goal.returns
returns c =
    elim c.match-read_recipe.branch [
      | in-Ok w ↦ rw w.result-is (sym (read-passes c.args.text.now w.in-Ok.field-0.parts w.in-Ok.ensures.0
          w.in-Ok.ensures.1))
      | in-Err w ↦ rw (w.result-is, w.is_recipe_fault.ensures) (fault-tells c.args.text.now w.in-Err.fault w.in-Err.ensures)
    ]
