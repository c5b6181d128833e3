use Rattle.std.proofs.Common.{ℕ, List, sym, subst}
use Rattle.td_file.specs.Files.{seen}
use Rattle.td_command.specs.Printing.{DrillsWith}
use Rattle.td_command.proofs.Said.{said}
use Rattle.td_command.proofs.drilling.drill_opened.Goals as goal

pub returns-in-Ok : goal.returns-in-Ok
returns-in-Ok g c =
    let says = DrillsWith (g.W.Words.word_after c.args.words.now) (seen c.args.opened) in
    said says c.as_slice.result.now c.print.result _ _
    (subst (λ (t : List ℕ). says t) (sym c.as_slice.ensures) c.in-Ok.ensures) c.print.ensures
