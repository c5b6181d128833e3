use Rattle.td_file.specs.Files.{seen}
use Rattle.td_command.specs.Printing.{DrillsWith}
use Rattle.td_command.proofs.Said.{with_text}
use Rattle.td_command.proofs.drilling.drill_text.Goals as goal

pub returns-in-Ok : goal.returns-in-Ok
returns-in-Ok g c =
    with_text (DrillsWith (g.W.Words.word_after c.args.words.now)) c.args.text.now (seen c.in-Ok.opened)
    c.drill_opened.result _ _ c.in-Ok.ensures.answers c.drill_opened.ensures
