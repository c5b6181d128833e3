use Rattle.std.proofs.Math.Facts.{Fits-lt-pow}
use Rattle.td_file.specs.Files.{seen}
use Rattle.td_command.proofs.Serving.{text-serves}
use Rattle.td_command.proofs.serve.serve_text.Goals as goal

pub returns-in-Ok : goal.returns-in-Ok
returns-in-Ok g c =
    text-serves c.args.text.now (seen c.in-Ok.opened) (g.W.Words.word_after c.args.words.now) c.serve_opened.result _ _
    c.in-Ok.ensures.answers (record { each = λ i. Fits-lt-pow (c.type_inv.text i) }) c.serve_opened.ensures
