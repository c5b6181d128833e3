use Rattle.std.proofs.Math.Facts.{Fits-lt-pow}
use Rattle.td_file.specs.Files.{seen}
use Rattle.td_shared_listen.proofs.Serving.{text_serves}
use Rattle.td_stream.specs.Outside.{outside}
use Rattle.td_shared_listen.proofs.listen.serve_text.Goals as goal

pub returns-in-Ok-clause-serves : goal.returns-in-Ok-clause-serves
returns-in-Ok-clause-serves g c =
    text_serves
    (λ v.
    outside (g.A.S.Source.left v.source) (g.A.S.Source.faults v.source) (g.A.K.Sink.written v.sink)
    (g.A.K.Sink.faults v.sink))
    (λ v. g.A.W.Words.word_after v.words)
    c.args.text.now (seen c.in-Ok.opened) c.serve_opening.result _ _ c.in-Ok.ensures.answers
    (record { each = λ i. Fits-lt-pow (c.type_inv.text i) }) c.serve_opening.ensures.serves
