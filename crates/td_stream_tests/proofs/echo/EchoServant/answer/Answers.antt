use Rattle.std.proofs.Common.{ap}
use Rattle.td_stream.specs.Heads.{asked_of}
use Rattle.td_stream_tests.proofs.Echoing.{request_echoed, locate_echoed}
use Rattle.td_stream_tests.proofs.echo.EchoServant.answer.Goals as goal

pub returns-in-Request-clause-ok : goal.returns-in-Request-clause-ok
returns-in-Request-clause-ok g c =
    let has = rw c.in-Request.is at c.requires.head in
    request_echoed c.write_echo.result c.args.message.now (asked_of c.in-Request.request) c.in-Request.request.body _ _
    c.requires.whole has.0 has.1 (ap (λ w. w.order) c.restart.ensures) c.write_echo.ensures

pub returns-in-Locate-clause-ok : goal.returns-in-Locate-clause-ok
returns-in-Locate-clause-ok g c =
    let has = rw c.in-Locate.is at c.requires.head in
    locate_echoed c.write_here.result c.args.message.now c.in-Locate.id _ _ _ c.requires.whole has.0 has.1
    (ap (λ w. w.order) c.restart.ensures) c.write_here.ensures
