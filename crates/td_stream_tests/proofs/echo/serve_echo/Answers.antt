use Rattle.td_stream.proofs.Mapped.{seen_so}
use Rattle.td_stream_tests.specs.Echoes.{Any, EchoesSo}
use Rattle.td_stream_tests.proofs.Echoing.{echoes_all}
use Rattle.td_stream_tests.proofs.echo.serve_echo.Goals as goal

pub returns : goal.returns
returns g c =
    echoes_all _ _ _ _ _
    (seen_so (λ v. tt) _ _ EchoesSo Any (λ s m r t x. x) (λ s t x. x) _ _ _ _ _ c.serve_stream.ensures.streams)
