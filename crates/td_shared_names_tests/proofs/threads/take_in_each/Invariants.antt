use Rattle.std.proofs.Common.{vec_len}
use Rattle.td_shared_names.specs.Sharing.{IsOpeningOf, IsOut}
use Rattle.td_shared_names_tests.proofs.Each.{EachOf}
use Rattle.td_shared_names_tests.proofs.threads.take_in_each.Given as goal

abbrev pub invariant-loop-session : goal.invariant-loop-session
invariant-loop-session g l = IsOpeningOf l.shared.cell l.pass × EachOf l.sessions.items (λ s. IsOut l.pass s.pass)

abbrev pub decreases-loop-session : goal.decreases-loop-session
decreases-loop-session g l = vec_len l.sessions
