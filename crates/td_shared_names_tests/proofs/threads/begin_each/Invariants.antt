use Rattle.td_shared_names.specs.Sharing.{IsOpeningOf, IsOut}
use Rattle.td_shared_names_tests.proofs.Each.{EachOf}
use Rattle.td_shared_names_tests.proofs.threads.begin_each.Given as goal

abbrev pub invariant-loop : goal.invariant-loop
invariant-loop g l = IsOpeningOf l.shared.cell l.pass × EachOf l.sessions.items (λ s. IsOut l.pass s.pass)
