use Rattle.td_shared_names.specs.Sharing.{SamePass}
use Rattle.td_shared_names_tests.proofs.sharing.makes.Given as goal

abbrev pub invariant-loop-line : goal.invariant-loop-line
invariant-loop-line g l = SamePass l.fn.session.pass l.session.pass
