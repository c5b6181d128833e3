use Rattle.std.proofs.Common.{◌≡◌}
use Rattle.td_cell.specs.Passes.{knowledge, SameCell, SameNumbers}
use Rattle.td_accept_tests.proofs.cell.turn_tests.add_multiples.Given as goal

abbrev pub invariant-loop-k : goal.invariant-loop-k
invariant-loop-k g l = SameCell l.pass l.fn.pass × SameNumbers (knowledge l.fn.pass) (knowledge l.pass)
