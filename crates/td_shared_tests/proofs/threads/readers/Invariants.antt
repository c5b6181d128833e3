use Rattle.td_cell.specs.Passes.{Belongs, IsOpening}
use Rattle.td_shared_tests.proofs.threads.readers.Given as goal

-- what a pass needs to be split again
abbrev pub invariant-loop : goal.invariant-loop
invariant-loop l = Belongs l.pass l.desk.cell × IsOpening l.pass
