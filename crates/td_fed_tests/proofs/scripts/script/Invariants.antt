use Rattle.td_peers.specs.Scripts.{AreAllowed}
use Rattle.td_fed_tests.proofs.scripts.script.Given as goal

abbrev pub invariant-loop-word : goal.invariant-loop-word
invariant-loop-word l = AreAllowed l.script
