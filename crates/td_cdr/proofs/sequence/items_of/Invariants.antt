use Rattle.std.proofs.Common.{◌≡◌, ◌-◌}
use Rattle.td_cdr.specs.Format.{array_format}
use Rattle.td_cdr.proofs.SequenceReading.{with_front}
use Rattle.td_cdr.proofs.sequence.items_of.Given as goal

abbrev pub invariant-loop : goal.invariant-loop
invariant-loop g l =
    with_front l.items ((array_format g.T.Spelled.format (l.count - l.counter)).reads l.r)
    ≡ (array_format g.T.Spelled.format l.count).reads l.initial.r
