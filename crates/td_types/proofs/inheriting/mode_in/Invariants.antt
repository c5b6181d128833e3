use Rattle.std.proofs.Common.{◌≡◌, drop}
use Rattle.td_types.specs.Modes.{join}
use Rattle.td_types.specs.Properties.{joined_mode}
use Rattle.td_types.proofs.inheriting.mode_in.Given as goal

abbrev pub invariant-loop-property : goal.invariant-loop-property
invariant-loop-property l =
    join l.mode (joined_mode (drop l.property-index l.props) l.name) ≡ joined_mode l.props l.name
