use Rattle.std.proofs.Common.{◌≡◌, drop, map, Bor}
use Rattle.td_types.specs.Judged.{inherited_properties}
use Rattle.td_types.specs.Modes.{join}
use Rattle.td_types.specs.Properties.{joined_mode}
use Rattle.td_types.specs.declared.entry.TypeEntry.{TypeEntry}
use Rattle.td_types.proofs.inheriting.joined_mode.Given as goal

abbrev pub invariant-loop-base : goal.invariant-loop-base
invariant-loop-base l =
    join l.mode (joined_mode (inherited_properties (map (λ (b : Bor TypeEntry). b.now) (drop l.base-index l.bases))) l.name)
    ≡ joined_mode (inherited_properties (map (λ (b : Bor TypeEntry). b.now) l.bases)) l.name
