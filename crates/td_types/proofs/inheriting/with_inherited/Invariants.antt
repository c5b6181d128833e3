use Rattle.std.proofs.Common.{◌≡◌, ◌≤◌, length, drop, map, Bor}
use Rattle.td_types.specs.Adding.{most_properties}
use Rattle.td_types.specs.Inheriting.{with_further}
use Rattle.td_types.specs.Judged.{inherited_properties}
use Rattle.td_types.specs.Properties.{with_inherited}
use Rattle.td_types.specs.declared.entry.TypeEntry.{TypeEntry}
use Rattle.td_types.proofs.inheriting.with_inherited.Given as goal

abbrev pub invariant-loop-base : goal.invariant-loop-base
invariant-loop-base l =
    record {
      few : length l.full ≤ most_properties;
      so_far : with_further (inherited_properties (map (λ (b : Bor TypeEntry). b.now) l.bases)) l.full
          (inherited_properties (map (λ (b : Bor TypeEntry). b.now) (drop l.base-index l.bases)))
          ≡ with_inherited l.props (inherited_properties (map (λ (b : Bor TypeEntry). b.now) l.bases));
    }
