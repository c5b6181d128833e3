use Rattle.std.proofs.Common.{◌≡◌, ◌≤◌, List, ◌++◌, length, drop, map, Bor}
use Rattle.td_value.specs.declared.structures.PropStruct.{PropStruct}
use Rattle.td_types.specs.Adding.{most_properties}
use Rattle.td_types.specs.Inheriting.{with_further}
use Rattle.td_types.specs.Judged.{inherited_properties}
use Rattle.td_types.specs.declared.entry.TypeEntry.{TypeEntry}
use Rattle.td_types.proofs.inheriting.extend.Given as goal

abbrev pub invariant-loop-property : goal.invariant-loop-property
invariant-loop-property l =
    record {
      few : length l.full ≤ most_properties;
      so_far : (later : List PropStruct)
          → with_further (inherited_properties (map (λ (b : Bor TypeEntry). b.now) l.bases)) l.full
          (drop l.property-index l.base.full ++ later)
          ≡ with_further (inherited_properties (map (λ (b : Bor TypeEntry). b.now) l.bases)) l.fn.full (l.base.full ++ later);
    }
