use Rattle.std.proofs.Common.{◌≡◌, drop, map, Bor, []}
use Rattle.td_types.specs.Conforming.{once}
use Rattle.td_types.specs.Judged.{names_above}
use Rattle.td_cdr.specs.Seen.{HaveSeen}
use Rattle.td_types.specs.declared.entry.TypeEntry.{TypeEntry}
use Rattle.td_types.proofs.inheriting.ancestors.Given as goal

abbrev pub invariant-loop-base : goal.invariant-loop-base
invariant-loop-base l =
    record {
      seen : HaveSeen l.seen l.met;
      so_far : once l.met (names_above (map (λ (b : Bor TypeEntry). b.now) (drop l.base-index l.bases)))
          ≡ once [] (names_above (map (λ (b : Bor TypeEntry). b.now) l.bases));
    }
