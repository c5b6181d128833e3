use Rattle.std.proofs.Common.{◌≡◌, [], drop, take, map, reverse, Bor}
use Rattle.td_types.specs.Adding.{supers_fault}
use Rattle.td_types.specs.Judged.{AreBases}
use Rattle.td_types.specs.Kept.{repository}
use Rattle.td_cdr.specs.Seen.{HaveSeen}
use Rattle.td_types.specs.declared.entry.TypeEntry.{TypeEntry}
use Rattle.td_types.proofs.bases.bases_of.Given as goal

abbrev pub invariant-loop-base_name : goal.invariant-loop-base_name
invariant-loop-base_name l =
    record {
      seen : HaveSeen l.seen (reverse (take l.base_name-index l.supers));
      found : AreBases l.entries (take l.base_name-index l.supers) (map (λ (b : Bor TypeEntry). b.now) l.bases);
      so_far : supers_fault (repository l.entries l.interfaces 0) l.name l.if_name
          (reverse (take l.base_name-index l.supers)) (drop l.base_name-index l.supers)
          ≡ supers_fault (repository l.entries l.interfaces 0) l.name l.if_name [] l.supers;
    }
