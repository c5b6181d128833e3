use Rattle.std.proofs.Common.{◌≡◌, ◌++◌, true, take, drop, map, Bor}
use Rattle.td_types.specs.Adding.{definitions, redefinition}
use Rattle.td_types.specs.Firsts.{AreFirsts}
use Rattle.td_types.specs.Judged.{inherited_from}
use Rattle.td_types.specs.declared.entry.TypeEntry.{TypeEntry}
use Rattle.td_types.proofs.redefining.check_redefinitions.Given as goal

abbrev pub invariant-loop-base : goal.invariant-loop-base
invariant-loop-base l =
    record {
      firsts : AreFirsts l.firsts
          (definitions l.name true l.props
          ++ inherited_from (map (λ (b : Bor TypeEntry). b.now) (take l.base-index l.bases)));
      so_far : redefinition (definitions l.name true l.props
          ++ inherited_from (map (λ (b : Bor TypeEntry). b.now) (take l.base-index l.bases)))
          (inherited_from (map (λ (b : Bor TypeEntry). b.now) (drop l.base-index l.bases)))
          ≡ redefinition (definitions l.name true l.props) (inherited_from (map (λ (b : Bor TypeEntry). b.now) l.bases));
    }
