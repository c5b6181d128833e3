use Rattle.std.proofs.Common.{sym}
use Rattle.td_group.specs.Grouping.{IsOut, MeetsPass}
use Rattle.td_group.proofs.Passing.{meet_keeps_out}
use Rattle.td_group.proofs.RowLaws.{beside_zip, front_rows, zip_length}
use Rattle.td_group.proofs.group.Group.take_in.Goals as goal

pub meet_all-requires-clause-out : goal.meet_all-requires-clause-out
meet_all-requires-clause-out g c = rw c.into_passes.ensures (beside_zip IsOut _ _ c.requires.out)

pub returns-clause-met : goal.returns-clause-met
returns-clause-met g c =
    front_rows MeetsPass _ _ _ (sym (zip_length IsOut _ _ c.requires.out))
    (rw c.into_passes.ensures at c.meet_all.ensures.met)

pub returns-clause-stays : goal.returns-clause-stays
returns-clause-stays g c =
    meet_keeps_out _ _ _ (front_rows MeetsPass _ _ _ (sym (zip_length IsOut _ _ c.requires.out))
    (rw c.into_passes.ensures at c.meet_all.ensures.met))
