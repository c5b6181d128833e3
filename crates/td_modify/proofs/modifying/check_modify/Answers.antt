use Rattle.std.proofs.Common.{[]}
use Rattle.td_register.specs.Registers.{changes_cause, deletions_cause}
use Rattle.td_register.proofs.Otherwise.{later}
use Rattle.td_modify.proofs.modifying.check_modify.Goals as goal

pub returns : goal.returns
returns c =
    later (deletions_cause c.args.type_properties.now c.args.offer.now [] c.args.deleted.now)
    (changes_cause c.args.supported c.args.type_properties.now c.args.offer.now c.args.deleted.now c.args.changed.now)
    c.check_changes.result c.in_ok-check_deletions.ensures.judged
    (c.check_changes.ensures c.args.deleted.now c.in_ok-check_deletions.ensures.noted)
