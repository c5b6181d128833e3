use Rattle.std.proofs.Common.{false, Ok}
use Rattle.td_ops.specs.declared.outcome.Outcome.TheVariants.{Done}
use Rattle.td_changes.proofs.Entering.{applied-done, not-applied, numbered-then, uncounted}
use Rattle.td_changes.proofs.applying.apply.Goals as goal

pub returns-in-Ok-clause-applies : goal.returns-in-Ok-clause-applies
returns-in-Ok-clause-applies c =
    uncounted c.args.store.now c.apply_change.new.store c.args.c (Ok (Done c.in_ok-content.content))
    (applied-done false c.args.c c.args.store.now c.apply_change.new.store c.in-Ok.accepted c.in_ok-content.content
    c.in-Ok.ensures.accepts c.in_ok-content.ensures.reply)

pub returns-in-Ok-clause-numbered : goal.returns-in-Ok-clause-numbered
returns-in-Ok-clause-numbered c =
    numbered-then false c.args.store.now c.apply_change.new.store c.args.c c.apply_change.result c.apply_change.ensures.accepts
    c.requires

pub returns-in-Err-clause-applies : goal.returns-in-Err-clause-applies
returns-in-Err-clause-applies c =
    uncounted c.args.store.now c.apply_change.new.store c.args.c c.not_done.result
    (not-applied false c.args.c c.args.store.now c.apply_change.new.store c.in-Err.fault c.not_done.result
    c.in-Err.ensures.accepts c.not_done.ensures)
