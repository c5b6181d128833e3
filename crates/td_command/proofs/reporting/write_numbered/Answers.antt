use Rattle.std.proofs.Common.{decimal, ◌∙◌}
use Rattle.td_command.proofs.Telling.{first-fails, second-fails, third-tells}
use Rattle.td_command.proofs.reporting.write_numbered.Goals as goal

pub returns-in_err-write_all : goal.returns-in_err-write_all
returns-in_err-write_all g c =
    first-fails c.args.before.now (decimal c.args.number) c.args.after.now _ _ _ _ c.in_err-write_all.ensures.tells
    c.in_err-write_all.ensures.failed

pub returns-in_err-write_all-2 : goal.returns-in_err-write_all-2
returns-in_err-write_all-2 g c =
    second-fails c.args.before.now (decimal c.args.number) c.as_bytes.result.now c.args.after.now _ _ _ _ _ _
    (c.as_bytes.ensures.value ∙ c.format.ensures.text)
    c.in_ok-write_all.ensures.whole c.in_ok-write_all.ensures.tells.later c.in_err-write_all-2.ensures.tells
    c.in_err-write_all-2.ensures.failed

pub returns : goal.returns
returns g c =
    third-tells c.args.before.now (decimal c.args.number) c.as_bytes.result.now c.args.after.now _ _ _ _ _ _ _ _
    (c.as_bytes.ensures.value ∙ c.format.ensures.text)
    c.in_ok-write_all.ensures.whole c.in_ok-write_all.ensures.tells.later c.in_ok-write_all-2.ensures.whole
    c.in_ok-write_all-2.ensures.tells.later c.write_all-3.ensures.tells
