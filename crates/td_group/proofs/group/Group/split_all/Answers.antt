use Rattle.td_group.proofs.Passing.{as_before, on_err, met_in_part, out_in_part}
use Rattle.td_group.proofs.group.Group.split_all.Goals as goal

pub returns-in_err-out-clause-err : goal.returns-in_err-out-clause-err
returns-in_err-out-clause-err c =
    on_err c.from_residual.result (as_before c.args.passes.now.items)

pub meet_all-requires-clause-out : goal.meet_all-requires-clause-out
meet_all-requires-clause-out c = out_in_part _ _ _ c.in-Err.ensures.err

pub returns-in-Err-clause-err : goal.returns-in-Err-clause-err
returns-in-Err-clause-err c = met_in_part _ _ _ _ c.in-Err.ensures.err c.meet_all.ensures.met
