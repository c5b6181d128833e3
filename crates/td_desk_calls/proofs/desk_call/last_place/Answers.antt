use Rattle.std.proofs.Common.{arith}
use Rattle.td_cell.specs.Passes.{knowledge}
use Rattle.td_desk_calls.proofs.Calling.{seen_of}
use Rattle.td_desk_calls.proofs.desk_call.last_place.Goals as goal

pub overflow_sub-result : goal.overflow_sub-result
overflow_sub-result c =
    let s = seen_of (knowledge c.args.pass.now).seen c.args.pass.now.knows in
    omega (arith, c.changes.ensures s.0 s.1, c.requires s.0 s.1)

pub returns : goal.returns
returns c = λ h is. omega (arith, c.changes.ensures h is, c.requires h is)
