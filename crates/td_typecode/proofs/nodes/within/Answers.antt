use Rattle.std.proofs.Common.{◌≤◌, length, sym, arith}
use Rattle.std.proofs.lemmas.Option.{slice_get_read, slice_get_past}
use Rattle.td_cdr.specs.Format.{upwards}
use Rattle.td_typecode.proofs.OfNodes.{upwards-length, upwards-is}
use Rattle.td_typecode.proofs.nodes.within.Goals as goal

pub returns-in-Some-clause-value : goal.returns-in-Some-clause-value
returns-in-Some-clause-value c =
    rw c.in-Some.is (sym (slice_get_read (upwards 0 c.args.count) c.args.count c.in-Some.i c.in-Some.i
    (sym (upwards-length 0 c.args.count)) c.if-i-count.true (upwards-is c.args.count c.in-Some.i c.if-i-count.true)))

pub returns-in_default-clause-value : goal.returns-in_default-clause-value
returns-in_default-clause-value c =
    let past : length (upwards 0 c.args.count) ≤ c.in-Some.i =
    omega (arith, upwards-length 0 c.args.count, c.if-i-count.false) in
    rw c.in-Some.is (sym (slice_get_past (upwards 0 c.args.count) c.in-Some.i past))
