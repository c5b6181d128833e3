use Rattle.std.proofs.Common.{true, false, ap, arith, length, subst, sym}
use Rattle.td_value.specs.declared.structures.Offer.{Offer}
use Rattle.td_remote_query.specs.Draining.{AreFit}
use Rattle.td_remote_query.proofs.Batching.{few_join}
use Rattle.td_remote_query.proofs.Fitness.{joining_fit}
use Rattle.td_remote_query.proofs.Leftover.{behind_fault, behind_gathered, behind_refused}
use Rattle.td_remote_query.proofs.Writing.{writes_behind}
use Rattle.td_remote_query.proofs.query.drain_behind.Goals as goal

pub drain-requires-clause-few : goal.drain-requires-clause-few
drain-requires-clause-few g c =
    let few = few_join 0 c.args.found.offers c.requires.grows.joins in
    let size = ap (length {A = Offer}) c.into_vec-gathered.ensures in omega (arith, few, size)

pub drain-requires-clause-fit : goal.drain-requires-clause-fit
drain-requires-clause-fit g c =
    subst AreFit (sym c.into_vec-gathered.ensures)
    (joining_fit 0 c.args.found.offers c.requires.grows.joins c.requires.grows.writable)

pub returns-in-Err-clause-ends : goal.returns-in-Err-clause-ends
returns-in-Err-clause-ends g c =
    behind_fault c.args.found c.into_vec-gathered.result.items c.drain.new.gathered.items c.args.framer.now.rest
    (g.L.Wire.content c.args.wire.now) (g.L.Wire.faults c.args.wire.now) (g.L.Wire.faults c.drain.new.wire)
    c.in-Err.fault c.into_vec-gathered.ensures c.in-Err.ensures.drains

pub returns-in-Ok-Some-clause-ends : goal.returns-in-Ok-Some-clause-ends
returns-in-Ok-Some-clause-ends g c =
    behind_refused c.args.found c.into_vec-gathered.result.items c.drain.new.gathered.items c.args.framer.now.rest
    (g.L.Wire.content c.args.wire.now) (g.L.Wire.faults c.args.wire.now) (g.L.Wire.faults c.drain.new.wire)
    c.in-Ok-Some.answer c.into_vec-gathered.ensures (rw c.in-Ok-Some.field-0-is at c.in-Ok-Some.ensures.drains)

pub returns-in-Ok-None-clause-ends : goal.returns-in-Ok-None-clause-ends
returns-in-Ok-None-clause-ends g c =
    behind_gathered c.args.found c.into_vec-gathered.result.items c.drain.new.gathered.items _ c.args.framer.now.rest
    (g.L.Wire.content c.args.wire.now) (g.L.Wire.faults c.args.wire.now) (g.L.Wire.faults c.drain.new.wire)
    c.into_vec-gathered.ensures c.from_vec.ensures (rw c.in-Ok-None.field-0-is at c.in-Ok-None.ensures.drains)

pub returns-in-Err-clause-writes : goal.returns-in-Err-clause-writes
returns-in-Err-clause-writes g c =
    writes_behind c.args.profile.now c.into_vec-gathered.result.items c.args.found.offers c.args.framer.now.rest
    (g.L.Wire.content c.args.wire.now) (g.L.Wire.content c.drain.new.wire) false c.into_vec-gathered.ensures
    c.in-Err.ensures.writes

pub returns-in-Ok-Some-clause-writes : goal.returns-in-Ok-Some-clause-writes
returns-in-Ok-Some-clause-writes g c =
    writes_behind c.args.profile.now c.into_vec-gathered.result.items c.args.found.offers c.args.framer.now.rest
    (g.L.Wire.content c.args.wire.now) (g.L.Wire.content c.drain.new.wire) false c.into_vec-gathered.ensures
    (rw c.in-Ok-Some.field-0-is at c.in-Ok-Some.ensures.writes)

pub returns-in-Ok-None-clause-writes : goal.returns-in-Ok-None-clause-writes
returns-in-Ok-None-clause-writes g c =
    writes_behind c.args.profile.now c.into_vec-gathered.result.items c.args.found.offers c.args.framer.now.rest
    (g.L.Wire.content c.args.wire.now) (g.L.Wire.content c.drain.new.wire) true c.into_vec-gathered.ensures
    (rw c.in-Ok-None.field-0-is at c.in-Ok-None.ensures.writes)
