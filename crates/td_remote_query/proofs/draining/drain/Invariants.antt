use Rattle.std.proofs.Common.{◌≡◌, ◌≤◌, ◌+◌, ◌-◌, length}
use Rattle.td_call.specs.Replies.{reply_limit}
use Rattle.td_remote_query.specs.Draining.{AreFit, most_offers}
use Rattle.td_remote_query.specs.Turns.{bytes_limit}
use Rattle.td_remote_query.proofs.Gathering.{Came}
use Rattle.td_remote_query.proofs.draining.drain.Given as goal

-- the batches so far
abbrev pub invariant-batches : goal.invariant-batches
invariant-batches g l = record {
  same : g.L.Wire.same l.initial.wire l.wire;
  limit : l.framer.limit ≡ reply_limit;
  room : l.framer.start + length l.framer.rest ≤ bytes_limit l.id;
  fit : AreFit l.gathered.items;
  came :
      Came l.profile l.initial.framer.rest l.framer.rest (g.L.Wire.content l.initial.wire) (g.L.Wire.content l.wire)
      (g.L.Wire.faults l.initial.wire) (g.L.Wire.faults l.wire) l.initial.gathered.items l.gathered.items l.id;
}

abbrev pub decreases-batches : goal.decreases-batches
decreases-batches g l = most_offers - length l.gathered.items
