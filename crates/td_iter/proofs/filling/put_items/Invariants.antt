use Rattle.std.proofs.Common.{◌≤◌, ◌-◌}
use Rattle.td_iter.proofs.Loading.{SoFar}
use Rattle.td_iter.proofs.filling.put_items.Given as goal

abbrev pub invariant-loop-alloc : goal.invariant-loop-alloc
invariant-loop-alloc g l = record {
  so_far : SoFar g.T.Spelled.format.writes l.tail l.items l.initial.w l.w l.i l.best.count l.best.end;
  most : l.i ≤ l.most;
}

abbrev pub decreases-loop-alloc : goal.decreases-loop-alloc
decreases-loop-alloc g l = l.most - l.i
