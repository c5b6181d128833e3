use Rattle.std.proofs.Common.{◌-◌, ◌≡◌, ◌≤◌, length, drop}
use Rattle.td_targets.specs.Targets.{place_of}
use Rattle.td_targets.proofs.Places.{placed}
use Rattle.td_targets.proofs.target.place_of.Given as goal

abbrev pub invariant-loop-place : goal.invariant-loop-place
invariant-loop-place g l =
    let w = g.T.Traders.world l.fn.traders in
    (l.place ≤ length w) × (place_of w l.fn.name ≡ placed l.place (place_of (drop l.place w) l.fn.name))

abbrev pub decreases-loop-place : goal.decreases-loop-place
decreases-loop-place g l = l.count - l.place
