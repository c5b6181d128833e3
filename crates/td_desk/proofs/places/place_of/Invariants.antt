use Rattle.std.proofs.Common.{◌≡◌, ◌+◌, ◌-◌, ◌≤◌, drop, length}
use Rattle.td_iter.specs.Desks.{place_of}
use Rattle.td_desk.proofs.places.place_of.Given as goal

abbrev pub invariant-loop-place : goal.invariant-loop-place
invariant-loop-place l = record {
  within : l.place ≤ length l.entries.items;
  place : l.place + place_of l.trader l.number (drop l.place l.entries.items)
      ≡ place_of l.trader l.number l.entries.items;
}

abbrev pub decreases-loop-place : goal.decreases-loop-place
decreases-loop-place l = length l.entries.items - l.place
