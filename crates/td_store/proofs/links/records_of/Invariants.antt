use Rattle.std.proofs.Common.{◌≡◌, ◌++◌, drop}
use Rattle.td_store.proofs.links.records_of.Given as goal

-- the copies so far and what is left are all
abbrev pub invariant-loop-link : goal.invariant-loop-link
invariant-loop-link l = l.records ++ drop l.link-index l.links ≡ l.links
