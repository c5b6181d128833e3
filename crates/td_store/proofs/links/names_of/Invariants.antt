use Rattle.std.proofs.Common.{◌≡◌, ◌++◌, drop, map}
use Rattle.td_store.specs.declared.record.LinkRecord.{LinkRecord}
use Rattle.td_store.proofs.links.names_of.Given as goal

-- the names so far and those of what is left are those of all
abbrev pub invariant-loop-link : goal.invariant-loop-link
invariant-loop-link l =
    l.names ++ map (λ (x : LinkRecord). x.name) (drop l.link-index l.links) ≡ map (λ (x : LinkRecord). x.name) l.links
