use Rattle.std.proofs.Common.{◌≡◌, [], drop, take, reverse}
use Rattle.td_cdr.specs.Seen.{HaveSeen}
use Rattle.td_trader.specs.Queries.{names_cause}
use Rattle.td_trader.proofs.query.check_names.Given as goal

-- the names before are those that were met, and what is at fault from here on is what is at fault
abbrev pub invariant-loop-name : goal.invariant-loop-name
invariant-loop-name l =
    record {
      seen : HaveSeen l.seen (reverse (take l.name-index l.names));
      so_far : names_cause (reverse (take l.name-index l.names)) (drop l.name-index l.names) ≡ names_cause [] l.names;
    }
