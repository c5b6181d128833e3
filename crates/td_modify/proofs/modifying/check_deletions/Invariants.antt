use Rattle.std.proofs.Common.{◌≡◌, [], drop, take, reverse}
use Rattle.td_cdr.specs.Seen.{HaveSeen}
use Rattle.td_register.specs.Registers.{deletions_cause}
use Rattle.td_modify.proofs.modifying.check_deletions.Given as goal

abbrev pub invariant-loop-name : goal.invariant-loop-name
invariant-loop-name l =
    record {
      seen : HaveSeen l.seen (reverse (take l.name-index l.names));
      so_far : deletions_cause l.type_properties l.offer (reverse (take l.name-index l.names)) (drop l.name-index l.names)
          ≡ deletions_cause l.type_properties l.offer [] l.names;
    }
