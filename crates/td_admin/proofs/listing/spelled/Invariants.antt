use Rattle.std.proofs.Common.{◌≡◌, ◌++◌, drop, map}
use Rattle.td_register.specs.Ids.{id_of}
use Rattle.td_admin.proofs.listing.spelled.Given as goal

-- the ids so far and those of what is left are those of all
abbrev pub invariant-loop-number : goal.invariant-loop-number
invariant-loop-number l = l.ids ++ map id_of (drop l.number-index l.numbers) ≡ map id_of l.numbers
