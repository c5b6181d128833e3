-- Worked examples.
use Rattle.std.proofs.Common.{List, refl}
use Rattle.td_typecode.specs.declared.code.Any.{Any}
use Rattle.td_lookup.specs.Examples.{WorkedChoosing, WorkedCompletion, WorkedFirst}
use Rattle.td_trader.specs.Worlds.{View}
use Rattle.td_value.specs.declared.structures.Offer.{Offer}
use Rattle.td_walk.specs.declared.trace.Address.{Address}

pub choosing : (v : Any) → WorkedChoosing v
choosing v = record { none = refl; some = refl; all = refl }

pub completion : (w : List View) → WorkedCompletion w
completion w = record { marked = refl; unmarked = refl; no_walk = refl; no_memory_entry = refl }

pub first : (home : Address) (o p : Offer) → WorkedFirst home o p
first home o p = record { one = refl; both = refl }
