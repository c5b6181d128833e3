-- Worked examples.
use Rattle.std.proofs.Common.{◌≡◌, codes, refl}
use Rattle.td_cdr.specs.Place.{At}
use Rattle.td_targets.specs.Targets.{place_of}
use Rattle.td_ior.specs.Keys.{key_of}
use Rattle.td_ior.specs.Number.{number_below}
use Rattle.td_trader.specs.Worlds.{View}
use Rattle.td_walk.specs.declared.trace.Address.{Address}
use Rattle.td_servant.specs.Examples.{WorkedInterfaces, WorkedKeys, WorkedLists, WorkedPoints, WorkedRequests}
use Rattle.td_servant.specs.Objects.{object_at}

pub keys : (v : View) → v.name ≡ codes "A" → WorkedKeys v
unfolding object_at place_of key_of number_below
keys v e = record { lookup = rw e refl; of_none = rw e refl; not_kept = rw e refl; kept = rw e refl }

pub requests : (v : View) (a : At) → v.name ≡ codes "A" → WorkedRequests v a
unfolding object_at place_of key_of number_below
requests v a e = record { unknown_key = rw e refl; unknown_operation = rw e refl }

pub interfaces : WorkedInterfaces
interfaces = record { inherits = refl; lacks = refl; every = refl }

pub points : WorkedPoints
points = record { accepted = refl; refused = refl }

pub lists : (home : Address) → WorkedLists home
lists home = record { asked = refl; first = refl; both = refl; rest = refl; none_left = refl }
