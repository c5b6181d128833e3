-- Nil references.
use Rattle.std.specs.Prelude.{nat_eq, Bool, ◌&&◌, [], length}
use Rattle.td_typecode.specs.declared.reference.Ior.{Ior}

-- it has neither an id nor a profile
abbrev pub is_nil : Ior → Bool
is_nil r = nat_eq (length r.id) 0 && nat_eq (length r.profiles) 0

abbrev pub nil : Ior
nil = record { id = []; profiles = [] }
