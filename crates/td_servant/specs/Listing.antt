-- What the functions answer that cut a list of ids into batches.
use Rattle.std.specs.Prelude.{◌≡◌, ℕ, nat_le, Bool, List, length, None, Some, Result, Ok, Err}
use Rattle.td_ops.specs.declared.outcome.Outcome.{Outcome}
use Rattle.td_servant.specs.Looking.{ids_in}

-- the ids of a result that lists them, or another outcome as it was
abbrev pub IsListed : (found : Outcome) → Result (List (List ℕ)) Outcome → Type 0
IsListed found (Ok ids) = ids_in found ≡ Some ids
IsListed found (Err o) = (ids_in found ≡ None) × (o ≡ found)

-- an iterator can hold it
abbrev pub has_small_size : (id : List ℕ) → Bool
has_small_size id = nat_le (length id) 256
