-- Lists of values that are made one by one.
use Rattle.std.specs.Prelude.{◌≡◌, Bool, true, false, List, [], ◌∷◌, ◌++◌, Option, Some, None}
use Rattle.td_typecode.specs.declared.code.Value.{Value}

-- the value that was found stands at the end, or none was found and the list is as it was
abbrev pub PutsValue : Option Value → Bool → List Value → List Value → Type 0
PutsValue (Some v) put old new = (put ≡ true) × (new ≡ old ++ v ∷ [])
PutsValue None put old new = (put ≡ false) × (new ≡ old)

-- these values and those that follow, where there are any
abbrev pub join_values : List Value → Option (List Value) → Option (List Value)
join_values front (Some back) = Some (front ++ back)
join_values front None = None
