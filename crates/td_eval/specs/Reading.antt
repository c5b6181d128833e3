-- Which properties an evaluation reads.
use Rattle.std.specs.Prelude.{◌≡◌, List, [], ◌∷◌, None}
use Rattle.td_value.specs.declared.structures.Property.{Property}
use Rattle.td_eval.specs.Mentioning.{Names}
use Rattle.td_eval.specs.Properties.{property}

-- two maps have the same properties under these names
abbrev pub Agree : List Property → List Property → Names → Type 0
Agree m n [] = Unit {0}
Agree m n (name ∷ names) = (property m name ≡ property n name) × Agree m n names

-- no property stands under one of these names
abbrev pub HasNone : List Property → Names → Type 0
HasNone m [] = Unit {0}
HasNone m (name ∷ names) = (property m name ≡ None) × HasNone m names
