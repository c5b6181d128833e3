-- Names that were met.
use Rattle.std.specs.Prelude.{◌≡◌, ℕ, Bool, List, map}
use Rattle.std.specs.Borrow.{Bor}
use Rattle.std.specs.List.{list_any}
use Rattle.std.specs.Str.{bytes_eq}

-- what references lend
abbrev pub names_of : List (Bor (List ℕ)) → List (List ℕ)
names_of = map (λ k. k.now)

-- a name is among these
abbrev pub is_among : List ℕ → List (List ℕ) → Bool
is_among name names = list_any (bytes_eq name) names

-- a name is among those that were met
abbrev pub has_seen : List (List ℕ) → List ℕ → Bool
has_seen seen name = is_among name seen

-- those that were met are these names
abbrev pub HaveSeen : List (List ℕ) → List (List ℕ) → Type 0
HaveSeen seen names = (name : List ℕ) → has_seen seen name ≡ is_among name names
