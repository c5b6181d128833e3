-- Naming contexts that one alone calls: every change is one's own.
use Rattle.std.specs.Prelude.{◌≡◌, ℕ, ◌+◌, List, [], ◌∷◌}
use Rattle.td_naming.specs.Histories.{Past}
use Rattle.td_naming.specs.Views.{View}
use Rattle.td_naming.specs.declared.history.NameChange.{NameChange}

-- the numbers from k on, as many as there are changes
abbrev pub places : ℕ → List NameChange → List ℕ
places k [] = []
places k (e ∷ es) = k ∷ places (k + 1) es

abbrev pub solo_view : Past → View
solo_view p = record { home = p.home; history = p.history; own = places 0 p.history }

-- others change nothing
abbrev pub no_changes : List NameChange → Type 0
no_changes between = between ≡ []
