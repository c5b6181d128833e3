-- A trader's history: the accepted changes with their replies, from its opening store on. A point is the length of a
-- front of it.
use Rattle.std.specs.Prelude.{◌≡◌, ℕ, ◌+◌, Bool, true, false, List, [], ◌∷◌, ◌++◌, take, slice_get, Some}
use Rattle.td_ops.specs.declared.call.Change.{Change}
use Rattle.td_ops.specs.declared.outcome.Outcome.{Outcome}
use Rattle.td_ops.specs.declared.outcome.Outcome.TheVariants.{Done, User, System}
use Rattle.td_ops.specs.declared.outcome.Reply.{Reply}
use Rattle.td_changes.specs.Applying.{apply, apply_counted}
use Rattle.td_register.specs.Entries.{entry}
use Rattle.td_register.specs.Stores.{Store}
use Rattle.td_changes.specs.declared.bounds.Bounds.{Bounds}
use Rattle.td_register.specs.declared.history.Accepted.{Accepted}

-- the store after these changes
unfoldable pub after_all : Store → List Accepted → Store
after_all s [] = s
after_all s (e ∷ es) = after_all (apply s e.change).store es

-- the store at a point: after so many entries of the history
abbrev pub at : (opening : Store) → List Accepted → (point : ℕ) → Store
at opening history point = after_all opening (take point history)

-- each change, where so many came before, is accepted at its place with its reply
unfoldable pub LegalFrom : Bounds → (count : ℕ) → Store → List Accepted → Type 0
LegalFrom bounds count s [] = Unit {0}
LegalFrom bounds count s (e ∷ es) =
    ((apply_counted bounds count s e.change).outcome ≡ Done e.reply)
    × LegalFrom bounds (count + 1) (apply s e.change).store es

abbrev pub Legal : Bounds → (opening : Store) → List Accepted → Type 0
Legal bounds opening history = LegalFrom bounds 0 opening history

-- ---- a change

-- an accepted change comes to the end of the history, and a refused one doesn't
abbrev pub add_accepted : List Accepted → Change → Outcome → List Accepted
add_accepted history c (Done reply) = history ++ entry c reply ∷ []
add_accepted history c (User e) = history
add_accepted history c (System kind minor completion) = history

-- ---- what holds of every change

abbrev pub is_done : Outcome → Bool
is_done (Done reply) = true
is_done (User e) = false
is_done (System kind minor completion) = false

-- the accepted change is the entry at its point
abbrev pub StandsAt : List Accepted → (point : ℕ) → Change → Reply → Type 0
StandsAt history point c reply = slice_get history point ≡ Some (entry c reply)
