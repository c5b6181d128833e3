-- A change that is done to a trader's store and history.
use Rattle.std.specs.Prelude.{◌≡◌, ℕ, ◌<◌, Bool, true, false, if◌then◌else◌, List, Result, Ok, Err}
use Rattle.td_cdr.specs.declared.memory.Memory.{Memory as OutOfMemory}
use Rattle.td_ops.specs.declared.call.Change.{Change}
use Rattle.td_ops.specs.declared.outcome.Outcome.{Outcome}
use Rattle.td_changes.specs.Histories.{is_done, add_accepted}
use Rattle.td_register.specs.Causes.{Effect}
use Rattle.td_register.specs.Stores.{Store}
use Rattle.td_register.specs.declared.history.Accepted.{Accepted}

-- room that was reserved is there
abbrev pub HasRoom : (reserved : Bool) → (count capacity : ℕ) → Type 0
HasRoom reserved count capacity = reserved ≡ true → count < capacity

-- The outcome and the store are as said, and an accepted change is the last entry, in the room that was reserved; or
-- memory ran out, and nothing changed.
abbrev pub Records : Change → Effect → (s t : Store) → (h k : List Accepted) → (r q : Bool)
    → Result Outcome OutOfMemory → Type 0
Records c a s t h k r q (Ok o) =
    (a.outcome ≡ o) × (a.store ≡ t) × (k ≡ add_accepted h c o)
    × (q ≡ (if is_done o then false else r))
Records c a s t h k r q (Err e) = (t ≡ s) × (k ≡ h) × (q ≡ r)
