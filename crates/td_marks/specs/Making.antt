-- The identifier that a trader makes for a query that states none (Trading Object Service, the policy request_id and
-- the attribute request_id_stem). That a value is skipped whose identifier is remembered is this trader's choice.
use Rattle.std.specs.Prelude.{◌≡◌, ℕ, zero, suc, ◌+◌, ◌<◌, ◌≤◌, Bool, false, cond, List, length, None, is_none}
use Rattle.td_cdr.specs.Marks.{Marks, remembered, made_identifier}
use Rattle.td_marks.specs.declared.made.Made.{Made}

-- the identifier of this value isn't remembered
abbrev pub is_free : Marks → (stem : List ℕ) → (value : ℕ) → Bool
is_free m stem value = is_none (remembered m (made_identifier stem value))

-- the first number from k on that passes the test, or the one behind so many that don't
abbrev pub first_free : (ℕ → Bool) → (tries : ℕ) → ℕ → ℕ
first_free free zero k = k
first_free free (suc tries) k = cond (free k) k (first_free free tries (k + 1))

-- the value of which the next identifier is made
abbrev pub next_value : Marks → (stem : List ℕ) → ℕ
next_value m stem = first_free (is_free m stem) (length m.kept) m.counter

-- it is the least one from the counter on whose identifier isn't remembered
pub record IsNextValue (m : Marks) (stem : List ℕ) (value : ℕ) : Type 0 where
  pub from : m.counter ≤ value
  pub free : remembered m (made_identifier stem value) ≡ None
  pub least : (k : ℕ) → m.counter ≤ k → k < value → is_free m stem k ≡ false
  pub soon : value ≤ m.counter + length m.kept

-- the identifier of a value, and the counter that it leaves
abbrev pub made_from : (stem : List ℕ) → (value : ℕ) → Made
made_from stem value = record { identifier = made_identifier stem value; counter = value + 1 }
