-- What holds of marks and of made identifiers, however they came about.
use Rattle.std.specs.Prelude.{◌≡◌, ℕ, ◌+◌, ◌^◌, ◌<◌, ◌≤◌, List, None, length}
use Rattle.td_cdr.specs.Marks.{Marks, RemembersAs, remembered, KeepsLatest, Later, IsMarkedFrom, add_mark}
use Rattle.td_marks.specs.Making.{next_value, IsNextValue}

-- an identifier that isn't remembered is marked: the marks go on
abbrev pub FreshMarksFollow : Type 0
FreshMarksFollow =
    (m : Marks) (i : List ℕ) (c : ℕ) → KeepsLatest m → m.counter ≤ c → remembered m i ≡ None
    → IsMarkedFrom m (add_mark m i c)

-- an identifier that was marked under a number and isn't remembered any more: its next mark has a number that is
-- greater by more than there is room for
abbrev pub MarksOfOneIdentifierAreFar : Type 0
MarksOfOneIdentifierAreFar =
    (a m : Marks) (i : List ℕ) (number : ℕ) → RemembersAs a i number → Later a m → remembered m i
    ≡ None
    → number + m.ring < m.count + 1

-- there is a next value, within one try more than there are identifiers
abbrev pub NextValuesAreFree : Type 0
NextValuesAreFree =
    (m : Marks) (stem : List ℕ) → KeepsLatest m → m.counter + length m.kept < 256 ^ 8
    → IsNextValue m stem (next_value m stem)

-- and one alone
abbrev pub NextValuesAreAlone : Type 0
NextValuesAreAlone =
    (m : Marks) (stem : List ℕ) (v w : ℕ) → IsNextValue m stem v → IsNextValue m stem w → v ≡ w
