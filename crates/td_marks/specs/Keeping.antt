-- The marks that a ring of identifiers stands for, and the map that finds them.
use Rattle.std.specs.Prelude.{◌≡◌, ℕ, ◌+◌, ◌-◌, ◌*◌, ◌<◌, ◌≤◌, min, nat_eq, Bool, List, [], ◌∷◌, ◌++◌, length, map}
use Rattle.std.specs.Prelude.{Vec}
use Rattle.std.specs.Cmp.Lexicographic.{pointwise}
use Rattle.std.specs.List.{IsDistinct}
use Rattle.std.specs.Map.{lookup}
use Rattle.std.specs.Str.{bytes_eq}
use Rattle.std.specs.declared.alloc.Global.{Global}
use Rattle.circular_buffer.specs.Buffer.{Buffer, keep_last}
use Rattle.td_cdr.specs.Marks.{Marks, RememberedMark, KeepsLatest, entry_of, remembered}

-- how many identifiers a ring remembers at most; this trader's choice
abbrev pub most_kept : ℕ
most_kept = 4096

-- nothing was marked
abbrev pub no_marks : ℕ → Marks
no_marks ring = record { count = 0; counter = 0; ring = ring; kept = [] }

-- identifiers with their numbers, from above first on
abbrev pub number_marks : ℕ → List (List ℕ) → List RememberedMark
number_marks first [] = []
number_marks first (i ∷ is) = entry_of i (first + 1) ∷ number_marks (first + 1) is

-- the marks of which the last ones have these identifiers
abbrev pub marks_of : (count counter : ℕ) → Buffer (List ℕ) → Marks
marks_of count counter ring = record {
  count = count;
  counter = counter;
  ring = ring.capacity;
  kept = number_marks (count - length ring.items) ring.items;
}

-- the identifiers that are remembered
abbrev pub identifiers : List RememberedMark → List (List ℕ)
identifiers kept = map (λ e. e.identifier) kept

-- these marks, with others kept
abbrev pub with_kept : Marks → List RememberedMark → Marks
with_kept m kept = record m { kept = kept }

-- the entries of the map: identifiers, each with its number
abbrev pub MarkEntries : Type 0
MarkEntries = List (Vec ℕ Global × ℕ)

-- the keys are the same identifier
abbrev pub same_key : Vec ℕ Global → Vec ℕ Global → Bool
same_key a b = pointwise nat_eq a.items b.items

-- a key that is this identifier
abbrev pub is_key : List ℕ → Vec ℕ Global → Bool
is_key identifier key = bytes_eq identifier key.items

-- in the map each identifier has the number under which it is remembered, and no other has one
abbrev pub FindsIdentifiers : MarkEntries → Marks → Type 0
FindsIdentifiers entries m = (identifier : List ℕ) → lookup (is_key identifier) entries
    ≡ remembered m identifier

-- the map finds this identifier besides
abbrev pub AddsIdentifier : MarkEntries → (identifier : List ℕ) → (number : ℕ) → MarkEntries
    → Type 0
AddsIdentifier entries identifier number more =
    (m : Marks) → FindsIdentifiers entries m
    → FindsIdentifiers more (with_kept m (m.kept ++ entry_of identifier number ∷ []))

-- how many identifiers there is no room for
abbrev pub forgotten_count : Buffer (List ℕ) → ℕ
forgotten_count ring = length ring.items - ring.capacity

-- the map that finds one identifier more than there may be room for is made to find those that stay
abbrev pub Forgets : Buffer (List ℕ) → MarkEntries → MarkEntries → Type 0
Forgets ring entries left =
    (m : Marks) (first : ℕ) → length ring.items ≤ ring.capacity + 1 → IsDistinct bytes_eq ring.items
    → FindsIdentifiers entries (with_kept m (number_marks first ring.items))
    → FindsIdentifiers left (with_kept m (number_marks (first + forgotten_count ring)
    (keep_last ring.capacity ring.items)))

-- the ring holds the last identifiers, as many as were marked or as there is room for, and the map finds these
pub record IsTied (count counter : ℕ) (ring : Buffer (List ℕ)) (entries : MarkEntries) :
    Type 0 where
  pub room : 0 < ring.capacity
  pub most : ring.capacity ≤ most_kept
  pub last : length ring.items ≡ min count ring.capacity
  pub steps : counter ≤ (most_kept + 1) * count
  pub distinct : IsDistinct bytes_eq ring.items
  pub found : FindsIdentifiers entries (marks_of count counter ring)

-- what holds of the marks of every ring: one mark raises the counter by no more than there may be identifiers, and one
pub record AreRingMarks (m : Marks) : Type 0 where
  pub orderly : KeepsLatest m
  pub most : m.ring ≤ most_kept
  pub within : length m.kept ≤ m.ring
  pub steps : m.counter ≤ (most_kept + 1) * m.count
  pub distinct : IsDistinct bytes_eq (identifiers m.kept)
