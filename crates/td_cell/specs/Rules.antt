-- The rule of a cell's table.
use Rattle.std.specs.Prelude.{◌≡◌, ◌≢◌, ℕ, ◌+◌, ◌-◌, ◌<◌, ◌≤◌, List, [], ◌∷◌, ◌++◌, length, slice_get, slice_index}
use Rattle.std.specs.Prelude.{slice_set, Option as Maybe, Some, None, Bool, true, false, ◌⊎◌}
use mathlib.Core.Option.{none, some}
use lib.ListN.{get_elem?}
use Rattle.atomic_table.specs.Table.{State, Me, Step}
use Rattle.td_cdr.specs.Marks.{In, Marks}
use Rattle.td_cell.specs.declared.pass.View.{View}
use Rattle.td_cell.specs.declared.pass.Mark.{Mark}
use Rattle.td_cell.specs.Lists.{Rises, merge, with_place, itself}
use Rattle.td_cell.specs.OwnMarks.{marks_between, number_of, Gap, IsMadeOf, AreSpaced}

-- each has been met
abbrev pub all_met : List Bool → Bool
all_met [] = true
all_met (false ∷ ms) = false
all_met (true ∷ ms) = all_met ms

-- how many have been met
abbrev pub count_met : List Bool → ℕ
count_met [] = 0
count_met (false ∷ ms) = count_met ms
count_met (true ∷ ms) = count_met ms + 1

module _ {B : Type 0} where
  abbrev pub places_of : View B → List ℕ
  places_of v = v.own

  abbrev pub marks_of : View B → List Mark
  marks_of v = v.own_marks

  abbrev pub first_view : B → ℕ → ℕ → View B
  first_view b n m = record {
    holds = false;
    spent = false;
    number = 0;
    seen = Some b;
    content = None;
    met = [];
    meetings = 0;
    turns = 0;
    changes = n;
    marks = m;
    own = [];
    own_marks = [];
  }

  abbrev pub with_turn : View B → B → ℕ → ℕ → View B
  with_turn v b n m = record v { holds = true; seen = Some b; changes = n; marks = m }

  -- the changes were counted: n
  abbrev pub with_changes : View B → ℕ → View B
  with_changes v n = record v { changes = n; own = with_place v.own v.changes n }

  -- the marks were counted: m, with these more; the book is now c
  abbrev pub with_marks : View B → B → List Mark → ℕ → View B
  with_marks v c more m = record v { seen = Some c; marks = m; own_marks = v.own_marks ++ more }

  -- the turn was given back, and with that one turn more was made
  abbrev pub without_turn : View B → View B
  without_turn v = record v { holds = false; turns = v.turns + 1 }

  -- the opening pass, after one more was split off, and that one
  abbrev pub opener : View B → View B
  opener v = record v { met = v.met ++ false ∷ [] }

  abbrev pub split_off : View B → View B
  split_off v = record v {
    holds = false;
    spent = false;
    number = length v.met + 1;
    content = None;
    met = [];
    meetings = 0;
    turns = 0;
    own = [];
    own_marks = [];
  }

  -- the opening pass, after it met another, and what is left of that one
  abbrev pub met_view : View B → View B → View B
  met_view v w = record v {
    content = w.seen;
    met = slice_set v.met (w.number - 1) true;
    meetings = v.meetings + 1;
    turns = v.turns + w.turns;
    own = merge itself v.own w.own;
    own_marks = merge number_of v.own_marks w.own_marks;
  }

  abbrev pub gone : View B
  gone = record {
    holds = false;
    spent = true;
    number = 0;
    seen = None;
    content = None;
    met = [];
    meetings = 0;
    turns = 0;
    changes = 0;
    marks = 0;
    own = [];
    own_marks = [];
  }

  -- the later of what was seen and told is what is seen
  abbrev pub learnt : View B → B → ℕ → ℕ → View B
  learnt v b n m = record v { seen = Some b; content = None; changes = n; marks = m }

  -- no view that isn't spent has another's number. The opening one knows which of the others are not spent
  pub record NumbersDiffer (views : List (View B)) : Type 0 where
    pub seats : ℕ → ℕ
    pub chief : View B
    pub here : get_elem? views (seats 0) ≡ some chief
    pub first : chief.number ≡ 0
    pub live : chief.spent ≡ false
    pub meetings : chief.meetings ≡ count_met chief.met
    pub each : (i : ℕ) (v : View B) → get_elem? views i ≡ some v → v.spent ≡ false
        → (i ≡ seats v.number) × (v.number ≤ length chief.met)
        × (0 < v.number → slice_get chief.met (v.number - 1) ≡ Some false)
    pub idle : (i : ℕ) (v : View B) → get_elem? views i ≡ some v → v.spent ≡ true → v.holds ≡ false

  -- a was seen by the view, or told to it
  abbrev pub Sees : View B → B → Type 0
  Sees v a = (v.seen ≡ Some a) ⊎ (v.content ≡ Some a)

  pub record KnowsMet (views : List (View B)) (a : B) : Type 0 where
    pub seat : ℕ
    pub view : View B
    pub at : get_elem? views seat ≡ some view
    pub sees : Sees view a

  module _ {X : Type 0} (own : View B → List X) where
    -- the seat i, which isn't spent, has a among its own
    pub record Holds (views : List (View B)) (i : ℕ) (a : X) : Type 0 where
      pub view : View B
      pub at : get_elem? views i ≡ some view
      pub live : view.spent ≡ false
      pub has : In a (own view)

    -- what is own rises, and no number is in two views
    pub record OwnPlacesDiffer (number : X → ℕ) (views : List (View B)) : Type 0 where
      pub owner : ℕ → ℕ
      pub each : (i : ℕ) (a : X) → Holds views i a → i ≡ owner (number a)
      pub rises : (i : ℕ) (v : View B) → get_elem? views i ≡ some v → v.spent ≡ false
          → Rises number (own v)

  -- each place from the length at the opening on is an own place of a view that isn't spent
  pub record OwnPlacesCover (first n : ℕ) (views : List (View B)) : Type 0 where
    pub reaches : first ≤ n
    pub within : (i k : ℕ) → Holds places_of views i k → (first ≤ k) × (k < n)
    pub held : (k : ℕ) → first ≤ k → k < n → (i : ℕ) × Holds places_of views i k

  -- own marks, beside the marks of the book
  pub record Marking_kept (m : Marks) (views : List (View B)) : Type 0 where
    pub within : (i : ℕ) (a : Mark) → Holds marks_of views i a → a.number ≤ m.count
    pub kept : (i : ℕ) (a : Mark) → Holds marks_of views i a → m.count < a.number + m.ring
        → In (record { identifier = a.identifier; number = a.number }) m.kept
    pub below : (i : ℕ) (a : Mark) → Holds marks_of views i a → (k : ℕ) → a.made ≡ Some k
        → k < m.counter
    pub made : (i : ℕ) (a : Mark) → Holds marks_of views i a → (k : ℕ) → a.made ≡ Some k
        → IsMadeOf a.identifier k
    pub apart : (i j : ℕ) (a b : Mark) → Holds marks_of views i a → Holds marks_of views j b
        → a.number < b.number → Gap m.ring a b

  module _ (later : B → B → Type 0) where
    -- what was seen, if anything, was earlier than b
    abbrev pub Before : Maybe B → B → Type 0
    Before None b = Unit {0}
    Before (Some a) b = later a b

    abbrev pub BothBefore : View B → B → Type 0
    BothBefore v b = Before v.seen b × Before v.content b

    -- of any two that were seen one is later
    abbrev pub AreChain : List (View B) → Type 0
    AreChain views = (a b : B) → KnowsMet views a → KnowsMet views b → later a b ⊎ later b a

    module _ (size : B → ℕ) (kept : B → Marks) where
      -- nobody holds the turn, and the book at home is later than all that was seen
      pub record Free (s : State B (View B)) (b : B) : Type 0 where
        pub word : s.words ≡ 0 ∷ size b ∷ (kept b).count ∷ []
        pub home : s.homes ≡ some b ∷ []
        pub views : (i : ℕ) (v : View B) → get_elem? s.views i ≡ some v → (v.holds ≡ false)
            × BothBefore v b

      -- the seat i holds the turn with the view h, and took the book as b, later than all that was seen
      pub record HoldsTurn (s : State B (View B)) (i : ℕ) (h : View B) (b : B) : Type 0 where
        pub word : s.words ≡ 1 ∷ h.changes ∷ h.marks ∷ []
        pub home : s.homes ≡ none ∷ []
        pub seat : get_elem? s.views i ≡ some h
        pub holds : h.holds ≡ true
        pub took : h.seen ≡ Some b
        pub views : (j : ℕ) (v : View B) → get_elem? s.views j ≡ some v
            → ((j ≡ i) ⊎ (v.holds ≡ false)) × BothBefore v b

      abbrev pub HoldsBook : State B (View B) → B → Type 0
      HoldsBook s b = Free s b ⊎ ((i : ℕ) × (h : View B) × HoldsTurn s i h b)

      pub record KeepsRule (opened : B) (s : State B (View B)) : Type 0 where
        pub book : B
        pub since : later opened book
        pub stands : HoldsBook s book
        pub numbers : NumbersDiffer s.views
        pub chain : AreChain s.views
        pub places : OwnPlacesDiffer places_of itself s.views
        pub placed : OwnPlacesCover (size opened) (slice_index s.words 1) s.views
        pub marks : OwnPlacesDiffer marks_of number_of s.views
        pub marking : Marking_kept (kept book) s.views

      abbrev pub TakesTurn : Step B → Me B (View B) → ℕ → Me B (View B) → Type 0
      TakesTurn s v found w =
          (found ≡ 0 → (b : B) × (w ≡ (with_turn v.0 b (size b) (kept b).count, (0, b) ∷ v.1))
          × BothBefore v.0 b) × (found ≢ 0 → w ≡ v)

      -- what a meeting learns
      pub record Learns (v : View B) (w : View B) : Type 0 where
        pub book : B
        pub one : Sees v book
        pub before : BothBefore v book
        pub is : w ≡ learnt v book (size book) (kept book).count
        pub meetings : v.meetings ≡ count_met v.met
        pub places : Rises itself v.own
        pub marks : Rises number_of v.own_marks
        pub spaced : AreSpaced (kept book).ring v.own_marks

      abbrev pub LearnsMet : Step B → Me B (View B) → ℕ → Me B (View B) → Type 0
      LearnsMet s v found w = Learns v.0 w.0 × (w.1 ≡ v.1)

  module _ (kept : B → Marks) where
    abbrev pub MarksBook : Maybe B → View B → List (ℕ × B) → ℕ → Me B (View B) → Type 0
    MarksBook None v xs m w = ⊥
    MarksBook (Some b) v [] m w = ⊥
    MarksBook (Some b) v (x ∷ xs) m w = w
        ≡ (with_marks v x.1 (marks_between (kept b) (kept x.1)) m, x ∷ xs)

    abbrev pub Marks_counted : Step B → Me B (View B) → ℕ → Me B (View B) → Type 0
    Marks_counted s v found w = MarksBook v.0.seen v.0 v.1 found w

  abbrev pub CountsChanges : Step B → Me B (View B) → ℕ → Me B (View B) → Type 0
  CountsChanges s v found w = w ≡ (with_changes v.0 found, v.1)

  abbrev pub GaveBook : (B → Marks) → View B → List (ℕ × B) → Me B (View B) → Type 0
  GaveBook kept v [] w = ⊥
  GaveBook kept v (x ∷ xs) w = (w ≡ (without_turn v, xs)) × Rises number_of v.own_marks
      × AreSpaced (kept x.1).ring v.own_marks

  abbrev pub GivesView : (B → Marks) → Step B → Me B (View B) → ℕ → Me B (View B) → Type 0
  GivesView kept s v found w = GaveBook kept v.0 v.1 w

  -- the view after a turn that took b and left c
  abbrev pub after_turn : (B → ℕ) → (B → Marks) → View B → B → B → View B
  after_turn size kept v b c =
      without_turn (with_marks (with_changes (with_turn v b (size b) (kept b).count) (size c)) c
      (marks_between (kept b) (kept c)) (kept c).count)

-- one turn: the book was later than what was seen, the act was done on it, and what it left is what is seen now
pub record ActsOnce {B A R : Type 0} (later : B → B → Type 0) (size : B → ℕ) (kept : B → Marks)
    (acts : B → A → R → B → Type 0) (v : View B) (a : A) (r : R) (w : View B) : Type 0 where
  pub before : B
  pub after : B
  pub later_than_seen : BothBefore later v before
  pub act : acts before a r after
  pub is : w ≡ after_turn size kept v before after
  pub marks : Rises number_of w.own_marks
  pub spaced : AreSpaced (kept after).ring w.own_marks
