-- A group of traders in cells, and the passes of its sessions.
use Rattle.std.specs.Prelude.{◌≡◌, ℕ, ◌+◌, ◌-◌, ◌<◌, ◌≤◌, ◌⊎◌, List, [], ◌∷◌, ◌++◌, map, length, slice_set, Bool}
use Rattle.std.specs.Prelude.{reverse, slice_get, slice_index_or, Some, ◌&&◌, true}
use Rattle.std.specs.List.{AllZip}
use Rattle.td_cdr.specs.Marks.{In, Marks}
use Rattle.td_cell.specs.Lists.{itself, merge}
use Rattle.td_cell.specs.OwnMarks.{number_of}
use Rattle.td_cell.specs.Passes.{Belongs, IsOpening, IsSplitOff, SameCell, knowledge, opened_book}
use Rattle.td_cell.specs.Rules.{Learns, all_met, first_view, met_view, opener, split_off}
use Rattle.td_cell.specs.declared.book.Book.{Ghosts}
use Rattle.td_cell.specs.declared.cell.Cell.{Cell}
use Rattle.td_cell.specs.declared.pass.Pass.{Pass}
use Rattle.td_trader.specs.Following.{FollowsWritably}
use Rattle.td_trader.specs.PlainTraders.{PlainTrader}
use Rattle.td_group.specs.Rows.{DropsFront, Rows}
use Rattle.td_group.specs.Seeing.{trader_of}

-- how long a trader's history is, and its marks
abbrev pub size_of : PlainTrader → ℕ
size_of t = length t.history

abbrev pub marks_of : PlainTrader → Marks
marks_of t = t.marks

-- the name of the trader with which a cell was opened
abbrev pub opened_name : {A R : Type 0} → Cell PlainTrader A R → List ℕ
opened_name c = (opened_book c).name

module _ {A R : Type 0} {g : Ghosts PlainTrader A R} where
  -- ---- the opening passes of a group

  -- the trader was put into the cell, and the cell's opening pass has seen it and has no acts
  pub record IsPutIn (t : PlainTrader) (c : Cell PlainTrader A R)
      (p : Pass PlainTrader A R g) : Type 0 where
    pub belongs : Belongs p c
    pub opening : IsOpening p
    pub opened_is : opened_book c ≡ t
    pub seen : knowledge p ≡ first_view t (size_of t) (marks_of t).count

  -- the cell's opening pass, which has seen what the trader has become with which the cell was opened
  pub record IsOpeningOf (c : Cell PlainTrader A R) (p : Pass PlainTrader A R g) : Type 0 where
    pub belongs : Belongs p c
    pub opening : IsOpening p
    pub seen : FollowsWritably (opened_book c) (trader_of p)

  -- the opening passes of the cells, in order
  abbrev pub AreOpening : List (Cell PlainTrader A R) → List (Pass PlainTrader A R g) → Type 0
  AreOpening cells passes = AllZip IsOpeningOf cells passes

  -- one more trader stands in a cell
  pub record OpensOne (t : PlainTrader) (cells after : List (Cell PlainTrader A R))
      (passes passes_after : List (Pass PlainTrader A R g)) : Type 0 where
    pub cell : Cell PlainTrader A R
    pub pass : Pass PlainTrader A R g
    pub cells_are : after ≡ cells ++ cell ∷ []
    pub passes_are : passes_after ≡ passes ++ pass ∷ []
    pub fresh : IsPutIn t cell pass

  -- ---- a session's passes

  -- t was split off p, an opening pass, which is q then: t has seen what p has, and has no acts
  pub record SplitsOff (p t q : Pass PlainTrader A R g) : Type 0 where
    pub same_cell : SameCell q p
    pub of_cell : SameCell t p
    pub opening : knowledge q ≡ opener (knowledge p)
    pub out : knowledge t ≡ split_off (knowledge p)

  -- t was split off p, an opening pass, which hasn't met it
  pub record IsOut (p t : Pass PlainTrader A R g) : Type 0 where
    pub of_cell : SameCell t p
    pub split : IsSplitOff p t

  -- what was split off ps and not met was split off qs and isn't met
  abbrev pub OutStays : (ps qs : List (Pass PlainTrader A R g)) → Type 0
  OutStays ps qs = (ts : List (Pass PlainTrader A R g)) → AllZip IsOut ps ts → AllZip IsOut qs ts

  -- they are the same passes still, of the same cells
  abbrev pub SamePasses : (ps qs : List (Pass PlainTrader A R g)) → Type 0
  SamePasses ps qs =
      (map (λ (p : Pass PlainTrader A R g). p.seat.table_id) ps
      ≡ map (λ (p : Pass PlainTrader A R g). p.seat.table_id) qs)
      × (map (λ (p : Pass PlainTrader A R g). (knowledge p).number) ps
      ≡ map (λ (p : Pass PlainTrader A R g). (knowledge p).number) qs)

  -- how many turns were made through each
  abbrev pub turns_of : List (Pass PlainTrader A R g) → List ℕ
  turns_of ps = map (λ (p : Pass PlainTrader A R g). (knowledge p).turns) ps

  -- one turn more was made at trader k, and none at another
  pub record MakesOneTurn (ps : List (Pass PlainTrader A R g)) (k : ℕ)
      (qs : List (Pass PlainTrader A R g)) : Type 0
    where
      pub turns : ℕ
      pub here : slice_get (turns_of ps) k ≡ Some turns
      pub after : turns_of qs ≡ slice_set (turns_of ps) k (turns + 1)

  -- that, or none anywhere
  abbrev pub MakesOneTurnAtMost : (ps : List (Pass PlainTrader A R g)) (k : ℕ)
      (qs : List (Pass PlainTrader A R g))
      → Type 0
  MakesOneTurnAtMost ps k qs = (turns_of qs ≡ turns_of ps) ⊎ MakesOneTurn ps k qs

  -- q is p, an opening pass, after it met t: it has seen the later of what both have, and has the acts of both
  pub record MeetsPass (p t q : Pass PlainTrader A R g) : Type 0 where
    pub same_cell : SameCell q p
    pub opening : IsOpening q
    pub met : (knowledge q).met ≡ slice_set (knowledge p).met ((knowledge t).number - 1) true
    pub learned : Learns FollowsWritably size_of marks_of (met_view (knowledge p) (knowledge t))
        (knowledge q)

  -- ---- when memory ran out

  pub record IsUnchanged (p q : Pass PlainTrader A R g) : Type 0 where
    pub same_cell : SameCell q p
    pub knows : knowledge q ≡ knowledge p

  -- one more pass was split off p and met again: it has seen what it had, and has the acts and the turns that it had
  pub record IsMetAgain (p q : Pass PlainTrader A R g) : Type 0 where
    pub same_cell : SameCell q p
    pub seen : trader_of q ≡ trader_of p
    pub own : (knowledge q).own ≡ merge itself (knowledge p).own []
    pub own_marks : (knowledge q).own_marks ≡ merge number_of (knowledge p).own_marks []
    pub turns : (knowledge q).turns ≡ (knowledge p).turns
    pub longer : length (knowledge q).met ≡ length (knowledge p).met + 1
    pub met : all_met (knowledge q).met ≡ all_met (knowledge p).met

  abbrev pub IsAsBefore : (p q : Pass PlainTrader A R g) → Type 0
  IsAsBefore p q = IsUnchanged p q ⊎ IsMetAgain p q

  -- some passes were split off, and for the next one memory ran out
  pub record SplitsInPart (passes out after : List (Pass PlainTrader A R g)) : Type 0 where
    pub between : List (Pass PlainTrader A R g)
    pub split : DropsFront SplitsOff out passes between
    pub here : Pass PlainTrader A R g
    pub next : Pass PlainTrader A R g
    pub at : here ≡ slice_index_or between (length out) here
    pub within : length out < length between
    pub same : IsUnchanged here next
    pub after_is : after ≡ slice_set between (length out) next

  -- ---- the end

  -- each pass that was split off one of these has been met
  abbrev pub are_met : List (Pass PlainTrader A R g) → Bool
  are_met [] = true
  are_met (p ∷ ps) = all_met (knowledge p).met && are_met ps

  -- an opening pass that has met all that were split off it
  pub record IsReady (c : Cell PlainTrader A R) (p : Pass PlainTrader A R g) : Type 0 where
    pub opening : IsOpeningOf c p
    pub met : all_met (knowledge p).met ≡ true

  -- The trader that was taken out of the cell: it has become what it is from what the pass has seen, and each change
  -- since the cell was opened is one of the pass's own.
  pub record IsTakenOut (c : Cell PlainTrader A R) (p : Pass PlainTrader A R g)
      (t : PlainTrader) : Type 0 where
    pub met : all_met (knowledge p).met ≡ true
    pub since : FollowsWritably (opened_book c) t
    pub seen : FollowsWritably (trader_of p) t
    pub places : (k : ℕ) → size_of (opened_book c) ≤ k → k < size_of t → In k (knowledge p).own

  -- what is still to close is closed as all was to be
  abbrev pub ClosesOn : (cells0 : List (Cell PlainTrader A R))
      (passes0 : List (Pass PlainTrader A R g))
      → List (Cell PlainTrader A R) → List (Pass PlainTrader A R g) → (kept : List PlainTrader)
      → Type 0
  ClosesOn cells0 passes0 cells passes kept =
      (ts : List PlainTrader) → Rows IsTakenOut cells passes ts
      → Rows IsTakenOut cells0 passes0 (ts ++ reverse kept)

  -- with what is still to open, what stands in cells makes what all makes
  abbrev pub OpensOn : (all : List PlainTrader) → (left : List PlainTrader)
      → List (Cell PlainTrader A R) → List (Pass PlainTrader A R g) → Type 0
  OpensOn all left cells passes =
      (cs : List (Cell PlainTrader A R)) (ps : List (Pass PlainTrader A R g))
      → Rows IsPutIn left cs ps → Rows IsPutIn all (cells ++ cs) (passes ++ ps)
