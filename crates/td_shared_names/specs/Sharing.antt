-- Naming contexts in a cell, and the passes of its sessions.
use Rattle.std.specs.Prelude.{◌≡◌, ℕ, ◌-◌, ◌<◌, ◌≤◌, slice_set, true}
use Rattle.td_cdr.specs.Marks.{In}
use Rattle.td_cell.specs.Passes.{Belongs, IsOpening, IsSplitOff, SameCell, knowledge, opened_book}
use Rattle.td_cell.specs.Rules.{Learns, all_met, first_view, met_view, opener, split_off}
use Rattle.td_cell.specs.declared.book.Book.{Ghosts}
use Rattle.td_cell.specs.declared.cell.Cell.{Cell}
use Rattle.td_cell.specs.declared.pass.Pass.{Pass}
use Rattle.td_naming.specs.Histories.{Past}
use Rattle.td_shared_names.specs.Acting.{ExtendsPast, no_marks, size_of}
use Rattle.td_shared_names.specs.Seeing.{past_of}

module _ {A R : Type 0} {g : Ghosts Past A R} where
  -- ---- the opening pass

  -- the contexts were put into the cell, and its opening pass has seen them and has made no change
  pub record IsPutIn (n : Past) (c : Cell Past A R) (p : Pass Past A R g) : Type 0 where
    pub opened_is : opened_book c ≡ n
    pub seen : knowledge p ≡ first_view n (size_of n) 0

  -- the cell's opening pass, which has seen what the contexts have become that were put in
  pub record IsOpeningOf (c : Cell Past A R) (p : Pass Past A R g) : Type 0 where
    pub belongs : Belongs p c
    pub opening : IsOpening p
    pub seen : ExtendsPast (opened_book c) (past_of p)

  -- ---- a session's pass

  -- t was split off p, the opening pass, which is q then: t has seen what p has, and has made no change
  pub record SplitsOff (p t q : Pass Past A R g) : Type 0 where
    pub same_cell : SameCell q p
    pub of_cell : SameCell t p
    pub opening : knowledge q ≡ opener (knowledge p)
    pub out : knowledge t ≡ split_off (knowledge p)

  -- t was split off p, the opening pass, which hasn't met it
  pub record IsOut (p t : Pass Past A R g) : Type 0 where
    pub of_cell : SameCell t p
    pub split : IsSplitOff p t

  -- what was split off p and not met was split off q and isn't met
  abbrev pub OutStays : (p q : Pass Past A R g) → Type 0
  OutStays p q = (t : Pass Past A R g) → IsOut p t → IsOut q t

  pub record IsUnchanged (p q : Pass Past A R g) : Type 0 where
    pub same_cell : SameCell q p
    pub knows : knowledge q ≡ knowledge p

  -- it is the same pass still, of the same cell
  abbrev pub SamePass : (p q : Pass Past A R g) → Type 0
  SamePass p q = (p.seat.table_id ≡ q.seat.table_id) × ((knowledge p).number ≡ (knowledge q).number)

  -- q is p, the opening pass, after it met t: it has seen the longer of what both have, and has the changes of both
  pub record MeetsPass (p t q : Pass Past A R g) : Type 0 where
    pub same_cell : SameCell q p
    pub opening : IsOpening q
    pub met : (knowledge q).met ≡ slice_set (knowledge p).met ((knowledge t).number - 1) true
    pub learned : Learns ExtendsPast size_of (λ _. no_marks) (met_view (knowledge p) (knowledge t))
        (knowledge q)

  -- ---- the end

  -- the opening pass, which has met all that were split off it
  pub record IsReady (c : Cell Past A R) (p : Pass Past A R g) : Type 0 where
    pub opening : IsOpeningOf c p
    pub met : all_met (knowledge p).met ≡ true

  -- The contexts that were taken out of the cell: they have become what they are from what the pass has seen, and each
  -- change since they were put in is one of the pass's own.
  pub record IsTakenOut (c : Cell Past A R) (p : Pass Past A R g) (n : Past) : Type 0 where
    pub met : all_met (knowledge p).met ≡ true
    pub since : ExtendsPast (opened_book c) n
    pub seen : ExtendsPast (past_of p) n
    pub places : (k : ℕ) → size_of (opened_book c) ≤ k → k < size_of n → In k (knowledge p).own
