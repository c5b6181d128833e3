-- Traders as they are reached: opened, and then by changes, by room that is reserved, and by queries that begin. A look
-- leaves a trader as it was, and so does a call that runs out of memory.
use Rattle.std.specs.Prelude.{◌≡◌, ℕ, ◌+◌, ◌<◌, true, List, length, slice_get, Some, None}
use Rattle.td_cdr.specs.Marks.{RemembersAs, Later}
use Rattle.td_marks.specs.Keeping.{AreRingMarks as AreMarks}
use Rattle.td_ops.specs.declared.call.Change.{Change}
use Rattle.td_ops.specs.declared.call.Query.{Query}
use Rattle.td_store.specs.declared.local.Local.{Local}
use Rattle.td_changes.specs.Histories.{Legal}
use Rattle.td_changes.specs.declared.bounds.Bounds.{Bounds}
use Rattle.td_register.specs.Stores.{Store}
use Rattle.td_trader.specs.BeginLaws.{IsSearchOfStore}
use Rattle.td_trader.specs.Beginning.{Begins}
use Rattle.td_trader.specs.Following.{Follows}
use Rattle.td_trader.specs.PlainTraders.{AreBounds, PlainTrader, after_begin, after_change, begin_at, new_trader}
use Rattle.td_trader.specs.PlainTraders.{store_of}
use Rattle.td_trader.specs.Queries.{parts_of}
use Rattle.td_trader.specs.declared.begin.Begin.TheVariants.{Search}

pub data IsReached : PlainTrader → Type 0 where
  just_opened : (name : List ℕ) (opening : Store) (bounds : Bounds) → AreBounds bounds
      → IsReached (new_trader name opening bounds)
  by_change : (t : PlainTrader) (c : Change) → IsReached t → IsReached (after_change t c)
  by_reserving : (t : PlainTrader) → IsReached t → IsReached (record t { reserved = true })
  by_query : (t : PlainTrader) (q : Query) → IsReached t
      → IsReached (after_begin t q (begin_at t q))

-- each trader of a list is
abbrev pub AreReached : List PlainTrader → Type 0
AreReached ts = (n : ℕ) (t : PlainTrader) → slice_get ts n ≡ Some t → IsReached t

-- ---- what holds of each

-- bounds that a trader may have, marks as its ring keeps them, and a history that is legal
pub record IsLegalView (t : PlainTrader) : Type 0 where
  pub bounds : AreBounds t.bounds
  pub marks : AreMarks t.marks
  pub ring : t.marks.ring ≡ t.bounds.ring
  pub legal : Legal t.bounds t.opening t.history

abbrev pub ReachedTradersAreInOrder : Type 0
ReachedTradersAreInOrder = (t : PlainTrader) → IsReached t → IsLegalView t

-- each query begins in one of four ways
abbrev pub ReachedTradersBegin : Type 0
ReachedTradersBegin =
    (t : PlainTrader) (q : Query) → IsReached t
    → Begins t.bounds (store_of t) (length t.history) t.marks q (begin_at t q)

-- Searched under an identifier that wasn't remembered, and is from then on; with the candidates and the links of the
-- store behind the history, whose length is the point.
pub record IsSearchAt (t : PlainTrader) (q : Query) (l : Local) : Type 0 where
  pub identifier : List ℕ
  pub fresh : (number : ℕ) → RemembersAs t.marks identifier number → ⊥
  pub searched : IsSearchOfStore (store_of t) (length t.history) (t.marks.count + 1) identifier q l
  pub held : RemembersAs (after_begin t q (Search l)).marks identifier l.mark

abbrev pub ReachedTradersSearch : Type 0
ReachedTradersSearch =
    (t : PlainTrader) (q : Query) (l : Local) → IsReached t → begin_at t q ≡ Search l
    → IsSearchAt t q l

-- marks only grow later
abbrev pub ReachedMarksGrowLater : Type 0
ReachedMarksGrowLater =
    (t : PlainTrader) (q : Query) → IsReached t
    → Later t.marks (after_begin t q (begin_at t q)).marks

-- ---- two searches of one trader, the one before the other

-- As each act of a session finds a trader that others act on too, however it was reached: it has such bounds as a
-- trader may have, and marks as its ring keeps them.

-- under one identifier: the numbers of their marks differ by more than the trader remembers
abbrev pub SearchesOfOneIdentifierAreFar : Type 0
SearchesOfOneIdentifierAreFar =
    (t u : PlainTrader) (p q : Query) (k l : Local) (identifier : List ℕ) → AreBounds t.bounds
    → AreMarks t.marks
    → AreMarks u.marks → begin_at t p ≡ Search k → Follows (after_begin t p (Search k)) u
    → begin_at u q ≡ Search l
    → k.identifier ≡ Some identifier → l.identifier ≡ Some identifier → k.mark + t.marks.ring
    < l.mark

-- of queries that state no identifier: those that are made differ, also where the stem was set to another between
abbrev pub SearchesAreMadeApart : Type 0
SearchesAreMadeApart =
    (t u : PlainTrader) (p q : Query) (k l : Local) → AreBounds t.bounds → AreMarks t.marks
    → AreMarks u.marks
    → begin_at t p ≡ Search k → Follows (after_begin t p (Search k)) u → begin_at u q ≡ Search l
    → (parts_of p).stated.request_id ≡ None → (parts_of q).stated.request_id ≡ None
    → k.identifier ≡ l.identifier → ⊥
