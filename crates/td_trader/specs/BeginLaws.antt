-- What holds of the beginning of every query.
use Rattle.std.specs.Prelude.{◌≡◌, ℕ, ◌+◌, ◌^◌, ◌<◌, false, List, [], Some, None, length}
use Rattle.td_cdr.specs.Marks.{Marks, RemembersAs, Later, KeepsLatest}
use Rattle.td_ops.specs.declared.call.Query.{Query}
use Rattle.td_policy.specs.Effective.{effective_of}
use Rattle.td_store.specs.Candidates.{candidates}
use Rattle.td_store.specs.declared.local.Local.{Local}
use Rattle.td_store.specs.declared.record.LinkRecord.{LinkRecord}
use Rattle.td_trader.specs.Beginning.{Begins, after_begin, begin_of, is_search}
use Rattle.td_trader.specs.Queries.{parts_of}
use Rattle.td_trader.specs.Serving.{local_of, path_of}
use Rattle.td_register.specs.Stores.{Store}
use Rattle.td_trader.specs.declared.begin.Begin.{Begin}
use Rattle.td_trader.specs.declared.begin.Begin.TheVariants.{Search}
use Rattle.td_changes.specs.declared.bounds.Bounds.{Bounds}

-- Marks as a trader keeps them, with values left of which identifiers can be made.
pub record AreKept (m : Marks) : Type 0 where
  pub orderly : KeepsLatest m
  pub left : m.counter + length m.kept < 256 ^ 8

-- each query begins in one of four ways
abbrev pub QueriesBegin : Type 0
QueriesBegin =
    (bounds : Bounds) (s : Store) (point : ℕ) (m : Marks) (q : Query) → AreKept m
    → Begins bounds s point m q (begin_of bounds s point m q)

-- no other than a search marks
abbrev pub OnlySearchesMark : Type 0
OnlySearchesMark = (s : Store) (m : Marks) (q : Query) (b : Begin) → is_search b ≡ false
    → after_begin s m q b ≡ m

-- one mark more, of the identifier and with the number that the query is served with
pub record IsMarkedOnce (m : Marks) (l : Local) (after : Marks) : Type 0 where
  pub identifier : List ℕ
  pub served : l.identifier ≡ Some identifier
  pub mark : l.mark ≡ m.count + 1
  pub count : after.count ≡ l.mark
  pub held : RemembersAs after identifier l.mark

-- and a search marks once
abbrev pub SearchesMarkOnce : Type 0
SearchesMarkOnce =
    (bounds : Bounds) (s : Store) (point : ℕ) (m : Marks) (q : Query) (l : Local)
    → begin_of bounds s point m q ≡ Search l → IsMarkedOnce m l (after_begin s m q (Search l))

-- an identifier that is remembered isn't marked
abbrev pub RememberedIsNotMarked : Type 0
RememberedIsNotMarked =
    (bounds : Bounds) (s : Store) (point : ℕ) (m : Marks) (q : Query) (l : Local)
    (identifier : List ℕ) (number : ℕ)
    → AreKept m → begin_of bounds s point m q ≡ Search l → l.identifier ≡ Some identifier
    → RemembersAs m identifier number → ⊥

-- marks only grow later
abbrev pub MarksGrowLater : Type 0
MarksGrowLater =
    (bounds : Bounds) (s : Store) (point : ℕ) (m : Marks) (q : Query) → AreKept m
    → Later m (after_begin s m q (begin_of bounds s point m q))

-- all of it as the store has it at this point
pub record IsServed (s : Store) (point : ℕ) (q : Query) (l : Local) : Type 0 where
  pub point_is : l.point ≡ point
  pub query : l.query ≡ q
  pub stated : l.stated ≡ (parts_of q).stated
  pub attributes : l.attributes ≡ s.attributes
  pub effective : l.effective ≡ effective_of l.stated l.attributes
  pub constraint : l.constraint ≡ (parts_of q).constraint
  pub preference : l.preference ≡ (parts_of q).preference

-- a search has the store's candidates and its links
pub record IsSearchOfStore (s : Store) (point mark : ℕ) (identifier : List ℕ) (q : Query)
    (l : Local) : Type 0 where
  pub mark_is : l.mark ≡ mark
  pub identified : l.identifier ≡ Some identifier
  pub path : l.path ≡ None
  pub candidates_are : l.candidates
      ≡ candidates s.types.types s.attributes l.stated q.service_type l.effective.search_card
      s.offers
  pub links : l.links ≡ s.links
  pub served : IsServed s point q l

abbrev pub SearchesAreServed : Type 0
SearchesAreServed =
    (s : Store) (point mark : ℕ) (identifier : List ℕ) (q : Query)
    → IsSearchOfStore s point mark identifier q (local_of s point mark identifier q)

-- a query that is passed on has no mark, no candidates and no links
pub record IsPassedOn (s : Store) (point : ℕ) (link : LinkRecord) (q : Query)
    (l : Local) : Type 0 where
  pub mark_is : l.mark ≡ 0
  pub identified : l.identifier ≡ l.stated.request_id
  pub path : l.path ≡ Some link
  pub candidates_are : l.candidates ≡ []
  pub links : l.links ≡ []
  pub served : IsServed s point q l

abbrev pub PathsAreServed : Type 0
PathsAreServed =
    (s : Store) (point : ℕ) (link : LinkRecord) (q : Query)
    → IsPassedOn s point link q (path_of s point link q)
