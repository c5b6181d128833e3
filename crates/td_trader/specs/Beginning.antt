-- How a query begins at a trader: it is refused, or it is passed on over the link that its path names first, or it is a
-- repeat of one whose identifier is remembered, or it is searched here and marked (OMG's Trading Object Service,
-- "Lookup Interface", query, and "Policies" on starting_trader and request_id).
use Rattle.std.specs.Prelude.{◌≡◌, ℕ, ◌+◌, Bool, true, false, List, Option, None, Some, option_and_then}
use Rattle.td_cdr.specs.Marks.{Marks, RemembersAs, remembered, add_mark}
use Rattle.td_marks.specs.Making.{next_value, made_from}
use Rattle.td_marks.specs.declared.made.Made.{Made}
use Rattle.td_ops.specs.declared.call.Query.{Query}
use Rattle.td_ops.specs.declared.outcome.Outcome.{Outcome}
use Rattle.td_policy.specs.declared.stated.Stated.{Stated}
use Rattle.td_store.specs.declared.local.Local.{Local}
use Rattle.td_store.specs.declared.record.LinkRecord.{LinkRecord}
use Rattle.td_register.specs.Causes.{Cause, refusal_outcome}
use Rattle.td_trader.specs.Queries.{parts_of, path_link, refusal}
use Rattle.td_trader.specs.Serving.{local_of, path_of}
use Rattle.td_register.specs.Stores.{Store}
use Rattle.td_trader.specs.declared.begin.Begin.{Begin}
use Rattle.td_trader.specs.declared.begin.Begin.TheVariants.{Refused, Repeat, Search, Path}
use Rattle.td_changes.specs.declared.bounds.Bounds.{Bounds}
use Rattle.td_register.specs.declared.refusal.Refusal.{Refusal}

-- ---- under which identifier

-- the identifier of a query that states one, or the next one that is made of the stem, with the counter behind it
abbrev pub query_identifier : Marks → (stem : List ℕ) → Option (List ℕ) → Made
query_identifier m stem (Some identifier) = record { identifier = identifier; counter = m.counter }
query_identifier m stem None = made_from stem (next_value m stem)

-- the identifier that a query is searched under at this store
abbrev pub searched_under : Store → Marks → Query → Made
searched_under s m q = query_identifier m s.attributes.request_id_stem
    (parts_of q).stated.request_id

-- the number under which the identifier is remembered that is stated, if one is
abbrev pub repeated_in : Marks → Stated → Option ℕ
repeated_in m stated = option_and_then (remembered m) stated.request_id

-- ---- how it begins

-- where no path leads away: a repeat of what is remembered, else a search with the next mark
abbrev pub begin_here : Store → (point : ℕ) → Marks → Query → Option ℕ → Begin
begin_here s point m q (Some number) = Repeat number
begin_here s point m q None = Search
    (local_of s point (m.count + 1) (searched_under s m q).identifier q)

abbrev pub begin_along : Store → (point : ℕ) → Marks → Query → Option LinkRecord → Begin
begin_along s point m q (Some link) = Path (path_of s point link q)
begin_along s point m q None = begin_here s point m q (repeated_in m (parts_of q).stated)

abbrev pub begin_unless : Cause → Store → (point : ℕ) → Marks → Query → Begin
begin_unless (Some f) s point m q = Refused (refusal_outcome f)
begin_unless None s point m q = begin_along s point m q (path_link s.links (parts_of q).stated)

-- how a query begins at a trader with this store, at this point of its history, and with these marks
unfoldable pub begin_of : Bounds → Store → (point : ℕ) → Marks → Query → Begin
begin_of bounds s point m q = begin_unless (refusal bounds m.count s q) s point m q

-- Only a search marks, and once.
unfoldable pub after_begin : Store → Marks → Query → Begin → Marks
after_begin s m q (Refused o) = m
after_begin s m q (Repeat number) = m
after_begin s m q (Path l) = m
after_begin s m q (Search l) = add_mark m (searched_under s m q).identifier
    (searched_under s m q).counter

-- ---- what each way to begin says

-- refused for the first cause
pub record IsRefusedQuery (bounds : Bounds) (s : Store) (m : Marks) (q : Query)
    (o : Outcome) : Type 0 where
  pub cause : Refusal
  pub first : refusal bounds m.count s q ≡ Some cause
  pub content : o ≡ refusal_outcome cause

-- passed on over a link
pub record IsPassed (bounds : Bounds) (s : Store) (point : ℕ) (m : Marks) (q : Query)
    (l : Local) : Type 0 where
  pub taken : refusal bounds m.count s q ≡ None
  pub link : LinkRecord
  pub path : path_link s.links (parts_of q).stated ≡ Some link
  pub served : l ≡ path_of s point link q

-- a repeat of the mark of this number
pub record IsRepeat (bounds : Bounds) (s : Store) (m : Marks) (q : Query)
    (number : ℕ) : Type 0 where
  pub taken : refusal bounds m.count s q ≡ None
  pub path : path_link s.links (parts_of q).stated ≡ None
  pub identifier : List ℕ
  pub stated : (parts_of q).stated.request_id ≡ Some identifier
  pub held : RemembersAs m identifier number

-- searched under an identifier that isn't remembered, with the next mark
pub record IsSearch (bounds : Bounds) (s : Store) (point : ℕ) (m : Marks) (q : Query)
    (l : Local) : Type 0 where
  pub taken : refusal bounds m.count s q ≡ None
  pub path : path_link s.links (parts_of q).stated ≡ None
  pub fresh : (number : ℕ) → RemembersAs m (searched_under s m q).identifier number → ⊥
  pub served : l ≡ local_of s point (m.count + 1) (searched_under s m q).identifier q

abbrev pub Begins : Bounds → Store → (point : ℕ) → Marks → Query → Begin → Type 0
Begins bounds s point m q (Refused o) = IsRefusedQuery bounds s m q o
Begins bounds s point m q (Path l) = IsPassed bounds s point m q l
Begins bounds s point m q (Repeat number) = IsRepeat bounds s m q number
Begins bounds s point m q (Search l) = IsSearch bounds s point m q l

abbrev pub is_search : Begin → Bool
is_search (Refused o) = false
is_search (Repeat number) = false
is_search (Search l) = true
is_search (Path l) = false
