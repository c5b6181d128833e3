-- What a group of traders is to one who calls them, as plain data, and what a call may make of it. Of each trader it is
-- what was seen of it, and what was done to it through this value.
use Rattle.std.specs.Prelude.{◌≡◌, ℕ, nat_lt, List, [], ◌∷◌, ◌++◌, length, slice_get, slice_set, cond, Option}
use Rattle.std.specs.Prelude.{Some, None}
use Rattle.td_cdr.specs.Marks.{Marks}
use Rattle.td_ops.specs.declared.call.Change.{Change}
use Rattle.td_ops.specs.declared.call.Look.{Look}
use Rattle.td_ops.specs.declared.call.Query.{Query}
use Rattle.td_ops.specs.declared.outcome.Outcome.{Outcome}
use Rattle.td_ops.specs.declared.outcome.Outcome.TheVariants.{Done, User, System}
use Rattle.td_changes.specs.Applying.{seek}
use Rattle.td_trader.specs.Beginning.{begin_of, after_begin as marks_after}
use Rattle.td_changes.specs.Histories.{Legal, LegalFrom, after_all, add_accepted}
use Rattle.td_changes.specs.Laws.{applied_after}
use Rattle.td_trader.specs.OfferLimits.{HasLimitedOffers}
use Rattle.td_trader.specs.PlainTraders.{HasShortReplies, PlainTrader}
use Rattle.td_register.specs.Stores.{Store}
use Rattle.td_trader.specs.declared.begin.Begin.{Begin}
use Rattle.td_changes.specs.declared.bounds.Bounds.{Bounds}
use Rattle.td_register.specs.declared.history.Accepted.{Accepted}

-- A trader's name, its opening store and its bounds, which no call changes; the history and the marks that were seen;
-- the places in the history of the changes that were made through this value, and the numbers of its marks.
pub record View : Type 0 where
  pub name : List ℕ
  pub opening : Store
  pub bounds : Bounds
  pub history : List Accepted
  pub marks : Marks
  pub own : List ℕ
  pub own_marks : List ℕ

-- a trader as it was seen, with what is one's own
abbrev pub view_of : PlainTrader → (own own_marks : List ℕ) → View
view_of t own own_marks = record {
  name = t.name;
  opening = t.opening;
  bounds = t.bounds;
  history = t.history;
  marks = t.marks;
  own = own;
  own_marks = own_marks;
}

-- the store that the trader is seen to have
abbrev pub store_seen : View → Store
store_seen v = after_all v.opening v.history

-- ---- of a trader by its number

abbrev pub name_in : Option View → List ℕ
name_in None = []
name_in (Some v) = v.name

abbrev pub name_at : List View → ℕ → List ℕ
name_at w k = name_in (slice_get w k)

abbrev pub history_in : Option View → List Accepted
history_in None = []
history_in (Some v) = v.history

abbrev pub history_at : List View → ℕ → List Accepted
history_at w k = history_in (slice_get w k)

abbrev pub LegalIn : Option View → Type 0
LegalIn None = Unit {0}
LegalIn (Some v) = Legal v.bounds v.opening v.history

-- the history that is seen of it is legal from its opening store on
abbrev pub LegalAt : List View → ℕ → Type 0
LegalAt w k = LegalIn (slice_get w k)

abbrev pub AdmittedIn : Option View → Type 0
AdmittedIn None = Unit {0}
AdmittedIn (Some v) = HasShortReplies v.opening

-- its opening store was admitted: each change that is accepted from there on has a short reply
abbrev pub AdmittedAt : List View → ℕ → Type 0
AdmittedAt w k = AdmittedIn (slice_get w k)

-- ---- what is seen after a step

abbrev pub with_view : List View → ℕ → View → List View
with_view w k v = slice_set w k v

-- others made these changes, and made the marks these
abbrev pub after_others : View → List Accepted → Marks → View
after_others v between marks = record v { history = v.history ++ between; marks = marks }

-- one's own change had this outcome
abbrev pub after_own : View → Change → Outcome → View
after_own v c (Done content) = record v {
  history = add_accepted v.history c (Done content);
  own = v.own ++ length v.history ∷ [];
}
after_own v c (User e) = v
after_own v c (System kind minor completion) = v

-- the number of the mark by which b has become c, if one was made
abbrev pub number_between : Marks → Marks → List ℕ
number_between b c = cond (nat_lt b.count c.count) (c.count ∷ []) []

-- one's own query has left these marks
abbrev pub after_begin : View → Marks → View
after_begin v marks = record v {
  marks = marks;
  own_marks = v.own_marks ++ number_between v.marks marks;
}

-- ---- what a call may do

module _ (others : List Accepted → Type 0) (later : Marks → Marks → Type 0) where
  -- What is seen of trader k once a call has come to it: what others did since the last call is there too.
  pub record Meanwhile (w : List View) (k : ℕ) (seen : View) : Type 0 where
    pub view : View
    pub between : List Accepted
    pub marks : Marks
    pub is : slice_get w k ≡ Some view
    pub may : others between
    pub legal : LegalFrom view.bounds (length view.history) (store_seen view) between
    pub may_mark : later view.marks marks
    pub seen_is : seen ≡ after_others view between marks

  -- The outcome is the change's at what is seen then, and an accepted change stands at the end.
  pub record ChangesTrader (w : List View) (k : ℕ) (c : Change) (o : Outcome)
      (u : List View) : Type 0 where
    pub seen : View
    pub meanwhile : Meanwhile w k seen
    pub outcome : o ≡ (applied_after seen.bounds seen.opening seen.history c).outcome
    pub world : u ≡ with_view w k (after_own seen c o)

  -- The answer is the look's at the store that is seen then.
  pub record LooksAtTrader (w : List View) (k : ℕ) (l : Look) (a : Outcome × ℕ)
      (u : List View) : Type 0 where
    pub seen : View
    pub meanwhile : Meanwhile w k seen
    pub answer : a ≡ seek (store_seen seen) l
    pub world : u ≡ with_view w k seen

  -- The query begins as it does at what is seen then, where the offers are within their limits, and a mark that is made
  -- is one's own.
  pub record BeginsQuery (w : List View) (k : ℕ) (q : Query) (b : Begin) (u : List View) :
      Type 0 where
    pub seen : View
    pub meanwhile : Meanwhile w k seen
    pub begin : b ≡ begin_of seen.bounds (store_seen seen) (length seen.history) seen.marks q
    pub limited : HasLimitedOffers (store_seen seen)
    pub world : u ≡ with_view w k (after_begin seen (marks_after (store_seen seen) seen.marks q b))

  -- Nothing was done but by others.
  pub record Watches (w : List View) (k : ℕ) (u : List View) : Type 0 where
    pub seen : View
    pub meanwhile : Meanwhile w k seen
    pub world : u ≡ with_view w k seen
