-- What a trace shows at any moment, also where a visit ended when out of memory: the marks that were made, the points
-- of the traders and what peers gave; and what became of the traders and of the random words meanwhile.
use Rattle.std.specs.Prelude.{◌≡◌, ℕ, ◌+◌, ◌≤◌, nat_eq, cond, List, [], ◌∷◌, ◌++◌, length, Option, None, Some}
use Rattle.std.specs.Prelude.{slice_get}
use Rattle.std.specs.List.{flat_map}
use Rattle.td_cdr.specs.Marks.{Marks}
use Rattle.td_ops.specs.declared.call.Query.{Query}
use Rattle.td_register.specs.declared.history.Accepted.{Accepted}
use Rattle.td_trader.specs.Worlds.{BeginsQuery, View, Watches, history_at}
use Rattle.td_trader.specs.declared.begin.Begin.{Begin}
use Rattle.td_walk.specs.Peering.{Exchange}
use Rattle.td_query_walk.specs.Walks.{Asked}
use Rattle.td_walk.specs.declared.trace.TraceItem.{TraceItem}
use Rattle.td_walk.specs.declared.trace.TraceItem.TheVariants as item

abbrev pub own_marks_in : Option View → List ℕ
own_marks_in None = []
own_marks_in (Some v) = v.own_marks

abbrev pub own_marks_at : List View → ℕ → List ℕ
own_marks_at w k = own_marks_in (slice_get w k)

abbrev pub own_in : Option View → List ℕ
own_in None = []
own_in (Some v) = v.own

abbrev pub own_at : List View → ℕ → List ℕ
own_at w k = own_in (slice_get w k)

-- one has changed nothing and marked nothing
pub record IsQuiet (w u : List View) : Type 0 where
  pub own : (k : ℕ) → own_at u k ≡ own_at w k
  pub own_marks : (k : ℕ) → own_marks_at u k ≡ own_marks_at w k

-- the marks of a trader that an item shows
abbrev pub mark_of : (trader : ℕ) → TraceItem → List ℕ
mark_of k (item.Search trader point mark) = cond (nat_eq trader k) (mark ∷ []) []
mark_of k other = []

abbrev pub marks_of : (trader : ℕ) → List TraceItem → List ℕ
marks_of k [] = []
marks_of k (i ∷ is) = mark_of k i ++ marks_of k is

-- from the low number on to the high one the numbers never fall
abbrev pub NeverFalls : (low : ℕ) → List ℕ → (high : ℕ) → Type 0
NeverFalls low [] high = low ≤ high
NeverFalls low (n ∷ ns) high = (low ≤ n) × NeverFalls n ns high

-- these of this trader, and none of any other
abbrev pub only_of : (trader : ℕ) → List ℕ → (k : ℕ) → List ℕ
only_of trader ns k = cond (nat_eq trader k) ns []

-- the points of a trader that an item shows: a query began there then
abbrev pub point_of : (k : ℕ) → TraceItem → List ℕ
point_of k (item.Search trader point mark) = only_of trader (point ∷ []) k
point_of k (item.Repeat trader point mark) = only_of trader (point ∷ []) k
point_of k (item.Refused trader point) = only_of trader (point ∷ []) k
point_of k (item.Path trader point) = only_of trader (point ∷ []) k
point_of k other = []

abbrev pub points_of : (k : ℕ) → List TraceItem → List ℕ
points_of k items = flat_map (point_of k) items

-- Between these two moments the items came behind the old ones. They show each mark that was made at each trader, in
-- order, and what each call of a peer gave. The points at one trader never fall, from how many of its changes were seen
-- before to how many are seen behind it.
pub record IsShown (w : List View) (calls : List Exchange) (before after : List TraceItem)
    (u : List View) (now : List Exchange) : Type 0 where
  pub items : List TraceItem
  pub notes : after ≡ before ++ items
  pub marks : (k : ℕ) → own_marks_at u k ≡ own_marks_at w k ++ marks_of k items
  pub points : (k : ℕ) → NeverFalls (length (history_at w k)) (points_of k items)
      (length (history_at u k))
  pub made : List Exchange
  pub calls_are : now ≡ calls ++ made
  pub asked : Asked items made

-- ---- what was done meanwhile

-- Between these two moments queries began at traders of the group, and others acted. Through this value nothing was
-- changed.
pub data Goes (others : List Accepted → Type 0) (later : Marks → Marks → Type 0) : List View
    → List View → Type 0 where
  stays : {w : List View} → Goes others later w w
  began : {w u v : List View} (k : ℕ) (q : Query) (b : Begin) → BeginsQuery others later w k q b u
      → Goes others later u v → Goes others later w v
  watched : {w u v : List View} (k : ℕ) → Watches others later w k u → Goes others later u v
      → Goes others later w v

-- of the random words to come the first so many were drawn
pub record DrawsOn (before after : ℕ → ℕ) : Type 0 where
  pub count : ℕ
  pub rest : (k : ℕ) → after k ≡ before (count + k)
