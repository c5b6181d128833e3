-- How a query begins at a trader of a group on which no others act.
use Rattle.std.proofs.Common.{◌≡◌, ℕ, zero, suc, ◌+◌, List, [], ◌∷◌, ◌++◌, length, append-nil, slice_get, slice_set}
use Rattle.std.proofs.Common.{Bool, false, cond, le_refl, le-ltb, Option, Some, None, Result, Ok, Err}
use Rattle.std.proofs.Common.{refl, sym, ap, subst, ◌∙◌}
use Rattle.std.specs.Result.{result_unwrap_or}
use Rattle.td_cdr.specs.Marks.{Marks}
use Rattle.td_changes.specs.declared.bounds.Bounds.{Bounds}
use Rattle.td_fed.proofs.Members.{Beginnings}
use Rattle.td_fed.specs.Visiting.{BeginsVisit, start_of}
use Rattle.td_ops.specs.declared.call.Query.{Query}
use Rattle.td_ops.specs.declared.outcome.Outcome.{Outcome}
use Rattle.td_policy.specs.Stated.{nothing as nothing_stated, stated}
use Rattle.td_policy.specs.declared.fault.PolicyFault.{PolicyFault}
use Rattle.td_policy.specs.declared.stated.Stated.{Stated}
use Rattle.td_register.specs.Causes.{Cause, with_cause, ◌otherwise◌}
use Rattle.td_register.specs.Named.{type_found as known_type}
use Rattle.td_register.specs.Registers.{asked_in, no_more}
use Rattle.td_register.specs.Stores.{Store}
use Rattle.td_register.specs.declared.history.Accepted.{Accepted}
use Rattle.td_store.specs.declared.local.Local.{Local}
use Rattle.td_store.specs.declared.record.LinkRecord.{LinkRecord}
use Rattle.td_trader.specs.BeginLaws.{IsPassedOn, IsSearchOfStore}
use Rattle.td_trader.specs.Beginning.{after_begin, begin_along, begin_here, begin_of, begin_unless, is_search}
use Rattle.td_trader.specs.Beginning.{repeated_in, searched_under}
use Rattle.td_trader.specs.Queries.{parts_cause, parts_of, path_link, preferred_in, refusal, unless_fault}
use Rattle.td_trader.specs.Solos.{no_changes, same_marks}
use Rattle.td_trader.specs.Worlds.{BeginsQuery, View, after_begin as seen_after, after_others, history_at, store_seen}
use Rattle.td_trader.specs.Worlds.{with_view}
use Rattle.td_trader.specs.declared.begin.Begin.{Begin}
use Rattle.td_trader.specs.declared.begin.Begin.TheVariants as begin
use Rattle.td_trader.proofs.Begun.{are_passed_on, are_served, only_searches}
use Rattle.td_query_walk.specs.Walks.{Path, Refused, Repeat, Search}

-- ---- one of a list

set-same : {A : Type 0} (xs : List A) (k : ℕ) (x : A) → slice_get xs k ≡ Some x → slice_set xs k x ≡ xs
set-same [] k x e = refl
set-same (y ∷ xs) zero x e = let same : x ≡ y = cc in ap (λ z. z ∷ xs) same
set-same (y ∷ xs) (suc k) x e = ap (λ z. y ∷ z) (set-same xs k x e)

-- ---- what is seen

after-none : (v : View) (between : List Accepted) (marks : Marks) → between ≡ [] → marks ≡ v.marks
    → after_others v between marks ≡ v
after-none v between marks none same =
    ap (λ (x : List Accepted). after_others v x marks) none
    ∙ (ap (λ (x : Marks). after_others v [] x) same
    ∙ ap (λ (x : List Accepted). record v { history = x }) (append-nil v.history))

-- it begins at what was seen before
pub record BeginsAlone (w : List View) (k : ℕ) (q : Query) (b : Begin) (u : List View) : Type 0 where
  pub view : View
  pub is : slice_get w k ≡ Some view
  pub begin : b ≡ begin_of view.bounds (store_seen view) (length view.history) view.marks q
  pub world : u ≡ with_view w k (seen_after view (after_begin (store_seen view) view.marks q b))

pub alone : (w : List View) (k : ℕ) (q : Query) (b : Begin) (u : List View) → BeginsQuery no_changes same_marks w k q b u
    → BeginsAlone w k q b u
alone w k q b u h =
    let m = h.meanwhile in
    let same : h.seen ≡ m.view = m.seen_is ∙ after-none m.view m.between m.marks m.may m.may_mark in
    record {
      view = m.view;
      is = m.is;
      begin =
          subst (λ (x : View). b ≡ begin_of x.bounds (store_seen x) (length x.history) x.marks q) same h.begin;
      world =
          subst (λ (x : View). u ≡ with_view w k (seen_after x (after_begin (store_seen x) x.marks q b))) same h.world;
    }

unmarked : (v : View) → seen_after v v.marks ≡ v
unmarked v =
    ap (λ (b : Bool). record v { own_marks = v.own_marks ++ cond b (v.marks.count ∷ []) [] })
    (le-ltb v.marks.count v.marks.count (le_refl v.marks.count))
    ∙ ap (λ (x : List ℕ). record v { own_marks = x }) (append-nil v.own_marks)

-- where nothing is searched, the group stays as it was
unmoved : (w : List View) (k : ℕ) (q : Query) (b : Begin) (u : List View) → is_search b ≡ false
    → BeginsAlone w k q b u → u ≡ w
unmoved w k q b u other a =
    a.world
    ∙ (ap (λ (m : Marks). with_view w k (seen_after a.view m))
    (only_searches (store_seen a.view) a.view.marks q b other)
    ∙ (ap (λ (v : View). with_view w k v) (unmarked a.view) ∙ set-same w k a.view a.is))

-- ---- what is known of a query that began

-- its policies can be read
abbrev pub IsTaken : Query → Type 0
IsTaken q = stated q.policies ≡ Ok (parts_of q).stated

ok-stated : (r : Result Stated PolicyFault) → with_cause (unless_fault r) no_more ≡ None
    → r ≡ Ok (result_unwrap_or r nothing_stated)
ok-stated (Ok s) h = refl
ok-stated (Err f) h = absurd (let bad : ⊥ = cc in bad)

neither : (a b : Cause) → (a otherwise b) ≡ None → (a ≡ None) × (b ≡ None)
neither None b h = (refl, h)
neither (Some f) b h = absurd (let bad : ⊥ = cc in bad)

taken : (bounds : Bounds) (count : ℕ) (s : Store) (q : Query) → refusal bounds count s q ≡ None → IsTaken q
unfolding refusal
taken bounds count s q h =
    let parts = (neither (with_cause (known_type s.types.types q.service_type) no_more) _ h).1 in
    let texts = (neither (parts_cause q) _ parts).0 in
    let two = (neither (with_cause (asked_in q.constraint) no_more) _ texts).1 in
    let policies = (neither (with_cause (preferred_in q.preference) no_more) _ two).1 in
    ok-stated (stated q.policies) policies

pub record IsRepeatHere (m : Marks) (q : Query) (number : ℕ) : Type 0 where
  pub taken : IsTaken q
  pub held : repeated_in m (parts_of q).stated ≡ Some number

pub record IsSearchHere (s : Store) (point : ℕ) (m : Marks) (q : Query) (l : Local) : Type 0 where
  pub taken : IsTaken q
  pub new : repeated_in m (parts_of q).stated ≡ None
  pub served : IsSearchOfStore s point (m.count + 1) (searched_under s m q).identifier q l

pub record IsPathHere (s : Store) (point : ℕ) (q : Query) (l : Local) : Type 0 where
  pub taken : IsTaken q
  pub link : LinkRecord
  pub served : IsPassedOn s point link q l

module _ (bounds : Bounds) (s : Store) (point : ℕ) (m : Marks) (q : Query) where
  abbrev Known : Begin → Type 0
  Known (begin.Refused o) = Unit {0}
  Known (begin.Repeat number) = IsRepeatHere m q number
  Known (begin.Search l) = IsSearchHere s point m q l
  Known (begin.Path l) = IsPathHere s point q l

  here-known : IsTaken q → (found : Option ℕ) → repeated_in m (parts_of q).stated ≡ found
      → Known (begin_here s point m q found)
  here-known t (Some number) e = record { taken = t; held = e }
  here-known t None e = record {
    taken = t;
    new = e;
    served = are_served s point (m.count + 1) (searched_under s m q).identifier q;
  }

  along-known : IsTaken q → (found : Option LinkRecord) → Known (begin_along s point m q found)
  along-known t (Some link) = record { taken = t; link = link; served = are_passed_on s point link q }
  along-known t None = here-known t (repeated_in m (parts_of q).stated) refl

  unless-known : (cause : Cause) → refusal bounds m.count s q ≡ cause → Known (begin_unless cause s point m q)
  unless-known (Some f) e = tt
  unless-known None e = along-known (taken bounds m.count s q e) (path_link s.links (parts_of q).stated)

  known-begin : (b : Begin) → b ≡ begin_of bounds s point m q → Known b
  unfolding begin_of
  known-begin b e = subst Known (sym e) (unless-known (refusal bounds m.count s q) refl)

-- ---- by the way it began

pub refused-is : (point p : ℕ) (o : Outcome) (b : Begin) → Refused p o ≡ start_of point b → is_search b ≡ false
refused-is point p o (begin.Refused content) e = refl
refused-is point p o (begin.Repeat n) e = refl
refused-is point p o (begin.Search l) e = absurd (let bad : ⊥ = cc in bad)
refused-is point p o (begin.Path l) e = refl

pub repeat-is : (point p n : ℕ) (b : Begin) → Repeat p n ≡ start_of point b → b ≡ begin.Repeat n
repeat-is point p n (begin.Refused o) e = absurd (let bad : ⊥ = cc in bad)
repeat-is point p n (begin.Repeat m) e = let same : m ≡ n = cc in ap (λ (x : ℕ). begin.Repeat x) same
repeat-is point p n (begin.Search l) e = absurd (let bad : ⊥ = cc in bad)
repeat-is point p n (begin.Path l) e = absurd (let bad : ⊥ = cc in bad)

pub search-is : (point : ℕ) (l : Local) (b : Begin) → Search l ≡ start_of point b → b ≡ begin.Search l
search-is point l (begin.Refused o) e = absurd (let bad : ⊥ = cc in bad)
search-is point l (begin.Repeat n) e = absurd (let bad : ⊥ = cc in bad)
search-is point l (begin.Search k) e = let same : k ≡ l = cc in ap (λ (x : Local). begin.Search x) same
search-is point l (begin.Path k) e = absurd (let bad : ⊥ = cc in bad)

pub path-is : (point : ℕ) (l : Local) (b : Begin) → Path l ≡ start_of point b → b ≡ begin.Path l
path-is point l (begin.Refused o) e = absurd (let bad : ⊥ = cc in bad)
path-is point l (begin.Repeat n) e = absurd (let bad : ⊥ = cc in bad)
path-is point l (begin.Search k) e = absurd (let bad : ⊥ = cc in bad)
path-is point l (begin.Path k) e = let same : k ≡ l = cc in ap (λ (x : Local). begin.Path x) same

pub refused-begun : (w : List View) (k : ℕ) (q : Query) (p : ℕ) (o : Outcome) (u : List View)
    → BeginsVisit no_changes same_marks w k q (Refused p o) u → u ≡ w
refused-begun w k q p o u h =
    unmoved w k q h.begin u (refused-is (length (history_at u k)) p o h.begin h.is) (alone w k q h.begin u h.begun)

pub record RepeatBegun (w : List View) (k : ℕ) (q : Query) (n : ℕ) (u : List View) : Type 0 where
  pub view : View
  pub is : slice_get w k ≡ Some view
  pub here : IsRepeatHere view.marks q n
  pub world : u ≡ w

pub repeat-begun : (w : List View) (k : ℕ) (q : Query) (p n : ℕ) (u : List View)
    → BeginsVisit no_changes same_marks w k q (Repeat p n) u → RepeatBegun w k q n u
repeat-begun w k q p n u h =
    let is = repeat-is (length (history_at u k)) p n h.begin h.is in
    let a = alone w k q h.begin u h.begun in
    let v = a.view in
    record {
      view = v;
      is = a.is;
      here =
          subst (Known v.bounds (store_seen v) (length v.history) v.marks q) is
          (known-begin v.bounds (store_seen v) (length v.history) v.marks q h.begin a.begin);
      world = unmoved w k q h.begin u (ap is_search is) a;
    }

pub record PathBegun (w : List View) (k : ℕ) (q : Query) (l : Local) (u : List View) : Type 0 where
  pub view : View
  pub is : slice_get w k ≡ Some view
  pub here : IsPathHere (store_seen view) (length view.history) q l
  pub world : u ≡ w

pub path-begun : (w : List View) (k : ℕ) (q : Query) (l : Local) (u : List View)
    → BeginsVisit no_changes same_marks w k q (Path l) u → PathBegun w k q l u
path-begun w k q l u h =
    let is = path-is (length (history_at u k)) l h.begin h.is in
    let a = alone w k q h.begin u h.begun in
    let v = a.view in
    record {
      view = v;
      is = a.is;
      here =
          subst (Known v.bounds (store_seen v) (length v.history) v.marks q) is
          (known-begin v.bounds (store_seen v) (length v.history) v.marks q h.begin a.begin);
      world = unmoved w k q h.begin u (ap is_search is) a;
    }

pub record SearchBegun (w : List View) (k : ℕ) (q : Query) (l : Local) (u : List View) : Type 0 where
  pub view : View
  pub is : slice_get w k ≡ Some view
  pub here : IsSearchHere (store_seen view) (length view.history) view.marks q l
  pub world : u ≡ with_view w k (seen_after view (after_begin (store_seen view) view.marks q (begin.Search l)))

pub search-begun : (w : List View) (k : ℕ) (q : Query) (l : Local) (u : List View)
    → BeginsVisit no_changes same_marks w k q (Search l) u → SearchBegun w k q l u
search-begun w k q l u h =
    let is = search-is (length (history_at u k)) l h.begin h.is in
    let a = alone w k q h.begin u h.begun in
    let v = a.view in
    record {
      view = v;
      is = a.is;
      here =
          subst (Known v.bounds (store_seen v) (length v.history) v.marks q) is
          (known-begin v.bounds (store_seen v) (length v.history) v.marks q h.begin a.begin);
      world =
          subst (λ (b : Begin). u ≡ with_view w k (seen_after v (after_begin (store_seen v) v.marks q b))) is a.world;
    }

-- ---- whatever others did before

-- a search, and a query that is passed on, at what is seen of the trader then
pub record SearchSeen (q : Query) (l : Local) : Type 0 where
  pub seen : View
  pub here : IsSearchHere (store_seen seen) (length seen.history) seen.marks q l

pub record PathSeen (q : Query) (l : Local) : Type 0 where
  pub seen : View
  pub here : IsPathHere (store_seen seen) (length seen.history) q l

-- what is known of each beginning
pub record AreKnown (B : Beginnings) : Type 0 where
  pub searches : (w : List View) (k : ℕ) (q : Query) (l : Local) (u : List View) → B w k q (Search l) u
      → SearchSeen q l
  pub paths : (w : List View) (k : ℕ) (q : Query) (l : Local) (u : List View) → B w k q (Path l) u → PathSeen q l

pub search-here : (others : List Accepted → Type 0) (later : Marks → Marks → Type 0) (w : List View) (k : ℕ)
    (q : Query) (l : Local) (u : List View) → (h : BeginsVisit others later w k q (Search l) u)
    → IsSearchHere (store_seen h.begun.seen) (length h.begun.seen.history) h.begun.seen.marks q l
search-here others later w k q l u h =
    let v = h.begun.seen in
    subst (Known v.bounds (store_seen v) (length v.history) v.marks q)
    (search-is (length (history_at u k)) l h.begin h.is)
    (known-begin v.bounds (store_seen v) (length v.history) v.marks q h.begin h.begun.begin)

pub repeat-here : (others : List Accepted → Type 0) (later : Marks → Marks → Type 0) (w : List View) (k : ℕ)
    (q : Query) (p n : ℕ) (u : List View) → (h : BeginsVisit others later w k q (Repeat p n) u)
    → IsRepeatHere h.begun.seen.marks q n
repeat-here others later w k q p n u h =
    let v = h.begun.seen in
    subst (Known v.bounds (store_seen v) (length v.history) v.marks q)
    (repeat-is (length (history_at u k)) p n h.begin h.is)
    (known-begin v.bounds (store_seen v) (length v.history) v.marks q h.begin h.begun.begin)

pub known : (others : List Accepted → Type 0) (later : Marks → Marks → Type 0) → AreKnown (BeginsVisit others later)
known others later = record {
  searches = λ w k q l u h. record { seen = h.begun.seen; here = search-here others later w k q l u h };
  paths =
      λ w k q l u h. let is = path-is (length (history_at u k)) l h.begin h.is in
      let v = h.begun.seen in
      record {
        seen = v;
        here =
            subst (Known v.bounds (store_seen v) (length v.history) v.marks q) is
            (known-begin v.bounds (store_seen v) (length v.history) v.marks q h.begin h.begun.begin);
      };
}
