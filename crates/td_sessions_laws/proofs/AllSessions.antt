-- The accepted changes of all sessions, and the entries of the histories that are handed on.
use Rattle.std.proofs.Common.{◌≡◌, inl, inr, ℕ, ◌<◌, ◌≤◌, true, List, [], ◌∷◌, ◌++◌, length, map, Option, Some}
use Rattle.std.proofs.Common.{refl, sym, ap, subst, ◌∙◌, slice_get}
use Rattle.std.proofs.lemmas.List.{map-append}
use Rattle.std.proofs.lemmas.List.Elements.{All-cons, All-head, All-nil, All-tail}
use Rattle.std.proofs.lemmas.List.Sorted.{All-permutation}
use Rattle.std.specs.List.{All, AllZip, flat_map}
use Rattle.td_accept.specs.Doors.{Door}
use Rattle.td_cdr.specs.Marks.{In, Later}
use Rattle.td_fed.specs.Trails.{own_at, own_in}
use Rattle.td_group.specs.Rows.{Rows}
use Rattle.td_lookup.specs.Scenes.{scene}
use Rattle.td_servant.specs.Linking.{peers_seen}
use Rattle.td_servant.specs.declared.entry.Entry.{Entry}
use Rattle.td_stream.specs.Outside.{Outside}
use Rattle.td_sessions.specs.Sessions.{SessionStart, Closes, Continues, SessionResult, WordsBySeeding, ServesSession}
use Rattle.td_sessions.specs.Sessions.{ServerState, HandedSessions}
use Rattle.td_server.specs.Whole.{Every}
use Rattle.td_sessions.specs.Whole.{AreApart, BeginsAfter, HasChanged, ServesSessions, Visit, server_start}
use Rattle.td_sessions.specs.Whole.{opened_views}
use Rattle.td_sessions_laws.proofs.OneSession.{IsSafe, IsSomewhere, all-safe, all-somewhere}
use Rattle.td_sessions_laws.proofs.Places.{Each, IsApart, IsOnce, apart-both, every-both, every-here, flat-either}
use Rattle.td_sessions_laws.proofs.Places.{flat-first, flat-second, once-in}
use Rattle.td_sessions_laws.proofs.Views.{IsThere, SeenLast, as-many, bare-own, closes-at, front-of}
use Rattle.td_sessions_laws.proofs.Views.{has-trader, opened-own, opening-seen}
use Rattle.td_sessions_laws.specs.OneHistory.{AreOfSessions, EntriesAreOfSessions, IsInHistory, IsMadeOnce}
use Rattle.td_sessions_laws.specs.OneHistory.{MakesEntry, SessionRequest, all_requests, noted_by, request_in}
use Rattle.td_trader.specs.Admitted.{AreAdmitted}
use Rattle.td_trader.specs.PlainTraders.{PlainTrader}
use Rattle.td_trader.specs.Worlds.{View}
use Rattle.td_session_runs.specs.Journals.{all_places_in, is_accepted, places_in}
use Rattle.td_session_runs.specs.Turns.{ServedRequest, noted_of}
use Rattle.td_walk.specs.declared.trace.Address.{Address}

-- ---- the Requests of one session, with its number

-- the places that a Request has at trader k
abbrev places_of : (k : ℕ) → SessionRequest → List ℕ
places_of k p = places_in k p.request

-- each change of trader k that the Request made is an entry since the opening, at its point
abbrev IsSafeAt : (opened closed : PlainTrader) → (k : ℕ) → SessionRequest → Type 0
IsSafeAt opened closed k p =
    (place : ℕ) → In place (places_in k p.request)
    → (length opened.history ≤ place) × MakesEntry closed.history k place p.request

requests-places : (k session : ℕ) (ns : List ServedRequest)
    → flat_map (places_of k) (map (request_in session) ns) ≡ all_places_in k ns
requests-places k session [] = refl
requests-places k session (n ∷ ns) = ap (λ (l : List ℕ). places_in k n ++ l) (requests-places k session ns)

module _ (opened closed : PlainTrader) (k session : ℕ) where
  requests-kept : (ns : List ServedRequest) → Each (IsSafe opened closed k) ns
      → Every (IsSafeAt opened closed k) (map (request_in session) ns)
  requests-kept [] h = tt
  requests-kept (n ∷ ns) h = (h.0.stays, requests-kept ns h.1)

  requests-apart : (ns : List ServedRequest) → Each (IsSafe opened closed k) ns
      → Each (IsApart (places_of k)) (map (request_in session) ns)
  requests-apart [] h = tt
  requests-apart (n ∷ ns) h = (
    (λ place i j.
        h.0.apart place i (subst (λ (l : List ℕ). In place l) (requests-places k session ns) j)),
    requests-apart ns h.1,
  )

-- ---- of all sessions

module _ {X : Type 0} (outside_of : X → Outside) (seeded : X → WordsBySeeding) (opened closed : PlainTrader) (k : ℕ) where
  abbrev Served : List (Visit X) → Type 0
  Served visits = Every (λ (v : Visit X). ServesSession outside_of seeded v.begun v.ended) visits

  -- a session's changes of trader k are those of its Requests, and these are safe
  record IsRight (own : List ℕ) (ns : List ServedRequest) : Type 0 where
    pub own_is : own ≡ all_places_in k ns
    pub safe : Each (IsSafe opened closed k) ns

  abbrev AreRight : (visits : List (Visit X)) → Served visits → Type 0
  AreRight [] each = Unit {0}
  AreRight (v ∷ vs) each =
      IsRight (own_at v.ended.last k) (noted_of each.0.serves.turns) × AreRight vs each.1

  changed-requested : (place : ℕ) (vs : List (Visit X)) (each : Served vs) → AreRight vs each → HasChanged k place vs
      → In place (flat_map (places_of k) (all_requests outside_of seeded vs each))
  changed-requested place [] each r h = absurd h
  changed-requested place (v ∷ vs) each r (inl h) =
      let ns = noted_of each.0.serves.turns in
      flat-first (places_of k) place (map (request_in v.begun.number) ns)
      (all_requests outside_of seeded vs each.1)
      (subst (λ (l : List ℕ). In place l) (r.0.own_is ∙ sym (requests-places k v.begun.number ns)) h)
  changed-requested place (v ∷ vs) each r (inr h) =
      flat-second (places_of k) place (map (request_in v.begun.number) (noted_of each.0.serves.turns))
      (all_requests outside_of seeded vs each.1) (changed-requested place vs each.1 r.1 h)

  requests-own : (place : ℕ) (v : Visit X) (ns : List ServedRequest) → IsRight (own_at v.ended.last k) ns
      → In place (flat_map (places_of k) (map (request_in v.begun.number) ns)) → In place (own_at v.ended.last k)
  requests-own place v ns r h =
      subst (λ (l : List ℕ). In place l) (requests-places k v.begun.number ns ∙ sym r.own_is) h

  requests-changed : (place : ℕ) (vs : List (Visit X)) (each : Served vs) → AreRight vs each
      → In place (flat_map (places_of k) (all_requests outside_of seeded vs each)) → HasChanged k place vs
  requests-changed place [] each r h = absurd h
  requests-changed place (v ∷ vs) each r h =
      let ns = noted_of each.0.serves.turns in
      elim (flat-either (places_of k) place (map (request_in v.begun.number) ns)
      (all_requests outside_of seeded vs each.1) h) as (λ _. HasChanged k place (v ∷ vs)) [
        | inl p ↦ inl (requests-own place v ns r.0 p)
        | inr p ↦ inr (requests-changed place vs each.1 r.1 p)
      ]

  all-apart : (vs : List (Visit X)) (each : Served vs) → AreRight vs each → AreApart vs
      → Each (IsApart (places_of k)) (all_requests outside_of seeded vs each)
  all-apart [] each r a = tt
  all-apart (v ∷ vs) each r a =
      let ns = noted_of each.0.serves.turns in
      apart-both (places_of k) (map (request_in v.begun.number) ns) (all_requests outside_of seeded vs each.1)
      (requests-apart opened closed k v.begun.number ns r.0.safe) (all-apart vs each.1 r.1 a.1)
      (λ place h i. a.0 k place (requests-own place v ns r.0 h) (requests-changed place vs each.1 r.1 i))

  all-kept : (vs : List (Visit X)) (each : Served vs) → AreRight vs each
      → Every (IsSafeAt opened closed k) (all_requests outside_of seeded vs each)
  all-kept [] each r = tt
  all-kept (v ∷ vs) each r =
      let ns = noted_of each.0.serves.turns in
      every-both (IsSafeAt opened closed k) (map (request_in v.begun.number) ns)
      (all_requests outside_of seeded vs each.1) (requests-kept opened closed k v.begun.number ns r.0.safe)
      (all-kept vs each.1 r.1)

  made-once : (place : ℕ) (all : List SessionRequest) → Every (IsSafeAt opened closed k) all
      → IsOnce (places_of k) place all → IsMadeOnce closed.history k place all
  made-once place all kept o =
      let here : IsSafeAt opened closed k o.one =
      every-here (IsSafeAt opened closed k) o.before o.rest o.one
      (subst (λ (l : List SessionRequest). Every (IsSafeAt opened closed k) l) o.are kept) in
      record {
        before = o.before;
        one = o.one;
        rest = o.rest;
        are = o.are;
        makes = (here place o.has).1;
        alone = o.alone;
      }

-- ---- from what holds of each session

pub every-all : {X : Type 0} (P : X → Type 0) (xs : List X) → Every P xs → All P xs
every-all P [] h = All-nil P
every-all P (x ∷ xs) h = All-cons P x xs h.0 (every-all P xs h.1)

pub all-every : {X Y : Type 0} (P : Y → Type 0) (f : X → Y) (xs : List X) → All P (map f xs)
    → Every (λ (x : X). P (f x)) xs
all-every P f [] h = tt
all-every P f (x ∷ xs) h =
    (All-head P (f x) (map f xs) h, all-every P f xs (All-tail P (f x) (map f xs) h))

module _ {X : Type 0} (outside_of : X → Outside) (seeded : X → WordsBySeeding) (start : ServerState X) (traders : List PlainTrader)
    (starts : start.world ≡ opened_views traders) (world : List View) (opened closed : PlainTrader) (k : ℕ)
    (is : slice_get traders k ≡ Some opened) (seen_last : SeenLast opened (slice_get world k) closed) where
  one-right : (b : SessionStart X) (e : SessionResult X) (p : ServesSession outside_of seeded b e) → BeginsAfter start b
      → AllZip Continues e.last world
      → IsRight outside_of seeded opened closed k (own_at e.last k) (noted_of p.serves.turns)
  one-right b e p begins seen =
      let words = seeded b.visitor (record { key = b.seed; stream = b.number }) in
      let first = scene b.first ([], 1) (peers_seen [] 0) words in
      let h = p.serves.headline in
      let none : own_at b.first k ≡ [] =
      ap (λ (w : List View). own_at w k) begins.nothing_own ∙ bare-own b.first k in
      let from = subst (λ (w : List View). AllZip Continues w b.first) starts begins.seen in
      let low = opening-seen traders b.first k opened from is in
      let last = subst (λ (w : List View). AllZip Continues w world) (sym p.seen) seen in
      let front = front-of p.scene_after.world world k opened closed last seen_last in
      record {
        own_is =
            ap (λ (w : List View). own_at w k) (sym p.seen)
            ∙ h.places k
            ∙ ap (λ (l : List ℕ). l ++ all_places_in k (noted_of p.serves.turns)) none;
        safe = all-safe AreAdmitted Later b.given first p.scene_after p.serves.turns h opened closed k low front;
      }

  all-right : (vs : List (Visit X)) (each : Every (λ (v : Visit X). ServesSession outside_of seeded v.begun v.ended) vs)
      → Every (λ (v : Visit X). BeginsAfter start v.begun) vs
      → Every (λ (v : Visit X). AllZip Continues v.ended.last world) vs
      → AreRight outside_of seeded opened closed k vs each
  all-right [] each begin seen = tt
  all-right (v ∷ vs) each begin seen =
      (one-right v.begun v.ended each.0 begin.0 seen.0, all-right vs each.1 begin.1 seen.1)

-- ---- no change is lost

-- the Request has a place at a trader of the group
record HasPlace (traders items : List PlainTrader) (p : SessionRequest) : Type 0 where
  k : ℕ
  place : ℕ
  has : In place (places_in k p.request)
  there : IsThere traders items k

kept-by : (traders items : List PlainTrader) (all : List SessionRequest)
    → Every (λ (p : SessionRequest). is_accepted p.request ≡ true → HasPlace traders items p) all
    → ((k : ℕ) (o c : PlainTrader) → slice_get traders k ≡ Some o → slice_get items k ≡ Some c
    → Every (IsSafeAt o c k) all)
    → Every (λ (p : SessionRequest). is_accepted p.request ≡ true → IsInHistory traders items p) all
kept-by traders items [] has safe = tt
kept-by traders items (p ∷ ps) has safe = (
  (λ accepted.
      let h = has.0 accepted in
      let t = h.there in
      let made = (safe h.k t.first t.last t.is_opened t.is_closed).0 h.place h.has in
      record {
        k = h.k;
        place = h.place;
        first = t.first;
        last = t.last;
        is_opened = t.is_opened;
        is_closed = t.is_closed;
        since = made.0;
        makes = made.1;
      }),
  kept-by traders items ps has.1 (λ k o c is_o is_c. (safe k o c is_o is_c).1),
)

module _ {X : Type 0} (outside_of : X → Outside) (seeded : X → WordsBySeeding) (traders : List PlainTrader) (world : List View)
    (items : List PlainTrader) (closes : Rows Closes traders world items) where
  ones-places : (last : List View) → AllZip Continues last world → (session : ℕ) (ns : List ServedRequest)
      → Each (λ (n : ServedRequest) (rest : List ServedRequest). is_accepted n ≡ true → IsSomewhere last n) ns
      → Every (λ (p : SessionRequest). is_accepted p.request ≡ true → HasPlace traders items p)
      (map (request_in session) ns)
  ones-places last seen session [] h = tt
  ones-places last seen session (n ∷ ns) h = (
    (λ accepted.
        let s = h.0 accepted in
        record {
          k = s.k;
          place = s.place;
          has = s.has;
          there = has-trader traders last world items s.k s.place s.entry_there seen closes s.stands;
        }),
    ones-places last seen session ns h.1,
  )

  all-places : (vs : List (Visit X)) (each : Every (λ (v : Visit X). ServesSession outside_of seeded v.begun v.ended) vs)
      → Every (λ (v : Visit X). AllZip Continues v.ended.last world) vs
      → Every (λ (p : SessionRequest). is_accepted p.request ≡ true → HasPlace traders items p)
      (all_requests outside_of seeded vs each)
  all-places [] each seen = tt
  all-places (v ∷ vs) each seen =
      let p = each.0 in
      let b = v.begun in
      let words = seeded b.visitor (record { key = b.seed; stream = b.number }) in
      let first = scene b.first ([], 1) (peers_seen [] 0) words in
      let ns = noted_of p.serves.turns in
      let last = subst (λ (w : List View). AllZip Continues w world) (sym p.seen) seen.0 in
      every-both (λ (p : SessionRequest). is_accepted p.request ≡ true → HasPlace traders items p)
      (map (request_in b.number) ns) (all_requests outside_of seeded vs each.1)
      (ones-places p.scene_after.world last b.number ns
      (all-somewhere AreAdmitted Later b.given first p.scene_after p.serves.turns p.serves.headline))
      (all-places vs each.1 seen.1)

-- ---- what the journals have noted

abbrev with_number : SessionRequest → ℕ × Entry
with_number p = (p.session, p.request.entry)

of-requests : (session : ℕ) (ns : List ServedRequest)
    → map (λ (e : Entry). (session, e)) (map (λ (n : ServedRequest). n.entry) ns)
    ≡ map with_number (map (request_in session) ns)
of-requests session [] = refl
of-requests session (n ∷ ns) = ap (λ (l : List (ℕ × Entry)). (session, n.entry) ∷ l) (of-requests session ns)

ones-journal : (session : ℕ) (journal : List Entry) (ns : List ServedRequest) → journal ≡ map (λ (n : ServedRequest). n.entry) ns
    → map (λ (e : Entry). (session, e)) journal ≡ map with_number (map (request_in session) ns)
ones-journal session journal ns is = ap (map (λ (e : Entry). (session, e))) is ∙ of-requests session ns

all-journals : {X : Type 0} (outside_of : X → Outside) (seeded : X → WordsBySeeding) (vs : List (Visit X))
    (each : Every (λ (v : Visit X). ServesSession outside_of seeded v.begun v.ended) vs)
    → flat_map noted_by vs ≡ map with_number (all_requests outside_of seeded vs each)
all-journals outside_of seeded [] each = refl
all-journals outside_of seeded (v ∷ vs) each =
    let ns = noted_of each.0.serves.turns in
    let mine = map (request_in v.begun.number) ns in
    let more = all_requests outside_of seeded vs each.1 in
    ap (λ (l : List (ℕ × Entry)). l ++ flat_map noted_by vs)
    (ones-journal v.begun.number v.ended.kept.journal ns each.0.serves.noted)
    ∙ ap (λ (l : List (ℕ × Entry)). map with_number mine ++ l) (all-journals outside_of seeded vs each.1)
    ∙ sym (map-append with_number mine more)

-- ---- the law

abbrev begun_of : {X : Type 0} → Visit X → SessionStart X
begun_of v = v.begun

module _ {X : Type 0} (outside_of : X → Outside) (seeded : X → WordsBySeeding) (home : Address) (seed : List ℕ)
    (traders : List PlainTrader) (door door_after : Option (Door X)) (content content_after : Option (HandedSessions X))
    (s : ServesSessions outside_of seeded home seed traders door content door_after content_after) where
  abbrev items : List PlainTrader
  items = s.hands.solo.traders.items

  abbrev all : List SessionRequest
  all = all_requests outside_of seeded s.whole.visits s.whole.each

  abbrev start : ServerState X
  start = server_start home seed traders door content

  begin : Every (λ (v : Visit X). BeginsAfter start v.begun) s.whole.visits
  begin =
      all-every (BeginsAfter start) begun_of s.whole.visits
      (All-permutation (BeginsAfter start) s.whole.came (map begun_of s.whole.visits) s.whole.same
      (every-all (BeginsAfter start) s.whole.came s.whole.begin))

  module _ (k : ℕ) (o c : PlainTrader) (is_o : slice_get traders k ≡ Some o) (is_c : slice_get items k ≡ Some c) where
    last : SeenLast o (slice_get s.end.world k) c
    last = closes-at traders s.end.world items k o c s.hands.closes is_o is_c

    right : AreRight outside_of seeded o c k s.whole.visits s.whole.each
    right =
        all-right outside_of seeded start traders refl s.end.world o c k is_o last s.whole.visits s.whole.each begin
        s.whole.seen

    safe-at : Every (IsSafeAt o c k) all
    safe-at = all-kept outside_of seeded o c k s.whole.visits s.whole.each right

    changed : (place : ℕ) → In place (own_at s.end.world k) → HasChanged k place s.whole.visits
    changed place own =
        elim (s.whole.changed k place own) as (λ _. HasChanged k place s.whole.visits) [
          | inl h ↦ absurd (subst (λ (l : List ℕ). In place l) (opened-own traders k) h)
          | inr h ↦ h
        ]

    made : (place : ℕ) → length o.history ≤ place → place < length c.history → IsMadeOnce c.history k place all
    made place since below =
        let own : In place (own_at s.end.world k) =
        subst (λ (v : Option View). In place (own_in v)) (sym last.is) (last.closes.places place since below) in
        made-once outside_of seeded o c k place all safe-at
        (once-in (places_of k) place all
        (all-apart outside_of seeded o c k s.whole.visits s.whole.each right s.whole.apart)
        (changed-requested outside_of seeded o c k place s.whole.visits s.whole.each right (changed place own)))

  of-all : AreOfSessions traders items (flat_map noted_by s.whole.visits) all
  of-all = record {
    count = as-many traders s.end.world items s.hands.closes;
    noted = all-journals outside_of seeded s.whole.visits s.whole.each;
    each = λ k o c is_o is_c. record {
      follows = (last k o c is_o is_c).closes.since.follows;
      entries = made k o c is_o is_c;
    };
    kept =
        kept-by traders items all
        (all-places outside_of seeded traders s.end.world items s.hands.closes s.whole.visits s.whole.each
        s.whole.seen)
        safe-at;
  }

pub of-sessions : (X : Type 0) → EntriesAreOfSessions X
of-sessions X outside_of seeded home seed traders door door_after content content_after s =
    of-all outside_of seeded home seed traders door door_after content content_after s
