-- What one Request leaves, by what it asks for: what is seen grows, by the places, the marks and the points that are
-- noted; the peers gave what is noted; and the words that were drawn are the next ones.
use Rattle.std.proofs.Common.{◌≡◌, inl, inr, ℕ, Bool, true, false, cond, nat_eq, List, [], ◌∷◌, ◌++◌}
use Rattle.std.proofs.Common.{length, Option, None, Some, Result, Ok, Err, IfErr, refl, sym, ap, subst, ◌∙◌, append-nil}
use Rattle.std.proofs.Common.{true≢false}
use Rattle.td_cdr.specs.Marks.{Marks}
use Rattle.td_cdr.specs.Writing.{Draft}
use Rattle.td_changes.specs.Histories.{is_done}
use Rattle.td_typecode.specs.declared.reference.Ior.{Ior}
use Rattle.td_fed.proofs.Moving.{draws-none}
use Rattle.td_fed.specs.Trails.{DrawsOn, NeverFalls, only_of, own_at, points_of}
use Rattle.td_fed.specs.Visiting.{course}
use Rattle.td_lookup.specs.Naming.{NameComes, name_entry}
use Rattle.td_lookup.specs.Querying.{QueryComes}
use Rattle.td_lookup.specs.Scenes.{Scene}
use Rattle.td_lookup.specs.NoMemory.{PeersGive, AnswersNoMemory, NoMemoryEntry, gave_in, items_of, link, name, nothing}
use Rattle.td_lookup.specs.NoMemory.{trace, unread}
use Rattle.td_ops.specs.declared.call.AddLink.{AddLink}
use Rattle.td_ops.specs.declared.call.Call.TheVariants as call
use Rattle.td_ops.specs.declared.call.Call.{Call as Asking}
use Rattle.td_ops.specs.declared.call.Change.{Change}
use Rattle.td_ops.specs.declared.call.Look.{Look}
use Rattle.td_ops.specs.declared.call.Query.{Query}
use Rattle.td_ops.specs.declared.outcome.Outcome.{Outcome}
use Rattle.td_register.specs.declared.history.Accepted.{Accepted}
use Rattle.td_servant.specs.Changing.{ChangeComes}
use Rattle.td_servant.specs.Linking.{AddLinkBy, Gave, PeersSeen, RegisterAsked, link_change}
use Rattle.td_servant.specs.Linking.{register_given}
use Rattle.td_servant.specs.Looking.{LookComes}
use Rattle.td_servant.specs.Targets.{target_of}
use Rattle.td_servant.specs.declared.entry.Entry.TheVariants.{Plain, Point, Asked}
use Rattle.td_servant.specs.declared.entry.Entry.{Entry}
use Rattle.td_servant.specs.declared.judging.Judged.TheVariants.{Call, Refused}
use Rattle.td_servant.specs.declared.judging.Judged.{Judged}
use Rattle.td_servant.specs.declared.objects.Object.{Object}
use Rattle.td_servant.specs.declared.target.Target.TheVariants.{Inside, Outside, Unreachable}
use Rattle.td_servant.specs.declared.target.Target.{Target}
use Rattle.td_dispatch.specs.Requests.{AnswersRequest, OutcomeOfRequest}
use Rattle.td_trader.specs.Worlds.{View, history_at}
use Rattle.td_session_runs.proofs.Moving.{Moves, changes-move, moves-as, moves-none, no-more, none}
use Rattle.td_session_runs.proofs.Moving.{seen-length, seen-moves}
use Rattle.td_session_runs.proofs.Resting.{answered_by, end-rise, goes-rests, resolves-leads}
use Rattle.td_session_runs.proofs.Travelling.{Adds, adds-none, adds-on, walks-travel}
use Rattle.td_session_runs.specs.Journals.{marks_in, places_in, served_at}
use Rattle.td_session_runs.specs.Seen.{AllGrow}
use Rattle.td_session_runs.specs.Turns.{ServedRequest}
use Rattle.td_walk.specs.Peering.{Failed as Missed}
use Rattle.td_walk.specs.Peering.{PeerAnswer, IsNoted, Referred, RegisterOf, is_memory}
use Rattle.td_walk.specs.declared.fault.PeerFault.TheVariants as fault
use Rattle.td_walk.specs.declared.fault.PeerFault.{PeerFault}
use Rattle.td_walk.specs.declared.trace.Address.{Address}
use Rattle.td_query_walk.proofs.Counting.{counted-none, counted-on, counts-made, register-counted}
use Rattle.td_query_walk.specs.Faults.{CountsFaults}

abbrev pub note : Judged → Outcome → Entry → ServedRequest
note j o e = record { judged = j; outcome = o; entry = e }

pub record Does (j : Judged) (o : Outcome) (e : Entry) (s t : Scene) : Type 0 where
  pub moves : Moves s.world t.world (λ k. places_in k (note j o e)) (λ k. marks_in k e) (λ k. served_at k (note j o e))
  pub gives : PeersGive s.peers (gave_in e) t.peers
  pub draws : DrawsOn s.words t.words

-- ---- peers and words

abbrev Counts : (a b : PeersSeen) → Type 0
Counts a b = CountsFaults a.calls b.calls a.faults b.faults

gives-as : (a b : PeersSeen) (g : List PeerAnswer) → Adds a.calls g b.calls → Counts a b → PeersGive a g b
gives-as a b g h c = record {
  made = h.made;
  calls = h.calls;
  given = h.given;
  count = counts-made a.calls b.calls a.faults b.faults c h.made h.calls;
}

pub gives-none : (a b : PeersSeen) → b ≡ a → PeersGive a [] b
gives-none a b same =
    subst (λ (p : PeersSeen). PeersGive a [] p) (sym same)
    (gives-as a a [] (adds-none a.calls) (counted-none a.calls a.faults))

pub gives-on : (a b c : PeersSeen) (g h : List PeerAnswer) → PeersGive a g b → PeersGive b h c → PeersGive a (g ++ h) c
gives-on a b c g h p q =
    gives-as a c (g ++ h)
    (adds-on a.calls b.calls c.calls g h (record { made = p.made; calls = p.calls; given = p.given })
    (record { made = q.made; calls = q.calls; given = q.given }))
    (counted-on a.calls b.calls c.calls a.faults b.faults c.faults
    (record { made = p.made; calls = p.calls; count = p.count })
    (record { made = q.made; calls = q.calls; count = q.count }))

draws-same : (a b : ℕ → ℕ) → b ≡ a → DrawsOn a b
draws-same a b same = subst (λ (x : ℕ → ℕ). DrawsOn a x) (sym same) (draws-none a)

-- ---- no trader is called

plain-does : (j : Judged) (o : Outcome) (s t : Scene) → t.world ≡ s.world → t.peers ≡ s.peers → t.words ≡ s.words
    → Does j o Plain s t
plain-does j o s t world peers words = record {
  moves =
      subst (λ (w : List View). Moves s.world w (λ k. places_in k (note j o Plain)) (λ k. marks_in k Plain)
      (λ k. served_at k (note j o Plain))) (sym world)
      (moves-as s.world s.world none none none (λ k. places_in k (note j o Plain)) none
      (λ k. served_at k (note j o Plain)) (moves-none s.world) (λ k. sym (no-more _)) (λ k. refl) (λ k. refl));
  gives = gives-none s.peers t.peers peers;
  draws = draws-same s.words t.words words;
}

same-does : (j : Judged) (o : Outcome) (e : Entry) (s t : Scene) → e ≡ Plain → t ≡ s → Does j o e s t
same-does j o e s t plain same =
    subst (λ (x : Entry). Does j o x s t) (sym plain)
    (plain-does j o s t (ap (λ (x : Scene). x.world) same) (ap (λ (x : Scene). x.peers) same)
    (ap (λ (x : Scene). x.words) same))

-- ---- a change

placed-as : (b : Bool) (trader point k : ℕ)
    → only_of trader (cond b (point ∷ []) []) k ≡ cond b (only_of trader (point ∷ []) k) []
placed-as true trader point k = refl
placed-as false trader point k = no-more (nat_eq trader k)

module _ (x : Object) (o : Outcome) (s t : Scene) (point : ℕ)
    (m : Moves s.world t.world (only_of x.trader (cond (is_done o) (point ∷ []) [])) none
    (only_of x.trader (point ∷ [])))
  where
    change-moves : (c : Change)
        → Moves s.world t.world (λ k. places_in k (note (Call x (call.Change c)) o (Point x.trader point))) none
        (λ k. served_at k (note (Call x (call.Change c)) o (Point x.trader point)))
    change-moves c =
        moves-as s.world t.world (only_of x.trader (cond (is_done o) (point ∷ []) [])) none
        (only_of x.trader (point ∷ []))
        (λ k. places_in k (note (Call x (call.Change c)) o (Point x.trader point))) none
        (λ k. served_at k (note (Call x (call.Change c)) o (Point x.trader point))) m
        (λ k. placed-as (is_done o) x.trader point k) (λ k. refl) (λ k. refl)

    link-moves : (l : AddLink)
        → Moves s.world t.world (λ k. places_in k (note (Call x (call.AddLink l)) o (Point x.trader point))) none
        (λ k. served_at k (note (Call x (call.AddLink l)) o (Point x.trader point)))
    link-moves l =
        moves-as s.world t.world (only_of x.trader (cond (is_done o) (point ∷ []) [])) none
        (only_of x.trader (point ∷ []))
        (λ k. places_in k (note (Call x (call.AddLink l)) o (Point x.trader point))) none
        (λ k. served_at k (note (Call x (call.AddLink l)) o (Point x.trader point))) m
        (λ k. placed-as (is_done o) x.trader point k) (λ k. refl) (λ k. refl)

    asked-moves : (l : AddLink) (gave : Gave)
        → Moves s.world t.world (λ k. places_in k (note (Call x (call.AddLink l)) o (Asked x.trader point gave))) none
        (λ k. served_at k (note (Call x (call.AddLink l)) o (Asked x.trader point gave)))
    asked-moves l gave =
        moves-as s.world t.world (only_of x.trader (cond (is_done o) (point ∷ []) [])) none
        (only_of x.trader (point ∷ []))
        (λ k. places_in k (note (Call x (call.AddLink l)) o (Asked x.trader point gave))) none
        (λ k. served_at k (note (Call x (call.AddLink l)) o (Asked x.trader point gave))) m
        (λ k. placed-as (is_done o) x.trader point k) (λ k. refl) (λ k. refl)

-- what a peer gave, as the entry shows it
abbrev shown_gave : Gave → List PeerAnswer
shown_gave (Ok r) = Referred r ∷ []
shown_gave (Err f) = Missed f ∷ []

gave-asked : (trader point : ℕ) (gave : Gave) → gave_in (Asked trader point gave) ≡ shown_gave gave
gave-asked trader point (Ok r) = refl
gave-asked trader point (Err f) = refl

noted-adds : (target : Ior) (before after : PeersSeen) (gave : Gave)
    → IsNoted (λ r. Referred r) (RegisterOf target) before.calls after.calls before.faults after.faults gave
    → IfErr gave (λ f. is_memory f ≡ false) → Adds before.calls (shown_gave gave) after.calls
noted-adds target before after (Ok r) h answered = record {
  made = record { call = RegisterOf target; gave = Referred r } ∷ [];
  calls = h.calls;
  given = refl;
}
noted-adds target before after (Err fault.Memory) h answered = absurd (true≢false answered)
noted-adds target before after (Err fault.Wire) h answered = record {
  made = record { call = RegisterOf target; gave = Missed fault.Wire } ∷ [];
  calls = h.calls;
  given = refl;
}
noted-adds target before after (Err fault.Grammar) h answered = record {
  made = record { call = RegisterOf target; gave = Missed fault.Grammar } ∷ [];
  calls = h.calls;
  given = refl;
}
noted-adds target before after (Err fault.Exception) h answered = record {
  made = record { call = RegisterOf target; gave = Missed fault.Exception } ∷ [];
  calls = h.calls;
  given = refl;
}

module _ (others : List Accepted → Type 0) (later : Marks → Marks → Type 0) (home : Address) (x : Object) where
  change-does : (c : Change) (s t : Scene) (o : Outcome) (e : Entry)
      → ChangeComes others later s.world x.trader c o e t.world → t.peers ≡ s.peers → t.words ≡ s.words
      → Does (Call x (call.Change c)) o e s t
  change-does c s t o e h peers words =
      let point = length h.changes.seen.history in
      subst (λ (y : Entry). Does (Call x (call.Change c)) o y s t) (sym h.noted)
      (record {
        moves =
            change-moves x o s t point (changes-move others later s.world x.trader c o t.world h.changes) c;
        gives = gives-none s.peers t.peers peers;
        draws = draws-same s.words t.words words;
      })

  link-does : (l : AddLink) (register : Option Ior) (s t : Scene) (o : Outcome) (e : Entry)
      → ChangeComes others later s.world x.trader (link_change l register) o e t.world → t.peers ≡ s.peers
      → t.words ≡ s.words → Does (Call x (call.AddLink l)) o e s t
  link-does l register s t o e h peers words =
      let point = length h.changes.seen.history in
      subst (λ (y : Entry). Does (Call x (call.AddLink l)) o y s t) (sym h.noted)
      (record {
        moves =
            link-moves x o s t point
            (changes-move others later s.world x.trader (link_change l register) o t.world h.changes) l;
        gives = gives-none s.peers t.peers peers;
        draws = draws-same s.words t.words words;
      })

  asked-does : (l : AddLink) (s t : Scene) (o : Outcome) (e : Entry)
      → RegisterAsked others later s.world x.trader l s.peers t.peers o e t.world → t.words ≡ s.words
      → Does (Call x (call.AddLink l)) o e s t
  asked-does l s t o e h words =
      let changes = h.linked.changes in
      let point = length changes.seen.history in
      subst (λ (y : Entry). Does (Call x (call.AddLink l)) o y s t) (sym h.linked.noted)
      (record {
        moves =
            asked-moves x o s t point
            (changes-move others later s.world x.trader (link_change l (register_given h.gave)) o t.world changes) l
            h.gave;
        gives =
            subst (λ (g : List PeerAnswer). PeersGive s.peers g t.peers) (sym (gave-asked x.trader point h.gave))
            (gives-as s.peers t.peers (shown_gave h.gave)
            (noted-adds l.target s.peers t.peers h.gave h.asked h.answered)
            (register-counted (RegisterOf l.target) s.peers.calls t.peers.calls s.peers.faults t.peers.faults h.gave
            h.asked));
        draws = draws-same s.words t.words words;
      })

  add-link-does : (l : AddLink) (s t : Scene) (o : Outcome) (e : Entry) (where_to : Target)
      → AddLinkBy others later where_to home s.world x.trader l s.peers t.peers o e t.world → t.words ≡ s.words
      → Does (Call x (call.AddLink l)) o e s t
  add-link-does l s t o e (Inside j) h words = link-does l _ s t o e h.0 h.1 words
  add-link-does l s t o e Unreachable h words = link-does l None s t o e h.0 h.1 words
  add-link-does l s t o e Outside h words = asked-does l s t o e h words

  -- ---- a look

  look-does : (l : Look) (draft : Draft) (s t : Scene) (o : Outcome) (e : Entry)
      → LookComes others later home s.world s.desk x.trader l draft o e t.world t.desk → t.peers ≡ s.peers
      → t.words ≡ s.words → Does (Call x (call.Look l)) o e s t
  look-does l draft s t o e h peers words =
      let looks = h.looks in
      let point = seen-length others later s.world x.trader looks.seen looks.seen looks.meanwhile t.world looks.world in
      subst (λ (y : Entry). Does (Call x (call.Look l)) o y s t)
      (ap (λ (n : ℕ). Point x.trader n) point ∙ sym h.noted)
      (record {
        moves = seen-moves others later s.world x.trader t.world looks.seen looks.meanwhile looks.world;
        gives = gives-none s.peers t.peers peers;
        draws = draws-same s.words t.words words;
      })

  -- ---- names

  name-points : (o : Outcome) (names : List (List ℕ)) (trader point : ℕ) (asked : Option (Result Ior PeerFault)) (k : ℕ)
      → only_of trader (point ∷ []) k
      ≡ served_at k (note (Call x (call.Resolve names)) o (name_entry trader point asked))
  name-points o names trader point None k = refl
  name-points o names trader point (Some gave) k = refl

  name-marks : (trader point : ℕ) (asked : Option (Result Ior PeerFault)) (k : ℕ)
      → [] ≡ marks_in k (name_entry trader point asked)
  name-marks trader point None k = refl
  name-marks trader point (Some gave) k = refl

  name-gave : (trader point : ℕ) (asked : Option (Result Ior PeerFault))
      → answered_by asked ≡ gave_in (name_entry trader point asked)
  name-gave trader point None = refl
  name-gave trader point (Some (Ok r)) = refl
  name-gave trader point (Some (Err f)) = refl

  name-does : (names : List (List ℕ)) (s t : Scene) (o : Outcome) (e : Entry)
      → NameComes others later home s x.trader names o e t → Does (Call x (call.Resolve names)) o e s t
  name-does names s t o e h =
      let a = h.answer in
      let leads =
      resolves-leads others later home s.world s.peers.calls x.trader names a t.world t.peers.calls h.resolves in
      let y = name_entry x.trader a.point a.asked in
      subst (λ (z : Entry). Does (Call x (call.Resolve names)) o z s t) (sym h.noted)
      (record {
        moves =
            moves-as s.world t.world none none (only_of x.trader (a.point ∷ []))
            (λ k. places_in k (note (Call x (call.Resolve names)) o y)) (λ k. marks_in k y)
            (λ k. served_at k (note (Call x (call.Resolve names)) o y)) leads.moves (λ k. refl)
            (λ k. name-marks x.trader a.point a.asked k)
            (λ k. name-points o names x.trader a.point a.asked k);
        gives =
            gives-as s.peers t.peers (gave_in y)
            (subst (λ (g : List PeerAnswer). Adds s.peers.calls g t.peers.calls) (name-gave x.trader a.point a.asked)
            leads.adds) h.faults;
        draws = draws-same s.words t.words h.words;
      })

  -- ---- a query

  query-does : (q : Query) (draft : Draft) (s t : Scene) (o : Outcome) (e : Entry)
      → QueryComes others later home s x.trader q draft o e t → Does (Call x (call.Query q)) o e s t
  query-does q draft s t o e h =
      let travels =
      walks-travel others later home (course s.world s.words s.peers.calls) x.trader q h.items h.visit
      (course t.world t.words t.peers.calls) h.walk in
      subst (λ (y : Entry). Does (Call x (call.Query q)) o y s t) (sym h.noted)
      (record {
        moves = travels.moves;
        gives = gives-as s.peers t.peers _ travels.adds h.faults;
        draws = travels.draws;
      })

-- ---- memory ran out

unplaced : (w : List View) (j : Judged) (o : Outcome) (e : Entry) → is_done o ≡ false → NoMemoryEntry w j e → (k : ℕ)
    → [] ≡ places_in k (note j o e)
unplaced w j o e other (nothing none) k = sym (no-more _)
unplaced w j o e other unread k = refl
unplaced w j o e other (trace t) k = refl
unplaced w j o e other (link {x = x} gave) k =
    ap (λ (b : Bool). cond b (only_of x.trader (length (history_at w x.trader) ∷ []) k) []) (sym other)
unplaced w j o e other (name gave) k = refl

no_memory_answer-rise : (w u : List View) (j : Judged) (o : Outcome) (e : Entry) → NoMemoryEntry u j e → AllGrow w u → (k : ℕ)
    → NeverFalls (length (history_at w k)) (points_of k (items_of e)) (length (history_at u k))
    → NeverFalls (length (history_at w k)) (served_at k (note j o e)) (length (history_at u k))
no_memory_answer-rise w u j o e (nothing none) g k items = items
no_memory_answer-rise w u j o e unread g k items = items
no_memory_answer-rise w u j o e (trace t) g k items = items
no_memory_answer-rise w u j o e (link {x = x} gave) g k items = end-rise w u g x.trader k
no_memory_answer-rise w u j o e (name {x = x} gave) g k items = end-rise w u g x.trader k

module _ (others : List Accepted → Type 0) (later : Marks → Marks → Type 0) (home : Address) where
  pub no_memory_answer-does : (j : Judged) (s : Scene) (o : Outcome) (e : Entry) (t : Scene)
      → AnswersNoMemory others later home j s o e t → Does j o e s t
  no_memory_answer-does j s o e t h =
      let rests = goes-rests others later h.goes in
      let other : is_done o ≡ false = ap is_done h.outcome in
      record {
        moves = record {
          grow = rests.grow;
          own = λ k.
              rests.own k
              ∙ (sym (append-nil (own_at s.world k))
              ∙ ap (λ (y : List ℕ). own_at s.world k ++ y) (unplaced t.world j o e other h.entry k));
          own_marks = h.marks;
          rise = λ k. no_memory_answer-rise s.world t.world j o e h.entry rests.grow k (h.points k);
        };
        gives = h.peers;
        draws = h.draws;
      }

-- ---- whatever it asks for

module _ (others : List Accepted → Type 0) (later : Marks → Marks → Type 0) (home : Address) where
  call-does : (x : Object) (c : Asking) (draft : Draft) (s t : Scene) (o : Outcome) (e : Entry)
      → OutcomeOfRequest others later home (Call x c) draft s o e t → Does (Call x c) o e s t
  call-does x (call.Change c) draft s t o e h =
      change-does others later home x c s t o e h.0 (ap (λ (y : Scene). y.peers) h.1) (ap (λ (y : Scene). y.words) h.1)
  call-does x (call.Look l) draft s t o e h = look-does others later home x l draft s t o e h.0 h.1 h.2
  call-does x (call.AddLink l) draft s t o e h =
      add-link-does others later home x l s t o e (target_of home s.world l.target) h.0 h.2
  call-does x (call.Iter i) draft s t o e h =
      subst (λ (y : Entry). Does (Call x (call.Iter i)) o y s t) (sym h.0.noted)
      (plain-does (Call x (call.Iter i)) o s t (ap (λ (y : Scene). y.world) h.1) (ap (λ (y : Scene). y.peers) h.1)
      (ap (λ (y : Scene). y.words) h.1))
  call-does x (call.IsA id) draft s t o e h = same-does (Call x (call.IsA id)) o e s t h.1 h.2
  call-does x call.NonExistent draft s t o e h = same-does (Call x call.NonExistent) o e s t h.1 h.2
  call-does x (call.Query q) draft s t o e h = query-does others later home x q draft s t o e h
  call-does x (call.Resolve names) draft s t o e h = name-does others later home x names s t o e h

  comes-does : (j : Judged) (draft : Draft) (s t : Scene) (o : Outcome) (e : Entry)
      → OutcomeOfRequest others later home j draft s o e t → Does j o e s t
  comes-does (Refused r) draft s t o e h = same-does (Refused r) o e s t h.1 h.2
  comes-does (Call x c) draft s t o e h = call-does x c draft s t o e h

  pub answers-do : (j : Judged) (draft : Draft) (s t : Scene) (o : Outcome) (e : Entry)
      → AnswersRequest others later home j draft s o e t → Does j o e s t
  answers-do j draft s t o e (inl h) = comes-does j draft s t o e h
  answers-do j draft s t o e (inr h) = no_memory_answer-does others later home j s o e t h
