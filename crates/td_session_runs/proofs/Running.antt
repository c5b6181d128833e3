-- What a run of turns leaves, turn by turn.
use Rattle.std.proofs.Common.{◌≡◌, ℕ, zero, suc, ◌<◌, ◌≤◌, true, List, [], ◌∷◌, ◌++◌, length, Option, None, Some}
use Rattle.std.proofs.Common.{append-nil, slice_get, refl, sym, ap, subst, ◌∙◌, arith}
use Rattle.std.proofs.Common.{false, inl, inr, true≢false}
use Rattle.td_cdr.specs.Marks.{Marks}
use Rattle.td_cdr.specs.Writing.{Draft}
use Rattle.td_fed.proofs.Moving.{draws-after, draws-none}
use Rattle.td_fed.proofs.Rising.{flat-append}
use Rattle.td_fed.specs.Trails.{DrawsOn}
use Rattle.td_lookup.specs.Querying.{QueryComes}
use Rattle.td_lookup.specs.Scenes.{Scene}
use Rattle.td_lookup.specs.Answering.{is_no_memory}
use Rattle.td_lookup.specs.NoMemory.{PeersGive, IsWalkSoFar, gave_in}
use Rattle.td_ops.specs.declared.call.Call.TheVariants as call
use Rattle.td_ops.specs.declared.call.Query.{Query}
use Rattle.td_ops.specs.declared.outcome.Outcome.{Outcome}
use Rattle.td_register.specs.Entries.{entry}
use Rattle.td_register.specs.declared.history.Accepted.{Accepted}
use Rattle.td_servant.specs.declared.entry.Entry.{Entry}
use Rattle.td_servant.specs.declared.judging.Judged.TheVariants.{Call}
use Rattle.td_servant.specs.declared.judging.Judged.{Judged}
use Rattle.td_servant.specs.declared.objects.Object.{Object}
use Rattle.td_dispatch.specs.Requests.{AnswersRequest}
use Rattle.td_trader.specs.Worlds.{history_at}
use Rattle.td_session_runs.proofs.Acting.{Does, answers-do, gives-none, gives-on}
use Rattle.td_session_runs.proofs.Growing.{grow-legal, grow-stands}
use Rattle.td_session_runs.proofs.Moving.{Moves, moves-as, moves-none, moves-on}
use Rattle.td_session_runs.proofs.Refusing.{refused-keeps, no_memory_outcome-keeps}
use Rattle.td_session_runs.proofs.Rising.{rises-above}
use Rattle.td_session_runs.proofs.Standing.{StandsHere, answer-stands}
use Rattle.td_session_runs.specs.Journals.{all_gave, all_marks_in, all_places_in, all_served_at, is_accepted}
use Rattle.td_session_runs.specs.Journals.{is_refusal}
use Rattle.td_session_runs.specs.Journals.{marks_in, places_in, served_at}
use Rattle.td_session_runs.specs.Laws.{AcceptedStand, KeepsIterators, KeepsAll, NoneIsInvented, OwnMarksAreSearches}
use Rattle.td_session_runs.specs.Laws.{OwnPlacesAreAccepted, PointsRise, RefusedChangeNothing, SeenStaysLegal, Stands}
use Rattle.td_session_runs.specs.Laws.{QueriesAreWalks, QueriesBeginWalks, RequestsShowPeers, NoMemoryChangesNothing}
use Rattle.td_session_runs.specs.Laws.{WordsAreDrawn}
use Rattle.td_session_runs.specs.Turns.{IsTurn, ServedRequest, Run, ServesRequest, Turn, cancel, locate, noted_in}
use Rattle.td_session_runs.specs.Turns.{noted_of, request}
use Rattle.td_walk.specs.Peering.{PeerAnswer}
use Rattle.td_walk.specs.declared.trace.Address.{Address}
use Rattle.td_query_walk.proofs.Counting.{counts-up}
use Rattle.td_query_walk.specs.Beginnings.{whole}

-- what stands at a place lies within the list
stands-within : (h : List Accepted) (p : ℕ) (e : Accepted) → slice_get h p ≡ Some e → p < length h
stands-within [] p e is = absurd (let bad : ⊥ = cc in bad)
stands-within (x ∷ h) zero e is = omega arith
stands-within (x ∷ h) (suc p) e is = let rest = stands-within h p e is in omega (arith, rest)

pub record Effect (s : Scene) (ns : List ServedRequest) (t : Scene) : Type 0 where
  pub moves : Moves s.world t.world (λ k. all_places_in k ns) (λ k. all_marks_in k ns) (λ k. all_served_at k ns)
  pub gives : PeersGive s.peers (all_gave ns) t.peers
  pub draws : DrawsOn s.words t.words

effect-none : (s : Scene) → Effect s [] s
effect-none s = record {
  moves = moves-none s.world;
  gives = gives-none s.peers s.peers refl;
  draws = draws-none s.words;
}

effect-same : (s t : Scene) → t ≡ s → Effect s [] t
effect-same s t same = subst (λ (x : Scene). Effect s [] x) (sym same) (effect-none s)

effect-on : (s m u : Scene) (ns ms : List ServedRequest) → Effect s ns m → Effect m ms u → Effect s (ns ++ ms) u
effect-on s m u ns ms p q = record {
  moves =
      moves-as s.world u.world (λ k. all_places_in k ns ++ all_places_in k ms)
      (λ k. all_marks_in k ns ++ all_marks_in k ms) (λ k. all_served_at k ns ++ all_served_at k ms)
      (λ k. all_places_in k (ns ++ ms)) (λ k. all_marks_in k (ns ++ ms)) (λ k. all_served_at k (ns ++ ms))
      (moves-on s.world m.world u.world (λ k. all_places_in k ns) (λ k. all_marks_in k ns)
      (λ k. all_served_at k ns) (λ k. all_places_in k ms) (λ k. all_marks_in k ms) (λ k. all_served_at k ms) p.moves
      q.moves) (λ k. sym (flat-append (places_in k) ns ms))
      (λ k. sym (flat-append (λ (n : ServedRequest). marks_in k n.entry) ns ms))
      (λ k. sym (flat-append (served_at k) ns ms));
  gives =
      subst (λ (g : List PeerAnswer). PeersGive s.peers g u.peers)
      (sym (flat-append (λ (n : ServedRequest). gave_in n.entry) ns ms))
      (gives-on s.peers m.peers u.peers (all_gave ns) (all_gave ms) p.gives q.gives);
  draws = draws-after s.words m.words u.words p.draws q.draws;
}

-- of one Request
does-effect : (s t : Scene) (n : ServedRequest) → Does n.judged n.outcome n.entry s t → Effect s (n ∷ []) t
does-effect s t n d = record {
  moves =
      moves-as s.world t.world (λ k. places_in k n) (λ k. marks_in k n.entry) (λ k. served_at k n)
      (λ k. all_places_in k (n ∷ [])) (λ k. all_marks_in k (n ∷ [])) (λ k. all_served_at k (n ∷ [])) d.moves
      (λ k. sym (append-nil (places_in k n))) (λ k. sym (append-nil (marks_in k n.entry)))
      (λ k. sym (append-nil (served_at k n)));
  gives = subst (λ (g : List PeerAnswer). PeersGive s.peers g t.peers) (sym (append-nil (gave_in n.entry))) d.gives;
  draws = d.draws;
}

module _ (others : List Accepted → Type 0) (later : Marks → Marks → Type 0) (home : Address) where
  request-does : (s : Scene) (t : Turn) → (h : ServesRequest others later home s t)
      → Does h.noted.judged h.noted.outcome h.noted.entry s t.after
  request-does s t h =
      answers-do others later home h.noted.judged h.served.draft s t.after h.noted.outcome h.noted.entry
      h.served.answers

  turn-effect : (s : Scene) (t : Turn) → IsTurn others later home s t → Effect s (noted_in t.request) t.after
  turn-effect s t (request h) =
      subst (λ (o : Option ServedRequest). Effect s (noted_in o) t.after) (sym h.request)
      (does-effect s t.after h.noted (request-does s t h))
  turn-effect s t (locate h) =
      subst (λ (o : Option ServedRequest). Effect s (noted_in o) t.after) (sym h.request) (effect-same s t.after h.kept)
  turn-effect s t (cancel h) =
      subst (λ (o : Option ServedRequest). Effect s (noted_in o) t.after) (sym h.request) (effect-same s t.after h.kept)

  run-effect : (s : Scene) (ts : List Turn) (u : Scene) → Run others later home s ts u → Effect s (noted_of ts) u
  run-effect s [] u h = effect-same s u h
  run-effect s (t ∷ ts) u h =
      effect-on s t.after u (noted_in t.request) (noted_of ts) (turn-effect s t h.0) (run-effect t.after ts u h.1)

  -- ---- one of a run

  -- the Request of a turn
  record IsServed (s : Scene) (n : ServedRequest) (t : Scene) : Type 0 where
    served : Does n.judged n.outcome n.entry s t
    stands : is_accepted n ≡ true → StandsHere t.world n.judged n.outcome n.entry
    refused : is_refusal n.outcome ≡ true → KeepsAll others later s t
    no_memory_outcome : is_no_memory n.outcome ≡ true → KeepsIterators others later s (λ k. marks_in k n.entry) t

  same-noted : (o : Option ServedRequest) (n m : ServedRequest) → o ≡ Some n → o ≡ Some m → n ≡ m
  same-noted o n m a b = let same : Some n ≡ Some m = sym a ∙ b in cc

  request-served : (s : Scene) (t : Turn) → (h : ServesRequest others later home s t)
      → IsServed s h.noted t.after
  request-served s t h =
      let n = h.noted in
      let does = request-does s t h in
      record {
        served = does;
        stands = λ is.
            answer-stands others later home n.judged h.served.draft s t.after n.outcome n.entry h.served.answers is;
        refused = λ is.
            refused-keeps others later home n.judged h.served.draft s t.after n.outcome n.entry does h.served.answers
            is;
        no_memory_outcome = λ is.
            no_memory_outcome-keeps others later home n.judged h.served.draft s t.after n.outcome n.entry does h.served.answers
            is;
      }

  turn-served : (s : Scene) (t : Turn) (n : ServedRequest) → IsTurn others later home s t → t.request ≡ Some n
      → IsServed s n t.after
  turn-served s t n (request h) is =
      subst (λ (m : ServedRequest). IsServed s m t.after) (same-noted t.request h.noted n h.request is)
      (request-served s t h)
  turn-served s t n (locate h) is = absurd (let bad : ◌≡◌ {A = Option ServedRequest} None (Some n) = sym h.request ∙ is in cc)
  turn-served s t n (cancel h) is = absurd (let bad : ◌≡◌ {A = Option ServedRequest} None (Some n) = sym h.request ∙ is in cc)

  -- ---- a query

  -- it was answered so
  abbrev Walked : Scene → (trader : ℕ) → Query → Outcome → Entry → Scene → Type 0
  Walked s trader q o e t = (draft : Draft) × QueryComes others later home s trader q draft o e t

  query-walks : (j : Judged) (draft : Draft) (s t : Scene) (o : Outcome) (e : Entry)
      → AnswersRequest others later home j draft s o e t → (x : Object) (q : Query) → j ≡ Call x (call.Query q)
      → is_no_memory o ≡ false → Walked s x.trader q o e t
  query-walks j draft s t o e h x q is content =
      by-answer (subst (λ (y : Judged). AnswersRequest others later home y draft s o e t) is h)
    where
      by-answer : AnswersRequest others later home (Call x (call.Query q)) draft s o e t → Walked s x.trader q o e t
      by-answer (inl a) = (draft, a)
      by-answer (inr a) = absurd (true≢false (sym (ap is_no_memory a.outcome) ∙ content))

  turn-walks : (s : Scene) (t : Turn) (n : ServedRequest) (x : Object) (q : Query) → IsTurn others later home s t
      → t.request ≡ Some n → n.judged ≡ Call x (call.Query q) → is_no_memory n.outcome ≡ false
      → Walked s x.trader q n.outcome n.entry t.after
  turn-walks s t n x q (request h) is asks content =
      let same : h.noted ≡ n = same-noted t.request h.noted n h.request is in
      subst (λ (m : ServedRequest). Walked s x.trader q m.outcome m.entry t.after) same
      (query-walks h.noted.judged h.served.draft s t.after h.noted.outcome h.noted.entry h.served.answers x q
      (ap (λ (m : ServedRequest). m.judged) same ∙ asks) (ap (λ (m : ServedRequest). is_no_memory m.outcome) same ∙ content))
  turn-walks s t n x q (locate h) is asks content =
      absurd (let bad : ◌≡◌ {A = Option ServedRequest} None (Some n) = sym h.request ∙ is in cc)
  turn-walks s t n x q (cancel h) is asks content =
      absurd (let bad : ◌≡◌ {A = Option ServedRequest} None (Some n) = sym h.request ∙ is in cc)

  -- whatever it was answered with, the beginning of a walk is noted
  query-begins : (j : Judged) (draft : Draft) (s t : Scene) (o : Outcome) (e : Entry)
      → AnswersRequest others later home j draft s o e t → (x : Object) (q : Query) → j ≡ Call x (call.Query q)
      → IsWalkSoFar others later home (Call x (call.Query q)) s e t
  query-begins j draft s t o e h x q is =
      by-answer (subst (λ (y : Judged). AnswersRequest others later home y draft s o e t) is h)
    where
      by-answer : AnswersRequest others later home (Call x (call.Query q)) draft s o e t
          → IsWalkSoFar others later home (Call x (call.Query q)) s e t
      by-answer (inl a) =
          subst (λ (n : Entry). IsWalkSoFar others later home (Call x (call.Query q)) s n t) (sym a.noted)
          (whole a.walk)
      by-answer (inr a) = a.walk

  turn-begins : (s : Scene) (t : Turn) (n : ServedRequest) (x : Object) (q : Query) → IsTurn others later home s t
      → t.request ≡ Some n → n.judged ≡ Call x (call.Query q)
      → IsWalkSoFar others later home (Call x (call.Query q)) s n.entry t.after
  turn-begins s t n x q (request h) is asks =
      let same : h.noted ≡ n = same-noted t.request h.noted n h.request is in
      subst (λ (m : ServedRequest). IsWalkSoFar others later home (Call x (call.Query q)) s m.entry t.after) same
      (query-begins h.noted.judged h.served.draft s t.after h.noted.outcome h.noted.entry h.served.answers x q
      (ap (λ (m : ServedRequest). m.judged) same ∙ asks))
  turn-begins s t n x q (locate h) is asks =
      absurd (let bad : ◌≡◌ {A = Option ServedRequest} None (Some n) = sym h.request ∙ is in cc)
  turn-begins s t n x q (cancel h) is asks =
      absurd (let bad : ◌≡◌ {A = Option ServedRequest} None (Some n) = sym h.request ∙ is in cc)

  -- ---- an accepted change, and what comes behind it

  stands-behind : (m u : Scene) (n : ServedRequest) (rest : List ServedRequest) → StandsHere m.world n.judged n.outcome n.entry
      → Effect m rest u → Stands u.world n rest
  stands-behind m u n rest h effect =
      let less = stands-within (history_at m.world h.trader) h.point (entry h.change h.content) h.stands in
      record {
        trader = h.trader;
        point = h.point;
        change = h.change;
        made = h.made;
        content = h.content;
        outcome = h.outcome;
        stands = grow-stands m.world u.world effect.moves.grow h.trader h.point h.change h.content h.stands;
        later =
            rises-above h.point (length (history_at m.world h.trader)) (all_served_at h.trader rest)
            (length (history_at u.world h.trader)) less (effect.moves.rise h.trader);
      }

  -- a list that begins with what one turn notes has this Request in front of the rest
  data Parts (o : Option ServedRequest) (ns : List ServedRequest) : List ServedRequest → ServedRequest → List ServedRequest → Type 0 where
    here : {n : ServedRequest} {rest : List ServedRequest} → o ≡ Some n → ns ≡ rest → Parts o ns [] n rest
    further : {before rest : List ServedRequest} {n : ServedRequest} (more : List ServedRequest) → ns ≡ more ++ n ∷ rest
        → Parts o ns before n rest

  parts : (o : Option ServedRequest) (ns before rest : List ServedRequest) (n : ServedRequest) → noted_in o ++ ns ≡ before ++ n ∷ rest
      → Parts o ns before n rest
  parts None ns before rest n e = further before e
  parts (Some m) ns [] rest n e =
      let first : m ≡ n = cc in
      let behind : ns ≡ rest = cc in
      here (ap (λ (x : ServedRequest). Some x) first) behind
  parts (Some m) ns (b ∷ before) rest n e =
      let behind : ns ≡ before ++ n ∷ rest = cc in
      further before behind

  by-parts : (s : Scene) (t : Turn) (ts : List Turn) (u : Scene) → Run others later home s (t ∷ ts) u
      → (before rest : List ServedRequest) (n : ServedRequest) → is_accepted n ≡ true
      → ((more : List ServedRequest) → noted_of ts ≡ more ++ n ∷ rest → Stands u.world n rest)
      → Parts t.request (noted_of ts) before n rest → Stands u.world n rest
  by-parts s t ts u h before rest n is below (here first behind) =
      stands-behind t.after u n rest ((turn-served s t n h.0 first).stands is)
      (subst (λ (ns : List ServedRequest). Effect t.after ns u) behind (run-effect t.after ts u h.1))
  by-parts s t ts u h before rest n is below (further more behind) = below more behind

  run-stands : (s : Scene) (ts : List Turn) (u : Scene) → Run others later home s ts u → (before rest : List ServedRequest)
      (n : ServedRequest) → noted_of ts ≡ before ++ n ∷ rest → is_accepted n ≡ true → Stands u.world n rest
  run-stands s [] u h [] rest n e is = absurd (let bad : ⊥ = cc in bad)
  run-stands s [] u h (b ∷ before) rest n e is = absurd (let bad : ⊥ = cc in bad)
  run-stands s (t ∷ ts) u h before rest n e is =
      by-parts s t ts u h before rest n is
      (λ more behind. run-stands t.after ts u h.1 more rest n behind is)
      (parts t.request (noted_of ts) before rest n e)

-- ---- the laws

module _ (others : List Accepted → Type 0) (later : Marks → Marks → Type 0) where
  pub points-rise : PointsRise others later
  points-rise home s u ts h k = (run-effect others later home s ts u h).moves.rise k

  pub own-accepted : OwnPlacesAreAccepted others later
  own-accepted home s u ts h k = (run-effect others later home s ts u h).moves.own k

  pub accepted-stand : AcceptedStand others later
  accepted-stand home s u ts h before rest n e is = run-stands others later home s ts u h before rest n e is

  pub own-searches : OwnMarksAreSearches others later
  own-searches home s u ts h k = (run-effect others later home s ts u h).moves.own_marks k

  pub seen-legal : SeenStaysLegal others later
  seen-legal home s u ts h =
      let grow = (run-effect others later home s ts u h).moves.grow in
      record { grow = grow; legal = λ k legal. grow-legal s.world u.world grow k legal }

  pub none-invented : NoneIsInvented others later
  none-invented home s u ts h = (run-effect others later home s ts u h).gives

  -- and the count of faults never falls
  pub faults-rise : (home : Address) (s u : Scene) (ts : List Turn) → Run others later home s ts u
      → s.peers.faults ≤ u.peers.faults
  faults-rise home s u ts h =
      let gives = (run-effect others later home s ts u h).gives in
      counts-up gives.made s.peers.faults u.peers.faults gives.count

  pub peers-shown : RequestsShowPeers others later
  peers-shown home s t n h is = (turn-served others later home s t n h is).served.gives

  pub words-drawn : WordsAreDrawn others later
  words-drawn home s u ts h = (run-effect others later home s ts u h).draws

  pub refused-nothing : RefusedChangeNothing others later
  refused-nothing home s t n h is refusal = (turn-served others later home s t n h is).refused refusal

  pub no_memory_outcome-nothing : NoMemoryChangesNothing others later
  no_memory_outcome-nothing home s t n h is wants = (turn-served others later home s t n h is).no_memory_outcome wants

  pub queries-walk : QueriesAreWalks others later
  queries-walk home s t n x q h is asks content = turn-walks others later home s t n x q h is asks content

  pub queries-begin : QueriesBeginWalks others later
  queries-begin home s t n x q h is asks = turn-begins others later home s t n x q h is asks
