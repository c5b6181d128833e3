-- How many events an Ask may still have, where each trader has two links at most, no offer asks anything, and queries
-- go over five links at most.
use Rattle.std.proofs.Common.{◌≡◌, ℕ, zero, suc, ◌+◌, ◌-◌, ◌<◌, ◌≤◌, min, Bool, true, false, List, [], ◌∷◌, ◌++◌}
use Rattle.std.proofs.Common.{length, slice_get, slice_set, Option, None, Some, Result, Ok, Err, refl, sym, ap, subst}
use Rattle.std.proofs.Common.{◌∙◌, arith, unwrap_or, nat_lt, length-append}
use Rattle.std.proofs.lemmas.Bool.Decides.{nat_tests}
use Rattle.std.specs.List.{AllByRecursion}
use Rattle.td_typecode.specs.declared.code.Any.{Any}
use Rattle.td_typecode.specs.declared.reference.Ior.{Ior}
use Rattle.td_cdr.specs.Marks.{Marks}
use Rattle.td_changes.specs.declared.bounds.Bounds.{Bounds}
use Rattle.td_log_laws.proofs.Plain.{AsksLinks, next-links}
use Rattle.td_log_laws.specs.Short.{ArePlain, IsStaticOffer, IsSparse, SparseTrader}
use Rattle.td_net.specs.Worlds.{waiting_call, World, Becomes, VisitProgress, EventResult, Refused, Moved, Closing}
use Rattle.td_net.specs.Worlds.{answer_at, answer_by}
use Rattle.td_net.specs.Worlds.{answer_in_stage, ask_at, begun_by, deliver_at, deliver_in, deliver_to, deliver_call}
use Rattle.td_net.specs.Worlds.{delivery_of, forward_by, hand_answer, inside, open_call, placed_by, resume_caller}
use Rattle.td_net.specs.Worlds.{resumed_in, sent}
use Rattle.td_net.specs.Worlds.{settle, settle_by, step_of, value_at, value_in, with_begun, visit_answer, ended_call}
use Rattle.td_net.specs.Worlds.{fault_in}
use Rattle.td_net.specs.Worlds.{fault_of}
use Rattle.td_net_laws.proofs.Places.{get-last}
use Rattle.td_net.specs.declared.call.Call.{Call}
use Rattle.td_net.specs.declared.call.Stage.{Stage}
use Rattle.td_net.specs.declared.call.Stage.TheVariants.{Sent, Running, Evaluating, Waiting, Ended}
use Rattle.td_net.specs.declared.call.QuestionStep.{QuestionStep}
use Rattle.td_net.specs.declared.call.QuestionStep.TheVariants as step
use Rattle.td_net.specs.declared.event.Event.{Event}
use Rattle.td_net.specs.declared.event.Event.TheVariants.{Change as Changed, Ask, Deliver, Value, Answer, Lose}
use Rattle.td_net.specs.declared.advancing.Pending.{Pending}
use Rattle.td_net.specs.declared.advancing.Pending.TheVariants as pending
use Rattle.td_ops.specs.declared.call.Query.{Query}
use Rattle.td_ops.specs.declared.outcome.Outcome.{Outcome}
use Rattle.td_policy.specs.Stated.{stated}
use Rattle.td_policy.specs.declared.fault.PolicyFault.{PolicyFault}
use Rattle.td_policy.specs.declared.stated.Stated.{Stated}
use Rattle.td_register.specs.Causes.{Cause}
use Rattle.td_register.specs.Stores.{Store}
use Rattle.td_store.specs.Candidates.{is_candidate}
use Rattle.td_store.specs.declared.local.Local.{Local}
use Rattle.td_store.specs.declared.record.LinkRecord.{LinkRecord}
use Rattle.td_trader.proofs.Taken.{taken_are_read}
use Rattle.td_trader.specs.Beginning.{IsRefusedQuery, begin_along, begin_here, begin_of, begin_unless, repeated_in}
use Rattle.td_trader.specs.PlainTraders.{PlainTrader, begin_at, store_of}
use Rattle.td_trader.specs.Queries.{parts_of, path_link, refusal}
use Rattle.td_trader.specs.Serving.{local_of}
use Rattle.td_trader.specs.declared.begin.Begin.{Begin}
use Rattle.td_trader.specs.declared.begin.Begin.TheVariants as begin
use Rattle.td_session_runs_laws.proofs.Parts.{each-at, each-front, each-set}
use Rattle.td_types.proofs.Sequences.{each-append, each-filter}
use Rattle.td_visit.specs.Standing.{FrameState}
use Rattle.td_walk.specs.SubQueries.{has_hops, link_query}
use Rattle.td_walk.specs.Visits.{next_of}
use Rattle.td_walk.specs.declared.answer.Next.{Next}
use Rattle.td_walk.specs.declared.answer.Next.TheVariants.{Done, Evaluate, Forward}
use Rattle.td_walk.specs.declared.answer.StepAnswer.{StepAnswer}
use Rattle.td_walk.specs.declared.answer.StepAnswer.TheVariants as given
use Rattle.td_walk.specs.declared.trace.Visit.{Visit}
use Rattle.td_walk.specs.declared.trace.Visit.TheVariants as visit
use Rattle.td_query_walk.proofs.Passed.{over_a_link}
use Rattle.td_query_walk.specs.Reach.{turns_of}
use Rattle.td_query_walk.specs.Walks.{answer_in, no_offers}

-- ---- weights: how many events may come of a call

-- a call that was sent, whose query may go over so many links: it is delivered, answered, and asks two others
abbrev pub sent_weight : (hops : ℕ) → ℕ
sent_weight zero = 2
sent_weight (suc h) = 2 + (sent_weight h + sent_weight h)

-- so many questions were asked of two
abbrev pub left_weight : (asked : ℕ) → (each : ℕ) → ℕ
left_weight zero each = each + each
left_weight (suc zero) each = each
left_weight (suc (suc n)) each = 0

-- what a query states, or the default
abbrev hops_by : Result Stated PolicyFault → ℕ
hops_by (Ok s) = unwrap_or s.hops 5
hops_by (Err f) = 0

abbrev pub hops_in : Query → ℕ
hops_in q = hops_by (stated q.policies)

abbrev unhanded : (was_handed : Bool) → ℕ
unhanded true = 0
unhanded false = 1

-- each question of a search that may go over so many links
abbrev pub each_of : (hops : ℕ) → ℕ
each_of zero = 0
each_of (suc h) = sent_weight h

abbrev frame_weight : FrameState → ℕ
frame_weight f = left_weight (suc (length f.answers)) (each_of f.local.effective.hops)

abbrev stage_weight : Query → (was_handed : Bool) → Stage → ℕ
stage_weight q h Sent = sent_weight (hops_in q)
stage_weight q h Running = unhanded h
stage_weight q h (Evaluating f) = unhanded h
stage_weight q h (Waiting f d) = unhanded h + frame_weight f
stage_weight q h (Ended v) = unhanded h

abbrev pub weight : Call → ℕ
weight k = stage_weight k.query k.handed k.stage

abbrev pub total : List Call → ℕ
total [] = 0
total (k ∷ ks) = weight k + total ks

-- ---- sums

total-set : (calls : List Call) (c : ℕ) (old k : Call) → slice_get calls c ≡ Some old
    → total (slice_set calls c k) + weight old ≡ total calls + weight k
total-set [] c old k is = absurd cc
total-set (x ∷ xs) zero old k is =
    let same : weight x ≡ weight old = (let e : x ≡ old = cc in ap weight e) in
    omega (arith, same)
total-set (x ∷ xs) (suc c) old k is = let later = total-set xs c old k is in omega (arith, later)

total-more : (calls : List Call) (k : Call) → total (calls ++ k ∷ []) ≡ total calls + weight k
total-more [] k = omega arith
total-more (x ∷ xs) k = let later = total-more xs k in omega (arith, later)

unhanded-few : (h : Bool) → unhanded h ≤ 1
unhanded-few true = omega arith
unhanded-few false = omega arith

sent-least : (h : ℕ) → 2 ≤ sent_weight h
sent-least zero = omega arith
sent-least (suc h) = omega arith

sent-grows : (h g : ℕ) → h ≤ g → sent_weight h ≤ sent_weight g
sent-grows zero g le = sent-least g
sent-grows (suc h) zero le = absurd (let no : ⊥ = omega (arith, le) in no)
sent-grows (suc h) (suc g) le = let later = sent-grows h g (omega (arith, le)) in omega (arith, later)

-- of two questions one more is asked
left-step : (n each : ℕ) → n < 2 → left_weight (suc n) each + each ≤ left_weight n each
left-step zero each low = omega arith
left-step (suc zero) each low = omega arith
left-step (suc (suc n)) each low = absurd (let no : ⊥ = omega (arith, low) in no)

left-falls : (n m each : ℕ) → n ≤ m → left_weight m each ≤ left_weight n each
left-falls zero zero each le = omega arith
left-falls zero (suc zero) each le = omega arith
left-falls zero (suc (suc m)) each le = omega arith
left-falls (suc zero) zero each le = absurd (let no : ⊥ = omega (arith, le) in no)
left-falls (suc zero) (suc zero) each le = omega arith
left-falls (suc zero) (suc (suc m)) each le = omega arith
left-falls (suc (suc n)) zero each le = absurd (let no : ⊥ = omega (arith, le) in no)
left-falls (suc (suc n)) (suc zero) each le = absurd (let no : ⊥ = omega (arith, le) in no)
left-falls (suc (suc n)) (suc (suc m)) each le = omega arith

-- two questions of a search that may go over so many links
left-sent : (h : ℕ) → 2 + left_weight 0 (each_of h) ≤ sent_weight h
left-sent zero = omega arith
left-sent (suc h) = omega arith

each-covers : (h g : ℕ) → 0 < h → g ≤ h - 1 → sent_weight g ≤ each_of h
each-covers zero g some low = absurd (let no : ⊥ = omega (arith, some) in no)
each-covers (suc h) g some low = sent-grows g h (omega (arith, low))

-- ---- what is asked of traders and queries

-- it begins where it is asked
abbrev pub NoStart : Query → Type 0
NoStart q = (s : Stated) → stated q.policies ≡ Ok s → s.start ≡ None

pub record SparseLocal (l : Local) : Type 0 where
  pub path : l.path ≡ None
  pub candidates : ArePlain l.candidates
  pub links : length l.links ≤ 2

-- some trader refused the query so
abbrev pub RefusedSo : Query → Outcome → Type 0
RefusedSo q o = (bounds : Bounds) × (s : Store) × (m : Marks) × IsRefusedQuery bounds s m q o

-- what a query has ended with
abbrev pub EndedSo : Query → Visit → Type 0
EndedSo q (visit.Refused o) = RefusedSo q o
EndedSo q (visit.Answered a max_list) = Unit {0}

abbrev pub SparseStage : Query → Stage → Type 0
SparseStage q Sent = NoStart q
SparseStage q Running = Unit {0}
SparseStage q (Evaluating f) = ⊥
SparseStage q (Waiting f d) = SparseLocal f.local
SparseStage q (Ended v) = EndedSo q v

abbrev pub SparseCall : Call → Type 0
SparseCall k = SparseStage k.query k.stage

pub record SparseWorld (w : World) : Type 0 where
  pub traders : AllByRecursion SparseTrader w.traders
  pub calls : AllByRecursion SparseCall w.calls

-- ---- a sub-query

under : (l : Local) (wanted : Option ℕ) (link : LinkRecord) (r : Result Stated PolicyFault)
    → stated (link_query l wanted link).policies ≡ r → hops_by r ≤ l.effective.hops - 1
under l wanted link (Ok s) e =
    let over = over_a_link l wanted link s e in
    let same : unwrap_or s.hops 5 ≡ l.effective.hops - 1 = ap (λ (o : Option ℕ). unwrap_or o 5) over.hops in
    omega (arith, same)
under l wanted link (Err f) e = omega arith

sub-hops : (l : Local) (wanted : Option ℕ) (link : LinkRecord)
    → hops_in (link_query l wanted link) ≤ l.effective.hops - 1
sub-hops l wanted link = under l wanted link (stated (link_query l wanted link).policies) refl

sub-starts : (l : Local) (wanted : Option ℕ) (link : LinkRecord) → NoStart (link_query l wanted link)
sub-starts l wanted link s e = (over_a_link l wanted link s e).start

some-hops : (l : Local) → has_hops l ≡ true → 0 < l.effective.hops
some-hops l e = grind (arith, nat_tests, e)

-- ---- where a visit stands that goes on

-- what it waits for, if for anything, is a trader that a link leads to
abbrev Asks : Local → List StepAnswer → Pending → Type 0
Asks l rs pending.Nothing = Unit {0}
Asks l rs pending.Value = ⊥
Asks l rs (pending.SubQuery target q) =
    (length l.links ≤ length rs → ⊥) × ((link : LinkRecord) × (wanted : Option ℕ) × (q ≡ link_query l wanted link)
    × (has_hops l ≡ true))

record Stays (l : Local) (n : ℕ) (s : VisitProgress) : Type 0 where
  longer : n ≤ length s.answers
  asks : Asks l s.answers s.pending

module _ (l : Local) (at : Ior → Option ℕ) (go : List StepAnswer → List QuestionStep → VisitProgress)
    (later : (rs : List StepAnswer) (ss : List QuestionStep) → Stays l (length rs) (go rs ss)) where
  forward-stays : (rs : List StepAnswer) (ss : List QuestionStep) (target : Ior) (q : Query)
      → AsksLinks l (length l.links ≤ length rs) (Forward target q) → (k : Option ℕ)
      → Stays l (length rs) (forward_by go rs ss q k)
  forward-stays rs ss target q h (Some k) = record { longer = omega arith; asks = h }
  forward-stays rs ss target q h None =
      let more : List StepAnswer = rs ++ given.Failed ∷ [] in
      let on = later more (ss ++ step.Outside ∷ []) in
      let long = on.longer in
      record { longer = omega (arith, long, length-append rs (given.Failed ∷ [])); asks = on.asks }

  next-stays : (rs : List StepAnswer) (ss : List QuestionStep) (n : Next) → AsksLinks l (length l.links ≤ length rs) n
      → Stays l (length rs) (settle_by go at rs ss n)
  next-stays rs ss Done h = record { longer = omega arith; asks = tt }
  next-stays rs ss (Evaluate e name returned extra) h = absurd h
  next-stays rs ss (Forward target q) h = forward-stays rs ss target q h (at target)

settle-stays : (l : Local) → SparseLocal l → (most : ℕ) (at : Ior → Option ℕ) (rs : List StepAnswer) (ss : List QuestionStep)
    → Stays l (length rs) (settle most at l rs ss)
settle-stays l h zero at rs ss = record { longer = omega arith; asks = tt }
settle-stays l h (suc most) at rs ss =
    next-stays l at (settle most at l) (λ xs ys. settle-stays l h most at xs ys) rs ss (next_of l rs)
    (next-links l rs h.path h.candidates)

-- those of a log that is made, but for an Ask
abbrev pub Quiet : Event → Type 0
Quiet (Changed n c) = ⊥
Quiet (Ask n q) = ⊥
Quiet (Deliver c) = Unit {0}
Quiet (Value c v) = Unit {0}
Quiet (Answer c) = Unit {0}
Quiet (Lose c) = ⊥

-- ---- what an event leaves

-- so few events may still come
abbrev pub Lasts : (most : ℕ) → EventResult → Type 0
Lasts most (Refused f) = Unit {0}
Lasts most (Moved v) = SparseWorld v × (total v.calls + 1 ≤ most)
Lasts most (Closing v c k l rs ss) =
    SparseWorld v × ((old : Call) × (slice_get v.calls c ≡ Some old)
    × (total v.calls + 1 + unhanded k.handed ≤ most + weight old))

-- the call k of a world, which has the number c, and whose visit goes on behind n answers
record Room (w : World) (c : ℕ) (k : Call) (l : Local) (n most : ℕ) : Type 0 where
  old : Call
  is : slice_get w.calls c ≡ Some old
  local : SparseLocal l
  room : total w.calls + 1 + unhanded k.handed + left_weight n (each_of l.effective.hops) ≤ most + weight old

module _ (most : ℕ) where
  call-set : (w : World) (c : ℕ) (k : Call) → SparseWorld w → SparseCall k
      → AllByRecursion SparseCall (slice_set w.calls c k)
  call-set w c k h p = each-set SparseCall w.calls c k h.calls p

  placed-lasts : (w : World) (c : ℕ) (k : Call) (l : Local) (n : ℕ) (rs : List StepAnswer) (ss : List QuestionStep)
      (p : Pending) → SparseWorld w → Room w c k l n most → n ≤ length rs → Asks l rs p
      → Lasts most (placed_by w c k l rs ss p)
  placed-lasts w c k l n rs ss pending.Nothing h room long asks =
      (h, (room.old, room.is, (let r = room.room in omega (arith, r))))
  placed-lasts w c k l n rs ss pending.Value h room long asks = absurd asks
  placed-lasts w c k l n rs ss (pending.SubQuery target q) h room long asks =
      let waits : Call = waiting_call k l rs ss (length w.calls) in
      let sub : Call = sent target q k.root (Some c) in
      let each = each_of l.effective.hops in
      let set = total-set w.calls c room.old waits room.is in
      let more = total-more (slice_set w.calls c waits) sub in
      let links = room.local.links in
      let asked = asks.0 in
      let low : length rs < 2 = below (length rs) asked links in
      let question = left-step (length rs) each low in
      let fall = left-falls n (length rs) each long in
      let query : q ≡ link_query l asks.1.1 asks.1.0 = asks.1.2 in
      let hops : hops_in q ≤ l.effective.hops - 1 =
      subst (λ (x : Query). hops_in x ≤ l.effective.hops - 1) (sym query) (sub-hops l asks.1.1 asks.1.0) in
      let cost = each-covers l.effective.hops (hops_in q) (some-hops l asks.1.3) hops in
      let hand = unhanded-few k.handed in
      let r = room.room in (
        record {
          traders = h.traders;
          calls = each-append SparseCall (slice_set w.calls c waits) (sub ∷ []) (call-set w c waits h room.local)
              (subst NoStart (sym query) (sub-starts l asks.1.1 asks.1.0), tt);
        },
        omega (arith, set, more, question, fall, cost, hand, r),
      )
    where
      below : (n : ℕ) → (length l.links ≤ n → ⊥) → length l.links ≤ 2 → n < 2
      below n more few = by (nat_lt n 2) refl where
        by : (b : Bool) → nat_lt n 2 ≡ b → n < 2
        by true e = grind (arith, nat_tests, e)
        by false e = absurd (more (let two : length l.links ≤ n = grind (arith, nat_tests, e, few) in two))

  goes-lasts : (w : World) (c : ℕ) (k : Call) (l : Local) (rs : List StepAnswer) (ss : List QuestionStep) → SparseWorld w
      → Room w c k l (length rs) most
      → (let s = settle (turns_of l + 1) (inside w.traders w.home) l rs ss in
      Lasts most (placed_by w c k l s.answers s.steps s.pending))
  goes-lasts w c k l rs ss h room =
      let s = settle (turns_of l + 1) (inside w.traders w.home) l rs ss in
      let stays = settle-stays l room.local (turns_of l + 1) (inside w.traders w.home) rs ss in
      placed-lasts w c k l (length rs) s.answers s.steps s.pending h room stays.longer stays.asks

  -- ---- how a query begins

  abbrev BeginsSparsely : Query → Begin → Type 0
  BeginsSparsely q (begin.Refused o) = RefusedSo q o
  BeginsSparsely q (begin.Repeat number) = Unit {0}
  BeginsSparsely q (begin.Search l) = SparseLocal l × (l.effective.hops ≤ hops_in q)
  BeginsSparsely q (begin.Path l) = ⊥

  module _ (s : Store) (point : ℕ) (m : Marks) (q : Query) (h : IsSparse s) (starts : NoStart q)
      (read : stated q.policies ≡ Ok (parts_of q).stated) where
    effective-few : min (unwrap_or (parts_of q).stated.hops s.attributes.def_hop_count) s.attributes.max_hop_count
        ≤ hops_in q
    effective-few =
        let content : hops_in q ≡ unwrap_or (parts_of q).stated.hops 5 = ap hops_by read in
        let least = by (parts_of q).stated.hops in
        omega (arith, content, least)
      where
        by : (o : Option ℕ) → unwrap_or o s.attributes.def_hop_count ≤ unwrap_or o 5
        by (Some n) = omega arith
        by None = h.hops

    candidates-plain : ArePlain (local_of s point (m.count + 1) [] q).candidates
    unfolding local_of
    candidates-plain =
        each-front IsStaticOffer _ _ (each-filter IsStaticOffer
        (is_candidate s.types.types s.attributes (parts_of q).stated q.service_type) s.offers h.offers)

    here-sparse : (found : Option ℕ) → BeginsSparsely q (begin_here s point m q found)
    unfolding local_of
    here-sparse (Some n) = tt
    here-sparse None = (
      record {
        path = refl;
        candidates = each-front IsStaticOffer _ _ (each-filter IsStaticOffer
            (is_candidate s.types.types s.attributes (parts_of q).stated q.service_type) s.offers h.offers);
        links = h.links;
      },
      effective-few,
    )

    no-path : path_link s.links (parts_of q).stated ≡ None
    no-path = ap (λ (o : Option (List (List ℕ))). path_link s.links (record (parts_of q).stated { start = o }))
        (starts (parts_of q).stated read)

    along-sparse : (found : Option LinkRecord) → found ≡ None → BeginsSparsely q (begin_along s point m q found)
    along-sparse None e = here-sparse (repeated_in m (parts_of q).stated)
    along-sparse (Some link) e = absurd cc

  unless-sparse : (s : Store) (point : ℕ) (m : Marks) (q : Query) (bounds : Bounds) → IsSparse s → NoStart q
      → (cause : Cause) → refusal bounds m.count s q ≡ cause → BeginsSparsely q (begin_unless cause s point m q)
  unless-sparse s point m q bounds h starts (Some f) e =
      (bounds, s, m, record { cause = f; first = e; content = refl })
  unless-sparse s point m q bounds h starts None e =
      let read = taken_are_read bounds m.count s q e in
      along-sparse s point m q h starts read (path_link s.links (parts_of q).stated) (no-path s point m q h starts read)

  begins-sparse : (t : PlainTrader) (q : Query) → SparseTrader t → NoStart q → BeginsSparsely q (begin_at t q)
  unfolding begin_of
  begins-sparse t q h starts =
      unless-sparse (store_of t) (length t.history) t.marks q t.bounds h starts
      (refusal t.bounds t.marks.count (store_of t) q) refl

  -- a search has room where a query had
  search-room : (all old : ℕ) (was_handed : Bool) (l : Local) (hops : ℕ) → l.effective.hops ≤ hops
      → all + sent_weight hops ≤ most + old
      → all + 1 + unhanded was_handed + left_weight 0 (each_of l.effective.hops) ≤ most + old
  search-room all old was_handed l hops few room =
      let up = sent-grows l.effective.hops hops few in
      let asks = left-sent l.effective.hops in
      let hand = unhanded-few was_handed in
      omega (arith, up, asks, hand, room)

  -- a call is there whose events to come leave room for those of a query that begins
  begun-lasts : (w : World) (c : ℕ) (k old : Call) (b : Begin) → SparseWorld w → slice_get w.calls c ≡ Some old
      → total w.calls + sent_weight (hops_in k.query) ≤ most + weight old → BeginsSparsely k.query b
      → Lasts most (begun_by w c k b)
  begun-lasts w c k old (begin.Refused o) h is room b =
      let ends : Call = record k { stage = Ended (visit.Refused o); drawn = w.drawn } in
      let set = total-set w.calls c old ends is in
      let hand = unhanded-few k.handed in
      let least = sent-least (hops_in k.query) in
      (record { traders = h.traders; calls = call-set w c ends h b }, omega (arith, set, hand, least, room))
  begun-lasts w c k old (begin.Repeat number) h is room b =
      let ends : Call = record k { stage = Ended (visit.Answered no_offers 0); drawn = w.drawn } in
      let set = total-set w.calls c old ends is in
      let hand = unhanded-few k.handed in
      let least = sent-least (hops_in k.query) in
      (record { traders = h.traders; calls = call-set w c ends h tt }, omega (arith, set, hand, least, room))
  begun-lasts w c k old (begin.Search l) h is room b =
      goes-lasts w c k l [] [] h
      (record {
        old = old;
        is = is;
        local = b.0;
        room = search-room (total w.calls) (weight old) k.handed l (hops_in k.query) b.1 room;
      })
  begun-lasts w c k old (begin.Path l) h is room b = absurd b

  to-lasts : (w : World) (c : ℕ) (k : Call) (t : Option PlainTrader) → slice_get w.traders k.target ≡ t
      → SparseWorld w → slice_get w.calls c ≡ Some k → NoStart k.query
      → total w.calls + sent_weight (hops_in k.query) ≤ most + weight k → Lasts most (deliver_to w c k t)
  to-lasts w c k None at h is starts room = tt
  to-lasts w c k (Some t) at h is starts room =
      let one : SparseTrader t = each-at SparseTrader w.traders k.target t h.traders at in
      begun-lasts (with_begun w k.target t k.query) c (deliver_call k (delivery_of w.clock t)) k (begin_at t k.query)
      (record { traders = each-set SparseTrader w.traders k.target _ h.traders one; calls = h.calls }) is room
      (begins-sparse t k.query one starts)

  in-lasts : (w : World) (c : ℕ) (k : Call) (s : Stage) → k.stage ≡ s → SparseWorld w → slice_get w.calls c ≡ Some k
      → SparseStage k.query s → total w.calls ≤ most → Lasts most (deliver_in w c k s)
  in-lasts w c k Sent stage h is sparse few =
      let same : weight k ≡ sent_weight (hops_in k.query) = ap (stage_weight k.query k.handed) stage in
      to-lasts w c k (slice_get w.traders k.target) refl h is sparse (omega (arith, same, few))
  in-lasts w c k Running stage h is sparse few = tt
  in-lasts w c k (Evaluating f) stage h is sparse few = tt
  in-lasts w c k (Waiting f e) stage h is sparse few = tt
  in-lasts w c k (Ended v) stage h is sparse few = tt

  -- ---- the answer to a question

  value-in-lasts : (w : World) (c : ℕ) (k : Call) (v : Option Any) (s : Stage) → SparseStage k.query s
      → Lasts most (value_in w c k v s)
  value-in-lasts w c k v Sent sparse = tt
  value-in-lasts w c k v Running sparse = tt
  value-in-lasts w c k v (Evaluating f) sparse = absurd sparse
  value-in-lasts w c k v (Waiting f e) sparse = tt
  value-in-lasts w c k v (Ended a) sparse = tt

  resumed-in-lasts : (w : World) (p : ℕ) (k : Call) (s : QuestionStep) (r : StepAnswer) (stage : Stage) → k.stage ≡ stage
      → SparseWorld w → slice_get w.calls p ≡ Some k → SparseStage k.query stage → total w.calls + 1 ≤ most
      → Lasts most (resumed_in w p k s r stage)
  resumed-in-lasts w p k s r Sent at h is sparse few = (h, few)
  resumed-in-lasts w p k s r Running at h is sparse few = (h, few)
  resumed-in-lasts w p k s r (Evaluating f) at h is sparse few = (h, few)
  resumed-in-lasts w p k s r (Waiting f e) at h is sparse few =
      let same : weight k ≡ unhanded k.handed + frame_weight f = ap (stage_weight k.query k.handed) at in
      let count : length (f.answers ++ r ∷ []) ≡ suc (length f.answers) =
      omega (arith, length-append f.answers (r ∷ [])) in
      let left : left_weight (length (f.answers ++ r ∷ [])) (each_of f.local.effective.hops) ≡ frame_weight f =
      ap (λ (n : ℕ). left_weight n (each_of f.local.effective.hops)) count in
      goes-lasts w p k f.local (f.answers ++ r ∷ []) (k.steps ++ s ∷ []) h
      (record { old = k; is = is; local = sparse; room = omega (arith, same, left, few) })
  resumed-in-lasts w p k s r (Ended v) at h is sparse few = (h, few)

  resumed-lasts : (w : World) (p : ℕ) (s : QuestionStep) (r : StepAnswer) (k : Option Call) → slice_get w.calls p ≡ k
      → SparseWorld w → total w.calls + 1 ≤ most → Lasts most (resume_caller w p s r k)
  resumed-lasts w p s r None is h few = (h, few)
  resumed-lasts w p s r (Some k) is h few =
      resumed-in-lasts w p k s r k.stage refl h is (each-at SparseCall w.calls p k h.calls is) few

  answer-stage-lasts : (w : World) (d : ℕ) (k : Call) (p : ℕ) (s : Stage) → k.stage ≡ s → k.handed ≡ false
      → SparseWorld w → slice_get w.calls d ≡ Some k → SparseStage k.query s → total w.calls ≤ most
      → Lasts most (answer_in_stage w d k p s)
  answer-stage-lasts w d k p Sent at yet h is sparse few = tt
  answer-stage-lasts w d k p Running at yet h is sparse few = tt
  answer-stage-lasts w d k p (Evaluating f) at yet h is sparse few = tt
  answer-stage-lasts w d k p (Waiting f g) at yet h is sparse few = tt
  answer-stage-lasts w d k p (Ended v) at yet h is sparse few =
      let done : Call = record k { handed = true } in
      let set = total-set w.calls d k done is in
      let before : weight k ≡ 1 = ap (stage_weight k.query k.handed) at ∙ ap unhanded yet in
      let after : weight done ≡ 0 = ap (stage_weight k.query true) at in
      resumed-lasts (hand_answer w d k) p (step.Given d) (given.Offers (answer_in v)) (slice_get (hand_answer w d k).calls p) refl
      (record {
        traders = h.traders;
        calls = call-set w d done h (each-at SparseCall w.calls d k h.calls is);
      }) (omega (arith, set, before, after, few))

  answer-by-lasts : (w : World) (d : ℕ) (k : Call) (caller : Option ℕ) (b : Bool) → k.handed ≡ b → SparseWorld w
      → slice_get w.calls d ≡ Some k → total w.calls ≤ most → Lasts most (answer_by w d k caller b)
  answer-by-lasts w d k None b yet h is few = tt
  answer-by-lasts w d k (Some p) true yet h is few = tt
  answer-by-lasts w d k (Some p) false yet h is few =
      answer-stage-lasts w d k p k.stage refl yet h is (each-at SparseCall w.calls d k h.calls is) few

  -- ---- the events

  deliver-lasts : (w : World) (c : ℕ) (k : Option Call) → slice_get w.calls c ≡ k → SparseWorld w
      → total w.calls ≤ most → Lasts most (deliver_at w c k)
  deliver-lasts w c None is h few = tt
  deliver-lasts w c (Some k) is h few =
      in-lasts w c k k.stage refl h is (each-at SparseCall w.calls c k h.calls is) few

  value-lasts : (w : World) (c : ℕ) (v : Option Any) (k : Option Call) → slice_get w.calls c ≡ k → SparseWorld w
      → Lasts most (value_at w c v k)
  value-lasts w c v None is h = tt
  value-lasts w c v (Some k) is h =
      value-in-lasts w c k v k.stage (each-at SparseCall w.calls c k h.calls is)

  answer-lasts : (w : World) (d : ℕ) (k : Option Call) → slice_get w.calls d ≡ k → SparseWorld w
      → total w.calls ≤ most → Lasts most (answer_at w d k)
  answer-lasts w d None is h few = tt
  answer-lasts w d (Some k) is h few = answer-by-lasts w d k k.caller k.handed refl h is few

  step-lasts : (w : World) (e : Event) → Quiet e → SparseWorld w → total w.calls ≤ most → Lasts most (step_of w e)
  step-lasts w (Changed n c) quiet h few = absurd quiet
  step-lasts w (Ask n q) quiet h few = absurd quiet
  step-lasts w (Deliver c) quiet h few = deliver-lasts w c (slice_get w.calls c) refl h few
  step-lasts w (Value c v) quiet h few = value-lasts w c v (slice_get w.calls c) refl h
  step-lasts w (Answer d) quiet h few = answer-lasts w d (slice_get w.calls d) refl h few
  step-lasts w (Lose d) quiet h few = absurd quiet

  becomes-lasts : (w u : World) (t : EventResult) → fault_in t ≡ None → Lasts most t → Becomes w t u
      → SparseWorld u × (total u.calls + 1 ≤ most)
  becomes-lasts w u (Refused f) ok h b = absurd cc
  becomes-lasts w u (Moved v) ok h b =
      subst (λ (z : World). SparseWorld z × (total z.calls + 1 ≤ most)) (sym b) h
  becomes-lasts w u (Closing v c k l rs ss) ok h b =
      let ends : Call = ended_call k ss v.drawn (visit_answer l b.0) in
      let set = total-set v.calls c h.1.0 ends h.1.1 in
      let room = h.1.2 in
      subst (λ (z : World). SparseWorld z × (total z.calls + 1 ≤ most)) (sym b.2)
      (record { traders = h.0.traders; calls = call-set v c ends h.0 tt }, omega (arith, set, room))

-- an event that isn't an Ask leaves fewer to come
pub event-lasts : (w u : World) (e : Event) → Quiet e → SparseWorld w → fault_of w e ≡ None
    → Becomes w (step_of w e) u → SparseWorld u × (total u.calls + 1 ≤ total w.calls)
event-lasts w u e quiet h ok b =
    becomes-lasts (total w.calls) w u (step_of w e) ok (step-lasts (total w.calls) w e quiet h (omega arith)) b

-- ---- an Ask

ask-lasts : (w : World) (n : ℕ) (q : Query) (t : Option PlainTrader) → slice_get w.traders n ≡ t → SparseWorld w
    → NoStart q → Lasts (total w.calls + sent_weight (hops_in q)) (ask_at w n q t)
ask-lasts w n q None at h starts = tt
ask-lasts w n q (Some t) at h starts =
    let k = sent n q (length w.calls) None in
    to-lasts (total w.calls + sent_weight (hops_in q)) (open_call w k) (length w.calls) k (Some t) at
    (record { traders = h.traders; calls = each-append SparseCall w.calls (k ∷ []) h.calls (starts, tt) })
    (get-last w.calls k) starts (let more = total-more w.calls k in omega (arith, more))

pub asked-lasts : (w u : World) (n : ℕ) (q : Query) → SparseWorld w → NoStart q → fault_of w (Ask n q) ≡ None
    → Becomes w (step_of w (Ask n q)) u
    → SparseWorld u × (total u.calls + 1 ≤ total w.calls + sent_weight (hops_in q))
asked-lasts w u n q h starts ok b =
    becomes-lasts (total w.calls + sent_weight (hops_in q)) w u (step_of w (Ask n q)) ok
    (ask-lasts w n q (slice_get w.traders n) refl h starts) b
