-- A call that comes to its trader.
use Rattle.std.proofs.Common.{◌≡◌, ◌⊎◌, inl, inr, Bool, true, false, ℕ, ◌+◌, ◌<◌, ◌≤◌, List, [], ◌∷◌, ◌++◌}
use Rattle.std.proofs.Common.{length, slice_get, slice_set}
use Rattle.std.proofs.Common.{slice_index_or, refl, sym, ◌∙◌, ap, subst, arith}
use Rattle.std.specs.Prelude.{Option, None, Some, Result, Ok, Err}
use Rattle.std.specs.declared.snapshot.Snapshot.{Snapshot}
use Rattle.td_net.proofs.Becoming.{get-end, get-set_same, keeps-longer, keeps-others, placed-anew, read}
use Rattle.td_net.proofs.Becoming.{set-get, set-set}
use Rattle.td_net.proofs.Snapshots.{trader-shown}
use Rattle.td_net.specs.Supplies.{WordSupply}
use Rattle.td_net.specs.Worlds.{Becomes, Closing, DoneAs, HasGroup, HasVisits, IsLeft, KeepsEnded, Moved, Refused}
use Rattle.td_net.specs.Worlds.{EventResult, TakenAs, World, after, begun_by, deliver_to, deliver_call, delivery_of}
use Rattle.td_net.specs.Worlds.{fault_in}
use Rattle.td_net.specs.Worlds.{inside, placed_by, settle, traders_behind, visit_in, with_begun, with_calls, world}
use Rattle.td_net.specs.declared.call.Call.{Call}
use Rattle.td_net.specs.declared.call.Delivery.{Delivery}
use Rattle.td_net.specs.declared.call.Stage.{Stage}
use Rattle.td_net.specs.declared.call.Stage.TheVariants.{Sent, Running, Evaluating, Waiting, Ended}
use Rattle.td_net.specs.declared.call.QuestionStep.{QuestionStep}
use Rattle.td_net.specs.declared.event.NetFault.{NetFault}
use Rattle.td_net.specs.declared.advancing.Pending.{Pending}
use Rattle.td_net.specs.declared.advancing.Pending.TheVariants as pending
use Rattle.td_net.specs.Worlds.{ask_at, deliver_at, deliver_in, is_sent, open_call, sent}
use Rattle.td_ops.specs.declared.call.Query.{Query}
use Rattle.td_store.specs.declared.local.Local.{Local}
use Rattle.td_trader.specs.PlainTraders.{PlainTrader, after_begin, begin_at}
use Rattle.td_trader.specs.declared.begin.Begin.{Begin}
use Rattle.td_trader.specs.declared.begin.Begin.TheVariants as begin
use Rattle.td_walk.specs.declared.answer.StepAnswer.{StepAnswer}
use Rattle.td_walk.specs.declared.trace.Address.{Address}
use Rattle.td_query_walk.specs.Reach.{turns_of}

-- ---- events that aren't refused

-- it isn't refused
abbrev pub Goes : EventResult → Type 0
Goes t = fault_in t ≡ None

placed-goes : (w : World) (c : ℕ) (k : Call) (l : Local) (rs : List StepAnswer) (ss : List QuestionStep) (p : Pending)
    → Goes (placed_by w c k l rs ss p)
placed-goes w c k l rs ss pending.Nothing = refl
placed-goes w c k l rs ss pending.Value = refl
placed-goes w c k l rs ss (pending.SubQuery t q) = refl

pub goes-on : (w : World) (c : ℕ) (k : Call) (l : Local) (rs : List StepAnswer) (ss : List QuestionStep)
    → let s = settle (turns_of l + 1) (inside w.traders w.home) l rs ss in
    Goes (placed_by w c k l s.answers s.steps s.pending)
goes-on w c k l rs ss =
    let s = settle (turns_of l + 1) (inside w.traders w.home) l rs ss in
    placed-goes w c k l s.answers s.steps s.pending

pub begun-goes : (w : World) (c : ℕ) (k : Call) (b : Begin) → Goes (begun_by w c k b)
begun-goes w c k (begin.Refused o) = refl
begun-goes w c k (begin.Repeat n) = refl
begun-goes w c k (begin.Search l) = goes-on w c k l [] []
begun-goes w c k (begin.Path l) = goes-on w c k l [] []

-- the calls of v are those of w, and maybe more
pub taken-as : (w v : World) (t : EventResult) (r : Result Unit NetFault) (u : World) → Goes t
    → traders_behind v t ≡ traders_behind w t → v.traders ≡ w.traders → KeepsEnded w.calls v.calls → DoneAs v t r u
    → TakenAs w t r u
taken-as w v (Refused f) r u goes same traders longer h =
    absurd (let bad : ◌≡◌ {A = Option NetFault} (Some f) None = goes in cc)
taken-as w v (Moved x) (Ok tt) u goes same traders longer h = h
taken-as w v (Moved x) (Err g) u goes same traders longer h =
    (h.0, record { traders = left h.1.traders; ended = λ c e is. h.1.ended c e (longer c e is) })
  where
    left : (u.traders ≡ v.traders) ⊎ (u.traders ≡ x.traders) → (u.traders ≡ w.traders) ⊎ (u.traders ≡ x.traders)
    left (inl e) = inl (e ∙ traders)
    left (inr e) = inr e
taken-as w v (Closing x c k l rs ss) (Ok tt) u goes same traders longer h = h
taken-as w v (Closing x c k l rs ss) (Err g) u goes same traders longer h =
    (h.0, record { traders = left h.1.traders; ended = λ d e is. h.1.ended d e (longer d e is) })
  where
    left : (u.traders ≡ v.traders) ⊎ (u.traders ≡ x.traders) → (u.traders ≡ w.traders) ⊎ (u.traders ≡ x.traders)
    left (inl e) = inl (e ∙ traders)
    left (inr e) = inr e

-- ---- the traders behind it

placed-behind : (v w : World) (c : ℕ) (k : Call) (l : Local) (rs : List StepAnswer) (ss : List QuestionStep) (p : Pending)
    → traders_behind v (placed_by w c k l rs ss p) ≡ w.traders
placed-behind v w c k l rs ss pending.Nothing = refl
placed-behind v w c k l rs ss pending.Value = refl
placed-behind v w c k l rs ss (pending.SubQuery t q) = refl

on-behind : (v w : World) (c : ℕ) (k : Call) (l : Local)
    → traders_behind v (begun_by w c k (begin.Search l)) ≡ w.traders
on-behind v w c k l =
    let s = settle (turns_of l + 1) (inside w.traders w.home) l [] [] in
    placed-behind v w c k l s.answers s.steps s.pending

pub begun-behind : (v w : World) (c : ℕ) (k : Call) (b : Begin) → traders_behind v (begun_by w c k b) ≡ w.traders
begun-behind v w c k (begin.Refused o) = refl
begun-behind v w c k (begin.Repeat n) = refl
begun-behind v w c k (begin.Search l) = on-behind v w c k l
begun-behind v w c k (begin.Path l) = on-behind v w c k l

-- ---- how a query begins

on-anew : (v w : World) (c : ℕ) (m : Call) (l : Local) (u : List Call) (drawn : ℕ)
    → let w1 = with_calls w (slice_set w.calls c m) in
    Becomes w1 (begun_by w1 c m (begin.Search l)) (after w u drawn)
    → Becomes v (begun_by w c m (begin.Search l)) (after w u drawn)
on-anew v w c m l u drawn b =
    let s = settle (turns_of l + 1) (inside w.traders w.home) l [] [] in
    placed-anew v w c m m l s.answers s.steps s.pending u drawn refl b

begun-anew : (v w : World) (c : ℕ) (m : Call) (b : Begin) (u : List Call) (drawn : ℕ)
    → let w1 = with_calls w (slice_set w.calls c m) in
    Becomes w1 (begun_by w1 c m b) (after w u drawn) → Becomes v (begun_by w c m b) (after w u drawn)
begun-anew v w c m (begin.Refused o) u drawn b = b ∙ ap (λ z. with_calls w z) (set-set w.calls c m _)
begun-anew v w c m (begin.Repeat n) u drawn b = b ∙ ap (λ z. with_calls w z) (set-set w.calls c m _)
begun-anew v w c m (begin.Search l) u drawn b = on-anew v w c m l u drawn b
begun-anew v w c m (begin.Path l) u drawn b = on-anew v w c m l u drawn b

-- what is promised of a call that goes on as its query began
abbrev GoesOn : List PlainTrader → Address → (calls : List Call) → WordSupply → (c : ℕ) → Begin → (u : List Call)
    → (drawn : ℕ) → Type 0
GoesOn ts home calls s c b u drawn =
    (k : Call) (w : World) → slice_get calls c ≡ Some k → HasGroup w ts home → HasVisits w calls s
    → Becomes w (begun_by w c k b) (after w u drawn)

-- the trader and the call are as they are written down
begun-plain : (ts : List PlainTrader) (home : Address) (calls u : List Call) (clock : ℕ) (s : WordSupply) (drawn c : ℕ)
    (k : Call) (t : PlainTrader) → slice_get calls c ≡ Some k
    → GoesOn (slice_set ts k.target (after_begin t k.query (begin_at t k.query))) home
    (slice_set calls c (deliver_call k (delivery_of clock t))) s c (begin_at t k.query) u drawn
    → let w = world ts home calls clock s.all s.drawn in
    Becomes w (deliver_to w c k (Some t)) (after (with_begun w k.target t k.query) u drawn)
begun-plain ts home calls u clock s drawn c k t is later =
    let w = world ts home calls clock s.all s.drawn in
    let m = deliver_call k (delivery_of clock t) in
    let w1 = with_begun w k.target t k.query in
    begun-anew w w1 c m (begin_at t k.query) u drawn
    (later m (with_calls w1 (slice_set calls c m)) (get-set_same calls c k m is)
    (record { traders_are = refl; home_is = refl })
    (record { calls_are = refl; words_are = refl; drawn_is = refl }))

-- what the code reads and writes as a call comes to its trader
pub record Written (ts : List PlainTrader) (calls : List Call) (clock c n : ℕ) (b : Begin) (t2 : PlainTrader)
    (m : Call) : Type 0 where
  pub asked : Call
  pub asked_is : asked ≡ slice_index_or calls c asked
  pub written : Call
  pub written_is : written ≡ slice_index_or calls c written
  pub seen : PlainTrader
  pub seen_is : seen ≡ slice_index_or ts n seen
  pub trader : PlainTrader
  pub trader_is : trader ≡ slice_index_or ts n trader
  pub snapshot : Snapshot PlainTrader
  pub shows : snapshot.value ≡ seen
  pub begun : b ≡ begin_at trader asked.query
  pub behind : t2 ≡ after_begin trader asked.query b
  pub delivered_so : m ≡ deliver_call written (record { serial = clock; seen = snapshot })

module _ (ts : List PlainTrader) (home : Address) (calls : List Call) (clock c n : ℕ) (b : Begin) (t2 : PlainTrader)
    (m : Call) (h : Written ts calls clock c n b t2 m) (k : Call) (t : PlainTrader) (is : slice_get calls c ≡ Some k)
    (at : k.target ≡ n) (stands : slice_get ts n ≡ Some t) where
  asked-is : k ≡ h.asked
  asked-is = read calls c k h.asked is h.asked_is

  written-is : k ≡ h.written
  written-is = read calls c k h.written is h.written_is

  trader-is : t ≡ h.trader
  trader-is = read ts n t h.trader stands h.trader_is

  seen-is : t ≡ h.seen
  seen-is = read ts n t h.seen stands h.seen_is

  begin-is : b ≡ begin_at t k.query
  begin-is =
      h.begun
      ∙ (ap (λ (z : PlainTrader). begin_at z h.asked.query) (sym trader-is)
      ∙ ap (λ (z : Call). begin_at t z.query) (sym asked-is))

  trader-behind : t2 ≡ after_begin t k.query (begin_at t k.query)
  trader-behind =
      h.behind
      ∙ (ap (λ (z : PlainTrader). after_begin z h.asked.query b) (sym trader-is)
      ∙ (ap (λ (z : Call). after_begin t z.query b) (sym asked-is) ∙ ap (after_begin t k.query) begin-is))

  call-is : m ≡ deliver_call k (delivery_of clock t)
  call-is =
      h.delivered_so
      ∙ (ap (λ (z : Call). deliver_call z (record { serial = clock; seen = h.snapshot })) (sym written-is)
      ∙ ap (λ z. deliver_call k (record { serial = clock; seen = z })) (trader-shown h.snapshot t (h.shows ∙ sym seen-is)))

  traders-are : slice_set ts n t2 ≡ slice_set ts k.target (after_begin t k.query (begin_at t k.query))
  traders-are = ap (λ z. slice_set ts z t2) (sym at) ∙ ap (slice_set ts k.target) trader-behind

  -- the call has gone on
  pub delivers : (s s2 : WordSupply) (u : List Call) → s2.all ≡ s.all
      → GoesOn (slice_set ts n t2) home (slice_set calls c m) s c b u s2.drawn
      → let w = world ts home calls clock s.all s.drawn in
      Becomes w (deliver_to w c k (Some t)) (world (slice_set ts n t2) home u (clock + 1) s2.all s2.drawn)
  delivers s s2 u all later =
      let w = world ts home calls clock s.all s.drawn in
      let ts2 = slice_set ts k.target (after_begin t k.query (begin_at t k.query)) in
      let one = subst (λ z. GoesOn z home (slice_set calls c m) s c b u s2.drawn) traders-are later in
      let two = subst (λ (z : Call). GoesOn ts2 home (slice_set calls c z) s c b u s2.drawn) call-is one in
      let now = deliver_call k (delivery_of clock t) in
      let three = subst (λ z. GoesOn ts2 home (slice_set calls c now) s c z u s2.drawn) begin-is two in
      let done = begun-plain ts home calls u clock s s2.drawn c k t is three in
      let worlds :
      world (slice_set ts n t2) home u (clock + 1) s2.all s2.drawn ≡ world ts2 home u (clock + 1) s.all s2.drawn =
      ap (λ z. world z home u (clock + 1) s2.all s2.drawn) traders-are
      ∙ ap (λ z. world ts2 home u (clock + 1) z s2.drawn) all in
      subst (λ z. Becomes w (deliver_to w c k (Some t)) z) (sym worlds) done

  -- the trader has begun its query, but the call didn't go on
  pub leaves-begun : (s s2 : WordSupply) (u : List Call) → k.stage ≡ Sent → u ≡ slice_set calls c m
      → let w = world ts home calls clock s.all s.drawn in
      IsLeft w (deliver_to w c k (Some t)) (world (slice_set ts n t2) home u clock s2.all s2.drawn)
  leaves-begun s s2 u sent same =
      let w = world ts home calls clock s.all s.drawn in
      record {
        traders =
            inr (traders-are
            ∙ sym (begun-behind w (with_begun w k.target t k.query) c (deliver_call k (delivery_of clock t))
            (begin_at t k.query)));
        ended =
            subst (λ z. KeepsEnded calls z) (sym same)
            (keeps-others calls c k m is (ap visit_in sent));
      }

-- ---- calls that are asked for, and calls that were sent

-- a call that an Ask opens
pub asked : (w : World) (n : ℕ) (q : Query) (t : PlainTrader) (r : Result Unit NetFault) (u : World)
    → slice_get w.traders n ≡ Some t
    → let k = sent n q (length w.calls) None in
    let v = open_call w k in
    DoneAs v (deliver_to v (length w.calls) k (Some t)) r u
    → TakenAs w (ask_at w n q (slice_get w.traders n)) r u
asked w n q t r u is done =
    let k = sent n q (length w.calls) None in
    let v = open_call w k in
    let b = with_begun v n t q in
    let m = deliver_call k (delivery_of v.clock t) in
    let begin_is = begin_at t q in
    subst (λ o. TakenAs w (ask_at w n q o) r u) (sym is)
    (taken-as w v (deliver_to v (length w.calls) k (Some t)) r u (begun-goes b (length w.calls) m begin_is)
    (begun-behind v b (length w.calls) m begin_is ∙ sym (begun-behind w b (length w.calls) m begin_is)) refl
    (keeps-longer w.calls k) done)

-- the same as the code does it
pub asked-from : (ts : List PlainTrader) (home : Address) (calls list : List Call) (clock : ℕ) (s : WordSupply) (n : ℕ)
    (q : Query) (t : PlainTrader) (c : ℕ) (r : Result Unit NetFault) (u : World) → slice_get ts n ≡ Some t
    → c ≡ length calls → list ≡ calls ++ sent n q (length calls) None ∷ []
    → (slice_get list c ≡ Some (sent n q (length calls) None)
    → DoneAs (world ts home list clock s.all s.drawn)
    (deliver_to (world ts home list clock s.all s.drawn) c (sent n q (length calls) None) (Some t)) r u)
    → let w = world ts home calls clock s.all s.drawn in
    TakenAs w (ask_at w n q (slice_get ts n)) r u
asked-from ts home calls list clock s n q t c r u is number longer later =
    let k = sent n q (length calls) None in
    let w = world ts home calls clock s.all s.drawn in
    let v = open_call w k in
    let at : slice_get list c ≡ Some k =
    ap (λ z. slice_get z c) longer ∙ (ap (slice_get (calls ++ k ∷ [])) number ∙ get-end calls k) in
    let one : DoneAs v (deliver_to v c k (Some t)) r u =
    subst
    (λ z. DoneAs (world ts home z clock s.all s.drawn)
    (deliver_to (world ts home z clock s.all s.drawn) c k (Some t)) r u) longer (later at) in
    asked w n q t r u is (subst (λ z. DoneAs v (deliver_to v z k (Some t)) r u) number one)

pub sent-of : (stage : Stage) → is_sent stage ≡ true → stage ≡ Sent
sent-of Sent is = refl
sent-of Running is = absurd (let bad : false ≡ true = is in cc)
sent-of (Evaluating f) is = absurd (let bad : false ≡ true = is in cc)
sent-of (Waiting f d) is = absurd (let bad : false ≡ true = is in cc)
sent-of (Ended v) is = absurd (let bad : false ≡ true = is in cc)

-- a call that was sent
pub delivers-at : (w : World) (c : ℕ) (k : Call) (t : PlainTrader) (r : Result Unit NetFault) (u : World)
    → slice_get w.calls c ≡ Some k → k.stage ≡ Sent → slice_get w.traders k.target ≡ Some t
    → DoneAs w (deliver_to w c k (Some t)) r u → TakenAs w (deliver_at w c (slice_get w.calls c)) r u
delivers-at w c k t r u is stage stands done =
    let b = with_begun w k.target t k.query in
    let m = deliver_call k (delivery_of w.clock t) in
    let one : TakenAs w (deliver_to w c k (Some t)) r u =
    taken-as w w (deliver_to w c k (Some t)) r u (begun-goes b c m (begin_at t k.query)) refl refl (λ d v e. e) done in
    let two : TakenAs w (deliver_to w c k (slice_get w.traders k.target)) r u =
    subst (λ o. TakenAs w (deliver_to w c k o) r u) (sym stands) one in
    let three : TakenAs w (deliver_in w c k k.stage) r u =
    subst (λ z. TakenAs w (deliver_in w c k z) r u) (sym stage) two in
    subst (λ o. TakenAs w (deliver_at w c o) r u) (sym is) three
