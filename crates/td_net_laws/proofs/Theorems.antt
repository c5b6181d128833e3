-- What holds of every list of events.
use Rattle.std.proofs.Common.{◌≡◌, ℕ, zero, suc, ◌+◌, ◌<◌, List, [], ◌∷◌, map, length, slice_get, Option, Some}
use Rattle.std.proofs.Common.{None, Bool}
use Rattle.std.proofs.Common.{true, false, refl, sym, ◌∙◌, ap, subst, arith, ◌⊎◌, inl, inr}
use Rattle.std.proofs.lemmas.Option.{slice_get_within}
use Rattle.td_cdr.specs.Marks.{Marks, RemembersAs}
use Rattle.td_typecode.specs.declared.reference.Ior.{Ior}
use Rattle.td_net.specs.Schedules.{Run, over, then}
use Rattle.td_net.specs.Worlds.{World, Becomes, inside, start, step_of}
use Rattle.td_net.specs.declared.call.Call.{Call}
use Rattle.td_net.specs.declared.call.Delivery.{Delivery}
use Rattle.td_net.specs.declared.call.Stage.TheVariants.{Ended}
use Rattle.td_net.specs.declared.event.Event.{Event}
use Rattle.td_net.specs.declared.event.Event.TheVariants.{Ask}
use Rattle.td_net_laws.proofs.Apart.{marked-start}
use Rattle.td_net_laws.proofs.Below.{ring-is}
use Rattle.td_net_laws.proofs.Marking.{Marking}
use Rattle.td_net_laws.proofs.Moving.{Marked, event-kept, marks_of, run-kept}
use Rattle.td_net_laws.proofs.Naming.{one-made, one-stated}
use Rattle.td_net_laws.proofs.Places.{from_map}
use Rattle.td_net_laws.proofs.Rights.{Over, Rights, StageRight, visits_by}
use Rattle.td_net_laws.proofs.Turns.{Kept, Sound, kept-event}
use Rattle.td_net_laws.proofs.Unrolling.{unroll}
use Rattle.td_net_laws.proofs.Visiting.{Given, search-exactly}
use Rattle.td_net_laws.specs.Always.{Always}
use Rattle.td_net_laws.specs.Arrivals.{Arrival, ArrivesAt, CallHead, arrival_of, arrival_at_delivery, head_of}
use Rattle.td_net_laws.specs.Arrivals.{identifier_at}
use Rattle.td_net_laws.specs.Arrivals.{stated_identifier}
use Rattle.td_net_laws.specs.Premises.{AllAnswered, AllTrees, CallsGoByIdentifier, AreUnderOne, OneTree, Premises}
use Rattle.td_net_laws.specs.Premises.{CallVisits}
use Rattle.td_net_laws.specs.Trees.{IsTree}
use Rattle.td_ops.specs.declared.call.Query.{Query}
use Rattle.td_trader.specs.PlainTraders.{PlainTrader}
use Rattle.td_trader_laws.specs.Reaching.{AreReached}
use Rattle.td_walk.specs.declared.trace.Address.{Address}
use Rattle.td_walk.specs.declared.trace.Visit.{Visit}
use Rattle.td_query_walk.specs.Walks.{answer_in}

-- ---- the invariants together

pub record Whole (within : Ior → Option ℕ) (base : List Marks) (r : ℕ) (w : World) : Type 0 where
  pub marked : Marked base r w
  pub sound : Sound within w

whole-start : (within : Ior → Option ℕ) (ts : List PlainTrader) (home : Address) (words : List ℕ) → AreReached ts
    → ((x : Ior) → inside ts home x ≡ within x) → Whole within (map marks_of ts) 0 (start ts home words)
whole-start within ts home words reached same = record {
  marked = marked-start ts home words 0 reached;
  sound = record {
    inside = same;
    rights = λ c k is. absurd (let x = is in cc);
    waits = λ d p k is. absurd (let x = is in cc);
    kids = λ x y p kx ky kp d hx. absurd (let z = hx in cc);
  };
}

whole-event : (within : Ior → Option ℕ) (base : List Marks) (r : ℕ) (w : World) (e : Event) → Whole within base r w
    → (u : World) → Becomes w (step_of w e) u → Whole within base r u
whole-event within base r w e x u become = record {
  marked = event-kept base r w e x.marked u become;
  sound = (kept-event within w e x.marked.reached x.sound u become).sound;
}

whole-run : (within : Ior → Option ℕ) (base : List Marks) (r : ℕ) {w : World} {es : List Event} {u : World}
    → Whole within base r w → Run w es u → Whole within base r u
whole-run within base r x over = x
whole-run within base r {w = w} x (then {v = v} {e = e} become rest) =
    whole-run within base r (whole-event within base r w e x v become) rest

-- the traders that targets are stay the same
module _ (ts : List PlainTrader) (home : Address) (words : List ℕ) (es : List Event) (w : World)
    (reached : AreReached ts)
    (run : Run (start ts home words) es w) where
  first : Whole (inside ts home) (map marks_of ts) 0 w
  first = whole-run (inside ts home) (map marks_of ts) 0 (whole-start (inside ts home) ts home words reached
      (λ x. refl)) run

  pub whole : Whole (inside w.traders w.home) (map marks_of ts) 0 w
  whole =
      whole-run (inside w.traders w.home) (map marks_of ts) 0
      (whole-start (inside w.traders w.home) ts home words reached (λ x. sym (first.sound.inside x))) run

-- ---- answers, and identifiers

pub all-answered : Always AllAnswered
all-answered ts home words es w reached run c k v is ended =
    let s = (whole ts home words es w reached run).sound in
    let x : Over w.calls (inside w.traders w.home) c w.words k v =
    subst (λ z. StageRight w.calls (inside w.traders w.home) c w.words k z) ended (s.rights c k is).stage in
    (x.delivery, x.delivered, x.is)

-- a call that visits its trader, of the list of calls
record Comes (calls : List Call) (r : ℕ) (d : Arrival) : Type 0 where
  place : ℕ
  call : Call
  is : slice_get calls place ≡ Some call
  root : call.root ≡ r
  delivery : Delivery
  delivered : call.delivery ≡ Some delivery
  arrival : arrival_of call.query delivery ≡ d
  visits : visits_by call delivery ≡ true

comes : (calls : List Call) (r : ℕ) (h : CallHead) (d : Arrival) → CallVisits r (map head_of calls) h d → Comes calls r d
comes calls r h d v =
    let f = from_map head_of calls v.at.place h v.at.is in
    by f.0 f.1 f.2 f.0.delivery refl (ap (λ (z : CallHead). z.arrival) f.2 ∙ v.at.has_arrived)
  where
    some_one : (a b : Arrival) → Some a ≡ Some b → a ≡ b
    some_one a b e = cc

    by : (k : Call) → slice_get calls v.at.place ≡ Some k → head_of k ≡ h → (o : Option Delivery) → k.delivery ≡ o
        → arrival_at_delivery k.query k.delivery ≡ Some d → Comes calls r d
    by k is same None none e = absurd (let bad : None ≡ Some d = ap (arrival_at_delivery k.query) (sym none) ∙ e in cc)
    by k is same (Some x) del e =
        let one : arrival_of k.query x ≡ d =
        some_one (arrival_of k.query x) d (ap (arrival_at_delivery k.query) (sym del) ∙ e) in record {
          place = v.at.place;
          call = k;
          is = is;
          root = ap (λ (z : CallHead). z.root) same ∙ v.root;
          delivery = x;
          delivered = del;
          arrival = one;
          visits = ap (λ (z : Arrival). z.visits) one ∙ v.visits;
        }

pub all-named : Always CallsGoByIdentifier
all-named ts home words es w reached run r k id is top stated h d v =
    let s = (whole ts home words es w reached run).sound in
    let x = comes w.calls r h d v in
    ap (λ (z : Arrival). z.identifier) (sym x.arrival)
    ∙ one-stated w.calls (inside w.traders w.home) w.words s.rights s.kids r x.place x.call k x.delivery id x.is
    x.root
    x.delivered x.visits is stated

under-one : (within : Ior → Option ℕ) (w : World) → Sound within w → AreUnderOne w
under-one within w s r h g d e vd ve =
    let x = comes w.calls r h d vd in
    let y = comes w.calls r g e ve in
    let o = (s.rights x.place x.call x.is).root in
    let there : slice_get w.calls r ≡ Some o.call = subst (λ z. slice_get w.calls z ≡ Some o.call) x.root o.is in
    ap (λ (z : Arrival). z.identifier) (sym x.arrival)
    ∙ (go x y o.call there (stated_identifier o.call.query) refl ∙ ap (λ (z : Arrival). z.identifier) y.arrival)
  where
    some_one : (a b : Call) → Some a ≡ Some b → a ≡ b
    some_one a b e = cc

    go : (x : Comes w.calls r d) (y : Comes w.calls r e) (a : Call) → slice_get w.calls r ≡ Some a
        → (o : Option (List ℕ)) → stated_identifier a.query ≡ o
        → identifier_at x.delivery.seen.value x.call.query ≡ identifier_at y.delivery.seen.value y.call.query
    go x y a there (Some id) o =
        one-stated w.calls within w.words s.rights s.kids r x.place x.call a x.delivery id x.is x.root
        x.delivered x.visits
        there o
        ∙ sym (one-stated w.calls within w.words s.rights s.kids r y.place y.call a y.delivery id y.is y.root
        y.delivered
        y.visits there o)
    go x y a there None o =
        one-made w.calls within w.words s.rights s.kids r x.place y.place x.call y.call x.delivery y.delivery
        x.is y.is
        x.root y.root x.delivered y.delivered x.visits y.visits
        (λ b here. ap (λ (z : Call). stated_identifier z.query) (some_one b a (sym here ∙ there)) ∙ o)

pub all-under-one : Always AreUnderOne
all-under-one ts home words es w reached run =
    under-one (inside w.traders w.home) w (whole ts home words es w reached run).sound

-- ---- one tree

-- from here on, what is told is of the Ask that comes next
rebased : (within : Ior → Option ℕ) (base : List Marks) (r : ℕ) (w : World) → Whole within base r w
    → Whole within (map marks_of w.traders) (length w.calls) w
rebased within base r w x = record {
  marked = record {
    marking = record {
      stands = x.marked.marking.stands;
      once = x.marked.marking.once;
      serials = x.marked.marking.serials;
      apart = x.marked.marking.apart;
      kept = x.marked.marking.kept;
      known = λ n m id k is holds. inl record { marks = m; number = k; is = is; holds = holds };
      repeats = λ h d a root. absurd (
          let f = from_map head_of w.calls a.place h a.is in
          let y = (x.sound.rights a.place f.0 f.1).root in
          let below = slice_get_within w.calls f.0.root y.call y.is in
          let same : f.0.root ≡ h.root = ap (λ (z : CallHead). z.root) f.2 in
          omega arith);
    };
    points = x.marked.points;
    reached = x.marked.reached;
    unsent = x.marked.unsent;
    seen = x.marked.seen;
  };
  sound = x.sound;
}

module _ (before : List PlainTrader) (r : ℕ) (within : Ior → Option ℕ) (v : World)
    (x : Whole within (map marks_of before) r v)
    (p : Premises before r v.calls) where
  abbrev hs : List CallHead
  hs = map head_of v.calls

  abbrev ms : List Marks
  ms = map marks_of v.traders

  ring-same : (h : CallHead) (d : Arrival) (m : Marks) → ArrivesAt hs h d → slice_get ms h.target ≡ Some m
      → d.seen.bounds.ring ≡ m.ring
  ring-same h d m a is =
      let t = from_map marks_of v.traders h.target m is in
      ap (λ z. z.ring) (x.marked.points h d t.0 a t.1).bounds
      ∙ (sym (ring-is t.0 (x.marked.reached h.target t.0 t.1)) ∙ ap (λ (z : Marks). z.ring) t.2)

  given-for : (h : CallHead) (d : Arrival) → CallVisits r hs h d → Given (map marks_of before) ms r d.identifier hs
  given-for h d vd = record {
    fresh = λ n m k is held. (let t = from_map marks_of before n m is in
        p.fresh h d vd n t.0 k t.1 (subst (λ z. RemembersAs z d.identifier k) (sym t.2) held));
    remembered = λ g i e f m vg vi same order search is. subst (λ z. f.before < e.before + 1 + z)
        (ring-same g e m vg.at is) (p.remembered g i e f vg vi same order search);
    own = λ g e a visits same. p.alone h g d e vd a visits same;
    has = λ g e vg. under-one within v x.sound r g h e d vg vd;
  }

  trees : (c : ℕ) (k : Call) (y : Visit) → slice_get v.calls c ≡ Some k → k.root ≡ r → k.stage ≡ Ended y
      → IsTree (length v.calls) v.calls within v.words c (answer_in y)
  trees c k y is root ended =
      unroll v.calls within r v.words x.sound.rights
      (λ h d a own visits s e. search-exactly (map marks_of before) r d.identifier ms hs v.clock x.marked.marking
      (given-for h d (record { at = a; root = own; visits = visits })) h d a own visits s e) (length v.calls) c
      k y is root
      ended (omega arith)

-- one depth-first walk results, whatever comes in whatever order
pub one-tree : OneTree
one-tree ts home words es later w u v n q reached run asked after p =
    let r : ℕ = length w.calls in
    let m : List Marks = map marks_of ts in
    let a : Whole (inside ts home) m 0 w = first ts home words es w reached run in
    let b : Whole (inside ts home) m 0 u = whole-event (inside ts home) m 0 w (Ask n q) a u asked in
    let c : Whole (inside ts home) m 0 v = whole-run (inside ts home) m 0 b after in
    let within : Ior → Option ℕ = inside v.traders v.home in
    let s : Whole within m 0 w =
    whole-run within m 0 (whole-start within ts home words reached (λ x. sym (c.sound.inside x))) run in
    let z : Whole within (map marks_of w.traders) r w = rebased within m 0 w s in
    let e : Whole within (map marks_of w.traders) r u =
    whole-event within (map marks_of w.traders) r w (Ask n q) z u asked in
    let f : Whole within (map marks_of w.traders) r v = whole-run within (map marks_of w.traders) r e after in
    λ c k y is root ended. trees w.traders r within v f p c k y is root ended
