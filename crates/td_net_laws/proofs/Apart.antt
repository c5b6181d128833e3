-- What holds of marks, and of what was seen of traders, after every list of events.
use Rattle.std.proofs.Common.{◌≡◌, ℕ, ◌+◌, ◌<◌, List, [], ◌∷◌, map, length, slice_get, Option, Some, None, Bool, true}
use Rattle.std.proofs.Common.{option_map, refl, sym, ◌∙◌, ap, subst, arith, ◌⊎◌, inl, inr}
use Rattle.std.proofs.lemmas.Option.{slice_get-map}
use Rattle.td_cdr.specs.Marks.{Marks}
use Rattle.td_net.specs.Schedules.{Run}
use Rattle.td_net.specs.Worlds.{World, start}
use Rattle.td_net.specs.declared.call.Call.{Call}
use Rattle.td_net.specs.declared.call.Delivery.{Delivery}
use Rattle.td_net.specs.declared.event.Event.{Event}
use Rattle.td_net_laws.proofs.Below.{ring-is, search-identifier, search-is, search-mark}
use Rattle.td_net_laws.proofs.Marking.{Marking}
use Rattle.td_net_laws.proofs.Moving.{Marked, head-get, marks_of, run-kept}
use Rattle.td_net_laws.proofs.Points.{past-is}
use Rattle.td_net_laws.proofs.Places.{from_map}
use Rattle.td_net_laws.specs.Always.{Always, MarksAreApart, AreFar, AreRead, CallSearched}
use Rattle.td_net_laws.specs.Arrivals.{Arrival, ArrivesAt, CallHead, arrival_of, arrival_at_delivery, head_of}
use Rattle.td_net_laws.specs.Arrivals.{identifier_at, search_at}
use Rattle.td_ops.specs.declared.call.Query.{Query}
use Rattle.td_store.specs.declared.local.Local.{Local}
use Rattle.td_trader.specs.Beginning.{is_search}
use Rattle.td_trader.specs.PlainTraders.{PlainTrader, begin_at}
use Rattle.td_trader.specs.declared.begin.Begin.{Begin}
use Rattle.td_trader.specs.declared.begin.Begin.TheVariants.{Search}
use Rattle.td_trader_laws.specs.Reaching.{AreReached, IsReached}
use Rattle.td_walk.specs.declared.trace.Address.{Address}

pub marked-start : (ts : List PlainTrader) (home : Address) (words : List ℕ) (r : ℕ) → AreReached ts
    → Marked (map marks_of ts) r (start ts home words)
marked-start ts home words r reached = record {
  marking = record {
    stands = λ h d a. absurd (empty h d a);
    once = λ i j h g d e hi gj hd ge same. absurd (let x = hi in cc);
    serials = λ h d a. absurd (empty h d a);
    apart = λ h g d e m a. absurd (empty h d a);
    kept = λ h d m a. absurd (empty h d a);
    known = λ n m id k is holds. inl record { marks = m; number = k; is = is; holds = holds };
    repeats = λ h d a. absurd (empty h d a);
  };
  points = λ h d t a is. absurd (empty h d a);
  reached = reached;
  unsent = λ c k is. absurd (let x = is in cc);
  seen = λ h d a. absurd (empty h d a);
}
  where
    empty : (h : CallHead) (d : Arrival) → ArrivesAt [] h d → ⊥
    empty h d a = let x = a.is in absurd (cc)

pub marked-always : Always (λ w. (base : List Marks) × Marked base 0 w)
marked-always ts home words events w reached run =
    (map marks_of ts, run-kept (map marks_of ts) 0 (marked-start ts home words 0 reached) run)

pub call-at : (calls : List Call) (c : ℕ) (k : Call) (d : Delivery) → slice_get calls c ≡ Some k
    → k.delivery ≡ Some d → ArrivesAt (map head_of calls) (head_of k) (arrival_of k.query d)
call-at calls c k d is delivered = record {
  place = c;
  is = head-get calls c k is;
  has_arrived = ap (arrival_at_delivery k.query) delivered;
}

-- what a search is, read off its call
record Found (k : Call) (d : Delivery) (l : Local) (identifier : List ℕ) : Type 0 where
  search : (arrival_of k.query d).searches ≡ true
  mark : l.mark ≡ (arrival_of k.query d).before + 1
  named : (arrival_of k.query d).identifier ≡ identifier

found : (k : Call) (d : Delivery) (l : Local) (identifier : List ℕ) → IsReached d.seen.value
    → begin_at d.seen.value k.query ≡ Search l → l.identifier ≡ Some identifier → Found k d l identifier
found k d l identifier r begun named =
    let t : PlainTrader = d.seen.value in
    let is : l ≡ search_at t k.query = search-is t k.query l r begun in record {
      search = ap is_search begun;
      mark = ap (λ (z : Local). z.mark) is ∙ search-mark t k.query;
      named =
          same_some (identifier_at t k.query) identifier
          (sym (search-identifier t k.query) ∙ (ap (λ (z : Local). z.identifier) (sym is) ∙ named));
    }
  where
    same_some : (a b : List ℕ) → ◌≡◌ {A = Option (List ℕ)} (Some a) (Some b) → a ≡ b
    same_some a b h = cc

three : (x y : ℕ) → (x < y) ⊎ ((y < x) ⊎ (x ≡ y))
three x y = grind arith

pub apart : Always MarksAreApart
unfolding call-at
apart ts home words events w reached run i j h g d e k l identifier differ a b targets named also =
    go (three (arrival_of h.query d).serial (arrival_of g.query e).serial)
  where
    s : Marked (map marks_of ts) 0 w
    s = run-kept (map marks_of ts) 0 (marked-start ts home words 0 reached) run

    m : Marking (map marks_of ts) 0 (map marks_of w.traders) (map head_of w.calls) w.clock
    m = s.marking

    at_h : ArrivesAt (map head_of w.calls) (head_of h) (arrival_of h.query d)
    at_h = call-at w.calls i h d a.is a.delivered

    at_g : ArrivesAt (map head_of w.calls) (head_of g) (arrival_of g.query e)
    at_g = call-at w.calls j g e b.is b.delivered

    marks : (n : Marks) × (slice_get (map marks_of w.traders) h.target ≡ Some n)
    marks = m.stands (head_of h) (arrival_of h.query d) at_h

    trader : (t : PlainTrader) × (slice_get w.traders h.target ≡ Some t) × (marks_of t ≡ marks.0)
    trader = from_map marks_of w.traders h.target marks.0 marks.1

    x : Found h d k identifier
    x = found h d k identifier (s.seen (head_of h) (arrival_of h.query d) at_h) a.begun named

    y : Found g e l identifier
    y = found g e l identifier (s.seen (head_of g) (arrival_of g.query e) at_g) b.begun also

    ring : marks.0.ring ≡ d.seen.value.bounds.ring
    ring =
        ap (λ (z : Marks). z.ring) (sym trader.2)
        ∙ (ring-is trader.0 (s.reached h.target trader.0 trader.1)
        ∙ ap (λ z. z.ring) (sym (s.points (head_of h) (arrival_of h.query d) trader.0 at_h trader.1).bounds))

    go : ((arrival_of h.query d).serial < (arrival_of g.query e).serial)
        ⊎ (((arrival_of g.query e).serial < (arrival_of h.query d).serial)
        ⊎ ((arrival_of h.query d).serial ≡ (arrival_of g.query e).serial))
        → AreFar d.seen.value.bounds.ring k.mark l.mark
    go (inl lt) =
        let f = m.apart (head_of h) (head_of g) (arrival_of h.query d) (arrival_of g.query e) marks.0 at_h at_g
        x.search
        y.search targets (y.named ∙ sym x.named) lt marks.1 in
        let p = x.mark in let q = y.mark in let r = ring in inl (omega arith)
    go (inr (inl lt)) =
        let there = subst (λ z. slice_get (map marks_of w.traders) z ≡ Some marks.0) (sym targets) marks.1 in
        let f = m.apart (head_of g) (head_of h) (arrival_of g.query e) (arrival_of h.query d) marks.0 at_g at_h
        y.search
        x.search (sym targets) (x.named ∙ sym y.named) lt there in
        let p = x.mark in let q = y.mark in let r = ring in inr (omega arith)
    go (inr (inr same)) =
        absurd (differ (m.once i j (head_of h) (head_of g) (arrival_of h.query d) (arrival_of g.query e) at_h.is
        at_g.is
        at_h.has_arrived at_g.has_arrived same))

pub read : Always AreRead
read ts home words events w reached run c k d t is delivered there =
    let s = run-kept (map marks_of ts) 0 (marked-start ts home words 0 reached) run in
    past-is d.seen.value t
    (s.points (head_of k) (arrival_of k.query d) t (call-at w.calls c k d is delivered) there)
