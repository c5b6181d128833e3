-- A call of an Ask that visits its trader searches it exactly where the trader wasn't visited before.
use Rattle.std.proofs.Common.{nat_lt, ◌≡◌, ℕ, zero, suc, ◌+◌, ◌<◌, ◌==◌, ◌&&◌, ◌||◌, not, List, [], ◌∷◌, map}
use Rattle.std.proofs.Common.{slice_get}
use Rattle.std.proofs.Common.{Option, Some, None, Bool, true, false, refl, sym, ◌∙◌, ap, subst, arith, inl, inr}
use Rattle.std.proofs.lemmas.Bool.Decides.{Decides-eqb, Decides-ltb}
use Rattle.td_cdr.specs.Marks.{Marks, RemembersAs}
use Rattle.td_net_laws.proofs.Marking.{Marking, Searched}
use Rattle.td_net_laws.specs.Arrivals.{Arrival, ArrivesAt, CallHead}
use Rattle.td_net_laws.specs.Premises.{CallVisits}
use Rattle.td_net_laws.specs.Trees.{earlier, is_visited}

-- an earlier arrival of the same Ask at this trader
pub record Before (hs : List CallHead) (target root serial : ℕ) : Type 0 where
  pub head : CallHead
  pub arrival : Arrival
  pub at : ArrivesAt hs head arrival
  pub target_is : head.target ≡ target
  pub root_is : head.root ≡ root
  pub visits : arrival.visits ≡ true
  pub earlier : arrival.serial < serial

test : CallHead → ℕ → ℕ → ℕ → Bool
test h target root serial = (h.target == target) && ((h.root == root) && earlier serial h.arrival)

three : (a b c : Bool) → (a && (b && c)) ≡ true → (a ≡ true) × (b ≡ true) × (c ≡ true)
three true true true e = (refl, refl, refl)
three true true false e = absurd (cc)
three true false c e = absurd (cc)
three false b c e = absurd (cc)

all_three : (a b c : Bool) → a ≡ true → b ≡ true → c ≡ true → (a && (b && c)) ≡ true
all_three a b c x y z = rw (x, y, z) refl

two : (a b : Bool) → (a && b) ≡ true → (a ≡ true) × (b ≡ true)
two true b e = (refl, e)
two false b e = absurd (cc)

earlier-from : (serial : ℕ) (o : Option Arrival) → earlier serial o ≡ true
    → (d : Arrival) × (o ≡ Some d) × (d.visits ≡ true) × (d.serial < serial)
earlier-from serial None e = absurd (cc)
earlier-from serial (Some d) e = let x = two d.visits (nat_lt d.serial serial) e in
    (d, refl, x.0, (Decides-ltb d.serial serial).0 x.1)

before-more : (x : CallHead) (hs : List CallHead) (target root serial : ℕ) → Before hs target root serial
    → Before (x ∷ hs) target root serial
before-more x hs target root serial b = record {
  head = b.head;
  arrival = b.arrival;
  at = record {
    place = suc b.at.place;
    is = b.at.is;
    has_arrived =
        b.at.has_arrived;
  };
  target_is = b.target_is;
  root_is = b.root_is;
  visits = b.visits;
  earlier = b.earlier;
}

pub visited-from : (hs : List CallHead) (target root serial : ℕ) → is_visited hs target root serial ≡ true
    → Before hs target root serial
visited-from [] target root serial e = absurd (cc)
visited-from (h ∷ hs) target root serial e = go
    ((h.target == target) && ((h.root == root) && earlier serial h.arrival)) refl e
    (visited-from hs target root serial)
  where
    go : (b : Bool) → ((h.target == target) && ((h.root == root) && earlier serial h.arrival)) ≡ b
        → (b || is_visited hs target root serial) ≡ true
        → (is_visited hs target root serial ≡ true → Before hs target root serial)
        → Before (h ∷ hs) target root serial
    go true t x more =
        let parts = three (h.target == target) (h.root == root) (earlier serial h.arrival) t in
        let d = earlier-from serial h.arrival parts.2 in
        record {
          head = h;
          arrival = d.0;
          at = record { place = zero; is = refl; has_arrived = d.1 };
          target_is = (Decides-eqb h.target target).0 parts.0;
          root_is = (Decides-eqb h.root root).0 parts.1;
          visits = d.2;
          earlier = d.3;
        }
    go false t x more = before-more h hs target root serial (more x)

or-right : (a b : Bool) → b ≡ true → (a || b) ≡ true
or-right true b e = refl
or-right false b e = e

visited-at : (hs : List CallHead) (i : ℕ) (h : CallHead) (d : Arrival) (target root serial : ℕ)
    → slice_get hs i ≡ Some h → h.arrival ≡ Some d → h.target ≡ target → h.root ≡ root → d.visits ≡ true
    → d.serial < serial → is_visited hs target root serial ≡ true
visited-at [] i h d target root serial is del t o pl s = absurd (cc)
visited-at (x ∷ xs) zero h d target root serial is del t o pl s =
    let same : x ≡ h = cc in
    let yes1 : (x.target == target) ≡ true = (Decides-eqb x.target target).1 (ap (λ z. z.target) same ∙ t) in
    let yes2 : (x.root == root) ≡ true = (Decides-eqb x.root root).1 (ap (λ z. z.root) same ∙ o) in
    let yes3 : earlier serial x.arrival ≡ true = ap (earlier serial)
    (ap (λ z. z.arrival) same ∙ del) ∙ (rw pl ((Decides-ltb d.serial serial).1 s)) in
    ap (λ z. z || is_visited xs target root serial) (all_three _ _ _ yes1 yes2 yes3)
visited-at (x ∷ xs) (suc i) h d target root serial is del t o pl s = or-right
    ((x.target == target) && ((x.root == root) && earlier serial x.arrival)) (is_visited xs target root serial)
    (visited-at xs i h d target root serial is del t o pl s)

pub visited-before : (hs : List CallHead) (h : CallHead) (d : Arrival) (target root serial : ℕ) → ArrivesAt hs h d
    → h.target ≡ target → h.root ≡ root → d.visits ≡ true → d.serial < serial → is_visited hs target root serial ≡ true
visited-before hs h d target root serial a = visited-at hs a.place h d target root serial a.is a.has_arrived

-- what the premises on an Ask give, for the one identifier under which its calls visit
pub record Given (base ms : List Marks) (r : ℕ) (id : List ℕ) (hs : List CallHead) : Type 0 where
  pub fresh : (n : ℕ) (m : Marks) (k : ℕ) → slice_get base n ≡ Some m → RemembersAs m id k → ⊥
  pub remembered : (h g : CallHead) (d e : Arrival) (m : Marks) → CallVisits r hs h d → CallVisits r hs g e → g.target ≡ h.target
      → d.serial < e.serial → d.searches ≡ true → slice_get ms h.target ≡ Some m → e.before < d.before + 1 + m.ring
  -- the calls that visit under it are its own
  pub own : (g : CallHead) (e : Arrival) → ArrivesAt hs g e → e.visits ≡ true → e.identifier ≡ id → g.root ≡ r
  pub has : (h : CallHead) (d : Arrival) → CallVisits r hs h d → d.identifier ≡ id

module _ (base : List Marks) (r : ℕ) (id : List ℕ) (ms : List Marks) (hs : List CallHead) (clock : ℕ)
    (w : Marking base r ms hs clock) (p : Given base ms r id hs) where
  visit : (h : CallHead) (d : Arrival) → ArrivesAt hs h d → h.root ≡ r → d.visits ≡ true → CallVisits r hs h d
  visit h d a root visits = record { at = a; root = root; visits = visits }

  -- a repeat follows a search of the same Ask
  after_search : (h : CallHead) (d : Arrival) → ArrivesAt hs h d → h.root ≡ r → d.visits ≡ true → d.searches ≡ false
      → Searched hs h.target d.identifier d.serial
  after_search h d a root visits not_search =
      elim (w.repeats h d a root visits not_search) as (λ z. Searched hs h.target d.identifier d.serial) [
        | inl k ↦
            absurd (p.fresh h.target k.marks k.number k.is
            (subst (λ z. RemembersAs k.marks z k.number) (p.has h d (visit h d a root visits)) k.holds))
        | inr s ↦ s
      ]

  -- no search of the Ask came before a search
  alone : (h g : CallHead) (d e : Arrival) → ArrivesAt hs h d → ArrivesAt hs g e → h.root ≡ r → g.root ≡ r → g.target ≡ h.target
      → d.serial < e.serial → d.searches ≡ true → e.searches ≡ true → d.visits ≡ true → e.visits ≡ true → ⊥
  alone h g d e a b rh rg same order sd se pd pe =
      let m = w.stands h d a in
      let x = visit h d a rh pd in
      let y = visit g e b rg pe in
      let far = w.apart h g d e m.0 a b sd se same (p.has g e y ∙ sym (p.has h d x)) order m.1 in
      let near = p.remembered h g d e m.0 x y same order sd m.1 in
      omega arith

  earlier_one : (h : CallHead) (d : Arrival) → ArrivesAt hs h d → h.root ≡ r → d.visits ≡ true → d.searches ≡ true
      → (b : Before hs h.target h.root d.serial) → (s : Bool) → b.arrival.searches ≡ s → ⊥
  earlier_one h d a root visits is b true sb =
      alone b.head h b.arrival d b.at a (b.root_is ∙ root) root (sym b.target_is) b.earlier sb is b.visits visits
  earlier_one h d a root visits is b false sb =
      let s = after_search b.head b.arrival b.at (b.root_is ∙ root) b.visits sb in
      let own =
      p.own s.head s.arrival s.at s.visit
      (s.identifier ∙ p.has b.head b.arrival (visit b.head b.arrival b.at (b.root_is ∙ root) b.visits)) in
      let x = s.before in let y = b.earlier in
      alone s.head h s.arrival d s.at a own root (sym (s.target ∙ b.target_is)) (omega arith) s.search is
      s.visit visits

  pub search-exactly : (h : CallHead) (d : Arrival) → ArrivesAt hs h d → h.root ≡ r → d.visits ≡ true → (s : Bool)
      → d.searches ≡ s → not (is_visited hs h.target h.root d.serial) ≡ s
  search-exactly h d a root visits false is =
      let s = after_search h d a root visits is in
      ap not (visited-before hs s.head s.arrival h.target h.root d.serial s.at s.target
      (p.own s.head s.arrival s.at s.visit (s.identifier ∙ p.has h d (visit h d a root visits)) ∙ sym root) s.visit
      s.before)
  search-exactly h d a root visits true is = go (is_visited hs h.target h.root d.serial) refl
    where
      go : (v : Bool) → is_visited hs h.target h.root d.serial ≡ v → not v ≡ true
      go false e = refl
      go true e =
          absurd (let b = visited-from hs h.target h.root d.serial e in
          earlier_one h d a root visits is b b.arrival.searches refl)
