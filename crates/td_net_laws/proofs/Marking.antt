-- A trader remembers an identifier exactly where a search under it came there, as long as its ring holds the mark.
use Rattle.std.proofs.Common.{◌≡◌, ℕ, ◌+◌, ◌<◌, ◌≤◌, ◌==◌, List, [], ◌∷◌, ◌++◌, length, slice_get, slice_set, Some}
use Rattle.std.proofs.Common.{None}
use Rattle.std.proofs.Common.{Bool, true, false, refl, sym, ◌∙◌, ap, subst, arith, ◌⊎◌, inl, inr}
use Rattle.std.proofs.lemmas.Bool.Decides.{Decides-eqb}
use Rattle.td_cdr.specs.Marks.{Marks, RemembersAs}
use Rattle.td_net_laws.proofs.Below.{MarkedOnce}
use Rattle.td_net_laws.proofs.Places.{get-set_same, get-set_other, get-set, get-more, get-append, set-get}
use Rattle.td_net_laws.specs.Arrivals.{Arrival, ArrivesAt, CallHead}

-- a call with this identifier searched there, before this serial number
pub record Searched (hs : List CallHead) (n : ℕ) (id : List ℕ) (serial : ℕ) : Type 0 where
  pub head : CallHead
  pub arrival : Arrival
  pub at : ArrivesAt hs head arrival
  pub target : head.target ≡ n
  pub identifier : arrival.identifier ≡ id
  pub search : arrival.searches ≡ true
  pub visit : arrival.visits ≡ true
  pub before : arrival.serial < serial

-- it was remembered there at the beginning
pub record Known (base : List Marks) (n : ℕ) (id : List ℕ) : Type 0 where
  pub marks : Marks
  pub number : ℕ
  pub is : slice_get base n ≡ Some marks
  pub holds : RemembersAs marks id number

-- no two calls have one serial number
abbrev pub Once : List CallHead → Type 0
Once hs =
    (i j : ℕ) (h g : CallHead) (d e : Arrival) → slice_get hs i ≡ Some h → slice_get hs j ≡ Some g → h.arrival ≡ Some d
    → g.arrival ≡ Some e → d.serial ≡ e.serial → i ≡ j

once-open : (hs : List CallHead) (x : CallHead) → x.arrival ≡ None → Once hs → Once (hs ++ x ∷ [])
once-open hs x none once i j h g d e hi gj hd ge same = go (get-append hs x i h hi) (get-append hs x j g gj)
  where
    never : (y : CallHead) (c : Arrival) → x ≡ y → y.arrival ≡ Some c → ⊥
    never y c is del = let z = ap (λ (a : CallHead). a.arrival) is in absurd (cc)

    go : ((i ≡ length hs) × (x ≡ h)) ⊎ (slice_get hs i ≡ Some h)
        → ((j ≡ length hs) × (x ≡ g)) ⊎ (slice_get hs j ≡ Some g) → i ≡ j
    go (inl a) b = absurd (never h d a.1 hd)
    go (inr a) (inl b) = absurd (never g e b.1 ge)
    go (inr a) (inr b) = once i j h g d e a b hd ge same

once-deliver : (hs : List CallHead) (c : ℕ) (o x : CallHead) (f : Arrival) → slice_get hs c ≡ Some o → x.arrival ≡ Some f
    → ((h : CallHead) (d : Arrival) → ArrivesAt hs h d → d.serial < f.serial) → Once hs → Once (slice_set hs c x)
once-deliver hs c o x f was new serials once i j h g d e hi gj hd ge same =
    go (get-set hs c i o x h was hi) (get-set hs c j o x g was gj)
  where
    is_new : (y : CallHead) (b : Arrival) → x ≡ y → y.arrival ≡ Some b → f ≡ b
    is_new y b is del = let z = ap (λ (a : CallHead). a.arrival) is in cc

    go : ((i ≡ c) × (x ≡ h)) ⊎ ((i ≡ c → ⊥) × (slice_get hs i ≡ Some h))
        → ((j ≡ c) × (x ≡ g)) ⊎ ((j ≡ c → ⊥) × (slice_get hs j ≡ Some g)) → i ≡ j
    go (inl a) (inl b) = a.0 ∙ sym b.0
    go (inl a) (inr b) =
        absurd (let z = ap (λ (y : Arrival). y.serial) (is_new h d a.1 hd) in
        let lt = serials g e record { place = j; is = b.1; has_arrived = ge } in omega arith)
    go (inr a) (inl b) =
        absurd (let z = ap (λ (y : Arrival). y.serial) (is_new g e b.1 ge) in
        let lt = serials h d record { place = i; is = a.1; has_arrived = hd } in omega arith)
    go (inr a) (inr b) = once i j h g d e a.1 b.1 hd ge same

-- base: the marks at the beginning, since when the calls of the Ask r are told of
pub record Marking (base : List Marks) (r : ℕ) (ms : List Marks) (hs : List CallHead) (clock : ℕ) : Type 0 where
  pub stands : (h : CallHead) (d : Arrival) → ArrivesAt hs h d → (m : Marks) × (slice_get ms h.target ≡ Some m)
  pub once : Once hs
  pub serials : (h : CallHead) (d : Arrival) → ArrivesAt hs h d → d.serial < clock
  -- two searches of one trader under one identifier lie more than a ring apart
  pub apart : (h g : CallHead) (d e : Arrival) (m : Marks) → ArrivesAt hs h d → ArrivesAt hs g e → d.searches ≡ true → e.searches ≡ true
      → g.target ≡ h.target → e.identifier ≡ d.identifier → d.serial < e.serial → slice_get ms h.target ≡ Some m
      → d.before + 1 + m.ring ≤ e.before
  -- a search's mark stands there until as many others have followed as the ring holds
  pub kept : (h : CallHead) (d : Arrival) (m : Marks) → ArrivesAt hs h d → d.searches ≡ true → slice_get ms h.target ≡ Some m
      → m.count < d.before + 1 + m.ring → RemembersAs m d.identifier (d.before + 1)
  -- a mark stood there at the beginning, or comes from a search
  pub known : (n : ℕ) (m : Marks) (id : List ℕ) (k : ℕ) → slice_get ms n ≡ Some m → RemembersAs m id k
      → Known base n id ⊎ Searched hs n id clock
  -- a repeat follows a search
  pub repeats : (h : CallHead) (d : Arrival) → ArrivesAt hs h d → h.root ≡ r → d.visits ≡ true → d.searches ≡ false
      → Known base h.target d.identifier ⊎ Searched hs h.target d.identifier d.serial

-- ---- lists of calls that grew

pub at-more : (hs : List CallHead) (x h : CallHead) (d : Arrival) → ArrivesAt hs h d → ArrivesAt (hs ++ x ∷ []) h d
at-more hs x h d a = record {
  place = a.place;
  is = get-more hs (x ∷ []) a.place h a.is;
  has_arrived = a.has_arrived;
}

pub at-append : (hs : List CallHead) (x h : CallHead) (d : Arrival) → x.arrival ≡ None → ArrivesAt (hs ++ x ∷ []) h d → ArrivesAt hs h d
at-append hs x h d none a =
    elim (get-append hs x a.place h a.is) as (λ o. ArrivesAt hs h d) [
      | inl e ↦ absurd (let same = ap (λ z. z.arrival) e.1 in let is = a.has_arrived in cc)
      | inr e ↦ record { place = a.place; is = e; has_arrived = a.has_arrived }
    ]

pub at-set : (hs : List CallHead) (c : ℕ) (o x h : CallHead) (d : Arrival) → slice_get hs c ≡ Some o → o.arrival ≡ None
    → ArrivesAt hs h d → ArrivesAt (slice_set hs c x) h d
at-set hs c o x h d was none a = record {
  place = a.place;
  is = get-set_other hs c a.place x (λ e. absurd (
      let i : slice_get hs c ≡ Some h = subst (λ z. slice_get hs z ≡ Some h) e a.is in
      let same : o ≡ h = cc in
      let p = ap (λ z. z.arrival) same in
      let is = a.has_arrived in cc)) ∙ a.is;
  has_arrived = a.has_arrived;
}

pub at-new : (hs : List CallHead) (c : ℕ) (o x : CallHead) (d : Arrival) → slice_get hs c ≡ Some o → x.arrival ≡ Some d
    → ArrivesAt (slice_set hs c x) x d
at-new hs c o x d was is = record { place = c; is = get-set_same hs c o x was; has_arrived = is }

pub at-old : (hs : List CallHead) (c : ℕ) (o x h : CallHead) (e d : Arrival) → slice_get hs c ≡ Some o → x.arrival ≡ Some e
    → ArrivesAt (slice_set hs c x) h d → ArrivesAt hs h d ⊎ ((x ≡ h) × (e ≡ d))
at-old hs c o x h e d was is a =
    elim (get-set hs c a.place o x h was a.is) as (λ o. ArrivesAt hs h d ⊎ ((x ≡ h) × (e ≡ d))) [
      | inl z ↦ inr (z.1, let same = ap (λ y. y.arrival) z.1 in let i = a.has_arrived in cc)
      | inr z ↦ inl record { place = a.place; is = z.1; has_arrived = a.has_arrived }
    ]

searched-map : (hs ks : List CallHead) (n : ℕ) (id : List ℕ) (s t : ℕ)
    → ((h : CallHead) (d : Arrival) → ArrivesAt hs h d → ArrivesAt ks h d) → s ≤ t → Searched hs n id s → Searched ks n id t
searched-map hs ks n id s t goes le x = record {
  head = x.head;
  arrival = x.arrival;
  at = goes x.head x.arrival x.at;
  target = x.target;
  identifier = x.identifier;
  search = x.search;
  visit = x.visit;
  before = let b = x.before in omega arith;
}

either-map : (base : List Marks) (hs ks : List CallHead) (n : ℕ) (id : List ℕ) (s t : ℕ)
    → ((h : CallHead) (d : Arrival) → ArrivesAt hs h d → ArrivesAt ks h d) → s ≤ t → Known base n id ⊎ Searched hs n id s
    → Known base n id ⊎ Searched ks n id t
either-map base hs ks n id s t goes le (inl x) = inl x
either-map base hs ks n id s t goes le (inr x) = inr (searched-map hs ks n id s t goes le x)

pub same_or_not : (a b : ℕ) → (a ≡ b) ⊎ (a ≡ b → ⊥)
same_or_not a b = go (a == b) refl
  where
    go : (x : Bool) → (a == b) ≡ x → (a ≡ b) ⊎ (a ≡ b → ⊥)
    go true t = inl ((Decides-eqb a b).0 t)
    go false t = inr (λ e. absurd (let y : (a == b) ≡ true = (Decides-eqb a b).1 e in cc))

-- ---- the moves

module _ (base : List Marks) (r : ℕ) (ms : List Marks) (hs : List CallHead) (clock : ℕ)
    (w : Marking base r ms hs clock) where
  -- a call is opened
  pub marking-open : (x : CallHead) → x.arrival ≡ None → Marking base r ms (hs ++ x ∷ []) clock
  marking-open x none = record {
    stands = λ h d a. w.stands h d (at-append hs x h d none a);
    once = once-open hs x none w.once;
    serials = λ h d a. w.serials h d (at-append hs x h d none a);
    apart = λ h g d e m a b. w.apart h g d e m (at-append hs x h d none a) (at-append hs x g e none b);
    kept = λ h d m a. w.kept h d m (at-append hs x h d none a);
    known = λ n m id k is holds. either-map base hs (hs ++ x ∷ []) n id clock clock (λ h d. at-more hs x h d)
        (omega arith) (w.known n m id k is holds);
    repeats = λ h d a root plain not_search. either-map base hs (hs ++ x ∷ []) h.target d.identifier d.serial d.serial
        (λ h d. at-more hs x h d) (omega arith) (w.repeats h d (at-append hs x h d none a) root plain not_search);
  }

  -- the call c of the head o, which hadn't come to its trader, comes there: its head is then x
  module _ (c : ℕ) (o x : CallHead) (f : Arrival) (m : Marks) (was : slice_get hs c ≡ Some o) (none : o.arrival ≡ None)
      (there : slice_get ms o.target ≡ Some m) (target : x.target ≡ o.target) (new : x.arrival ≡ Some f)
      (serial : f.serial ≡ clock) (before : f.before ≡ m.count) where
    goes : (h : CallHead) (d : Arrival) → ArrivesAt hs h d → ArrivesAt (slice_set hs c x) h d
    goes h d = at-set hs c o x h d was none

    back : (h : CallHead) (d : Arrival) → ArrivesAt (slice_set hs c x) h d → ArrivesAt hs h d ⊎ ((x ≡ h) × (f ≡ d))
    back h d = at-old hs c o x h f d was new

    older : (h : CallHead) (d : Arrival) → ArrivesAt hs h d → d.serial < f.serial
    older h d a = let s = w.serials h d a in omega arith

    next : (h : CallHead) (d : Arrival) → ArrivesAt hs h d ⊎ ((x ≡ h) × (f ≡ d)) → d.serial < clock + 1
    next h d (inl a) = let s = w.serials h d a in omega arith
    next h d (inr a) = let s = ap (λ (z : Arrival). z.serial) a.1 in omega arith

    at_target : (h : CallHead) → x ≡ h → h.target ≡ o.target
    at_target h e = ap (λ (z : CallHead). z.target) (sym e) ∙ target

    -- a delivery that marks nothing: where it visits the trader, its identifier is held
    pub marking-unmarked : f.searches ≡ false → (f.visits ≡ true → (k : ℕ) × RemembersAs m f.identifier k)
        → Marking base r ms (slice_set hs c x) (clock + 1)
    marking-unmarked other held = record {
      stands = λ h d a. there_still h d (back h d a);
      once = once-deliver hs c o x f was new older w.once;
      serials = λ h d a. next h d (back h d a);
      apart = λ h g d e n a b sd se. apart_still h g d e n (back h d a) (back g e b) sd se;
      kept = λ h d n a sd. kept_still h d n (back h d a) sd;
      known = λ n k i j is h. either-map base hs (slice_set hs c x) n i clock (clock + 1) goes (omega arith)
          (w.known n k i j is h);
      repeats = λ h d a root visits not_search. repeats_still h d (back h d a) root visits not_search;
    }
      where
        there_still : (h : CallHead) (d : Arrival) → ArrivesAt hs h d ⊎ ((x ≡ h) × (f ≡ d))
            → (n : Marks) × (slice_get ms h.target ≡ Some n)
        there_still h d (inl a) = w.stands h d a
        there_still h d (inr a) = (m, subst (λ z. slice_get ms z ≡ Some m) (sym (at_target h a.0)) there)

        never : (d : Arrival) → f ≡ d → d.searches ≡ true → ⊥
        never d e s = let y = ap (λ (z : Arrival). z.searches) e in absurd (cc)

        apart_still : (h g : CallHead) (d e : Arrival) (n : Marks) → ArrivesAt hs h d ⊎ ((x ≡ h) × (f ≡ d))
            → ArrivesAt hs g e ⊎ ((x ≡ g) × (f ≡ e)) → d.searches ≡ true → e.searches ≡ true → g.target ≡ h.target
            → e.identifier ≡ d.identifier → d.serial < e.serial → slice_get ms h.target ≡ Some n
            → d.before + 1 + n.ring ≤ e.before
        apart_still h g d e n (inl a) (inl b) sd se = w.apart h g d e n a b sd se
        apart_still h g d e n (inl a) (inr b) sd se = absurd (never e b.1 se)
        apart_still h g d e n (inr a) b sd se = absurd (never d a.1 sd)

        kept_still : (h : CallHead) (d : Arrival) (n : Marks) → ArrivesAt hs h d ⊎ ((x ≡ h) × (f ≡ d)) → d.searches ≡ true
            → slice_get ms h.target ≡ Some n → n.count < d.before + 1 + n.ring → RemembersAs n d.identifier (d.before + 1)
        kept_still h d n (inl a) sd = w.kept h d n a sd
        kept_still h d n (inr a) sd = absurd (never d a.1 sd)

        repeats_still : (h : CallHead) (d : Arrival) → ArrivesAt hs h d ⊎ ((x ≡ h) × (f ≡ d)) → h.root ≡ r → d.visits ≡ true
            → d.searches ≡ false
            → Known base h.target d.identifier ⊎ Searched (slice_set hs c x) h.target d.identifier d.serial
        repeats_still h d (inl a) root visits not_search =
            either-map base hs (slice_set hs c x) h.target d.identifier d.serial d.serial goes (omega arith)
            (w.repeats h d a root visits not_search)
        repeats_still h d (inr a) root visits not_search =
            let y = held (ap (λ (z : Arrival). z.visits) a.1 ∙ visits) in
            let s = ap (λ (z : Arrival). z.serial) a.1 in
            either-map base hs (slice_set hs c x) h.target d.identifier clock d.serial goes (omega arith)
            (subst (λ z. Known base z d.identifier ⊎ Searched hs z d.identifier clock) (sym (at_target h a.0))
            (subst (λ (z : Arrival). Known base o.target z.identifier ⊎ Searched hs o.target z.identifier clock) a.1
            (w.known o.target m f.identifier y.0 there y.1)))

    -- a delivery that is a search; its trader's marks are then n
    module _ (n : Marks) (one : MarkedOnce m f.identifier n) where
      after : (k : ℕ) (y : Marks) → slice_get (slice_set ms o.target n) k ≡ Some y
          → ((k ≡ o.target) × (n ≡ y)) ⊎ ((k ≡ o.target → ⊥) × (slice_get ms k ≡ Some y))
      after k y is = get-set ms o.target k m n y there is

      ring_same : (k : ℕ) (y : Marks) → slice_get (slice_set ms o.target n) k ≡ Some y
          → (z : Marks) × (slice_get ms k ≡ Some z) × (z.ring ≡ y.ring)
      ring_same k y is =
          elim (after k y is) as (λ z. (z : Marks) × (slice_get ms k ≡ Some z) × (z.ring ≡ y.ring)) [
            | inl a ↦ (
              m,
              subst (λ z. slice_get ms z ≡ Some m) (sym a.0) there,
              sym one.ring ∙ ap
                  (λ (z : Marks). z.ring) a.1,
            )
            | inr a ↦ (y, a.1, refl)
          ]

      n_there : slice_get (slice_set ms o.target n) o.target ≡ Some n
      n_there = get-set_same ms o.target m n there

      stands_at : (k : ℕ) → ((z : Marks) × (slice_get ms k ≡ Some z)) → (k ≡ o.target) ⊎ (k ≡ o.target → ⊥)
          → (z : Marks) × (slice_get (slice_set ms o.target n) k ≡ Some z)
      stands_at k z (inl e) = (n, subst (λ i. slice_get (slice_set ms o.target n) i ≡ Some n) (sym e) n_there)
      stands_at k z (inr e) = (z.0, get-set_other ms o.target k n e ∙ z.1)

      stands_new : (h : CallHead) (d : Arrival) → ArrivesAt hs h d ⊎ ((x ≡ h) × (f ≡ d))
          → (z : Marks) × (slice_get (slice_set ms o.target n) h.target ≡ Some z)
      stands_new h d (inl a) = stands_at h.target (w.stands h d a) (same_or_not h.target o.target)
      stands_new h d (inr a) =
          (n, subst (λ i. slice_get (slice_set ms o.target n) i ≡ Some n) (sym (at_target h a.0)) n_there)

      kept_new : (h : CallHead) (d : Arrival) (y : Marks) → ArrivesAt hs h d ⊎ ((x ≡ h) × (f ≡ d)) → d.searches ≡ true
          → ((h.target ≡ o.target) × (n ≡ y)) ⊎ ((h.target ≡ o.target → ⊥) × (slice_get ms h.target ≡ Some y))
          → y.count < d.before + 1 + y.ring → RemembersAs y d.identifier (d.before + 1)
      kept_new h d y (inl a) sd (inl b) near =
          let there2 : slice_get ms h.target ≡ Some m = subst (λ z. slice_get ms z ≡ Some m) (sym b.0) there in
          let p = one.count in
          let q = one.ring in
          let u = ap (λ (z : Marks). z.count) b.1 in
          let v = ap (λ (z : Marks). z.ring) b.1 in
          let near2 : m.count + 1 < d.before + 1 + m.ring = omega arith in
          subst (λ z. RemembersAs z d.identifier (d.before + 1)) b.1
          (one.kept d.identifier (d.before + 1) near2 (w.kept h d m a sd there2 (omega arith)))
      kept_new h d y (inl a) sd (inr b) near = w.kept h d y a sd b.1 near
      kept_new h d y (inr a) sd (inl b) near =
          let held : RemembersAs y f.identifier (f.before + 1) =
          subst (λ z. RemembersAs y f.identifier (z + 1)) (sym before)
          (subst (λ z. RemembersAs z f.identifier (m.count + 1)) b.1 one.new) in
          subst (λ (z : Arrival). RemembersAs y z.identifier (z.before + 1)) a.1 held
      kept_new h d y (inr a) sd (inr b) near = absurd (b.0 (at_target h a.0))

      known_new : f.searches ≡ true → f.visits ≡ true → (k : ℕ) (y : Marks) (i : List ℕ) (j : ℕ) → RemembersAs y i j
          → ((k ≡ o.target) × (n ≡ y)) ⊎ ((k ≡ o.target → ⊥) × (slice_get ms k ≡ Some y))
          → Known base k i ⊎ Searched (slice_set hs c x) k i (clock + 1)
      known_new sf vf k y i j h (inl a) =
          elim (one.old i j (subst (λ z. RemembersAs z i j) (sym a.1) h))
          as (λ z. Known base k i ⊎ Searched (slice_set hs c x) k i (clock + 1)) [
            | inl b ↦
                either-map base hs (slice_set hs c x) k i clock (clock + 1) goes (omega arith)
                (w.known k m i j (subst (λ z. slice_get ms z ≡ Some m) (sym a.0) there) b)
            | inr b ↦
                inr record {
                  head = x;
                  arrival = f;
                  at = at-new hs c o x f was new;
                  target = target ∙ sym a.0;
                  identifier = b.0;
                  search = sf;
                  visit = vf;
                  before = omega arith;
                }
          ]
      known_new sf vf k y i j h (inr a) =
          either-map base hs (slice_set hs c x) k i clock (clock + 1) goes (omega arith) (w.known k y i j a.1 h)

      repeats_new : f.searches ≡ true → (h : CallHead) (d : Arrival) → ArrivesAt hs h d ⊎ ((x ≡ h) × (f ≡ d)) → h.root ≡ r
          → d.visits ≡ true → d.searches ≡ false
          → Known base h.target d.identifier ⊎ Searched (slice_set hs c x) h.target d.identifier d.serial
      repeats_new sf h d (inl a) root visits not_search =
          either-map base hs (slice_set hs c x) h.target d.identifier d.serial d.serial goes (omega arith)
          (w.repeats h d a root visits not_search)
      repeats_new sf h d (inr a) root visits not_search =
          absurd (let s = ap (λ (z : Arrival). z.searches) a.1 in cc)

      far : (a b : ℕ) → (a < b → ⊥) → b ≤ a
      far a b near = go (cases a b) near
        where
          cases : (a b : ℕ) → (b ≤ a) ⊎ (a < b)
          cases a b = grind arith

          go : (b ≤ a) ⊎ (a < b) → (a < b → ⊥) → b ≤ a
          go (inl le) near = le
          go (inr lt) near = absurd (near lt)

      apart_new : ((k : ℕ) → RemembersAs m f.identifier k → ⊥) → (h g : CallHead) (d e : Arrival) (y : Marks)
          → ArrivesAt hs h d ⊎ ((x ≡ h) × (f ≡ d)) → ArrivesAt hs g e ⊎ ((x ≡ g) × (f ≡ e)) → d.searches ≡ true → e.searches ≡ true
          → g.target ≡ h.target → e.identifier ≡ d.identifier → d.serial < e.serial
          → ((z : Marks) × (slice_get ms h.target ≡ Some z) × (z.ring ≡ y.ring)) → d.before + 1 + y.ring ≤ e.before
      apart_new fresh h g d e y (inl a) (inl b) sd se targets ids order same =
          let z = w.apart h g d e same.0 a b sd se targets ids order same.1 in
          let ring = same.2 in omega arith
      apart_new fresh h g d e y (inr a) (inl b) sd se targets ids order same =
          absurd (let s = ap (λ (z : Arrival). z.serial) a.1 in let u = w.serials g e b in omega arith)
      apart_new fresh h g d e y (inr a) (inr b) sd se targets ids order same =
          absurd (let s = ap (λ (z : Arrival). z.serial) a.1 in let u = ap (λ (z : Arrival). z.serial) b.1 in
          omega arith)
      apart_new fresh h g d e y (inl a) (inr b) sd se targets ids order same =
          let at_o : h.target ≡ o.target = sym targets ∙ at_target g b.0 in
          let id_o : d.identifier ≡ f.identifier = sym ids ∙ sym (ap (λ (z : Arrival). z.identifier) b.1) in
          let there2 : slice_get ms h.target ≡ Some m = subst (λ z. slice_get ms z ≡ Some m) (sym at_o) there in
          let one_m : same.0 ≡ m = some_one same.0 m (sym same.1 ∙ there2) in
          let rings : m.ring ≡ y.ring = ap (λ (z : Marks). z.ring) (sym one_m) ∙ same.2 in
          let count : m.count ≡ e.before = sym before ∙ ap (λ (z : Arrival). z.before) b.1 in
          let le = far m.count (d.before + 1 + m.ring) (λ near. fresh (d.before + 1)
          (subst (λ z. RemembersAs m z (d.before + 1)) id_o (w.kept h d m a sd there2 near))) in
          omega arith
        where
          some_one : (u v : Marks) → Some u ≡ Some v → u ≡ v
          some_one u v e = cc

      pub marking-search : f.searches ≡ true → f.visits ≡ true → ((k : ℕ) → RemembersAs m f.identifier k → ⊥)
          → Marking base r (slice_set ms o.target n) (slice_set hs c x) (clock + 1)
      marking-search sf vf fresh = record {
        stands = λ h d a. stands_new h d (back h d a);
        once = once-deliver hs c o x f was new older w.once;
        serials = λ h d a. next h d (back h d a);
        apart = λ h g d e y a b sd se targets ids order is. apart_new fresh h g d e y (back h d a) (back g e b) sd se
            targets ids order (ring_same h.target y is);
        kept = λ h d y a sd is near. kept_new h d y (back h d a) sd (after h.target y is) near;
        known = λ k y i j is h. known_new sf vf k y i j h (after k y is);
        repeats = λ h d a root visits not_search. repeats_new sf h d (back h d a) root visits not_search;
      }
