-- What stays of a group's traders while queries begin and others act: all that was seen, and one's own changes.
use Rattle.std.proofs.Common.{◌≡◌, ℕ, zero, suc, ◌+◌, List, [], ◌∷◌, ◌++◌, length, length-append, Option, None, Some}
use Rattle.std.proofs.Common.{slice_get, slice_set, append_assoc, append-nil, refl, sym, ap, subst, ◌∙◌, zero-add}
use Rattle.td_cdr.specs.Marks.{Marks}
use Rattle.td_changes.specs.Histories.{Legal, LegalFrom, after_all}
use Rattle.td_changes.specs.declared.bounds.Bounds.{Bounds}
use Rattle.td_fed.specs.Trails.{Goes, stays, began, watched}
use Rattle.td_register.specs.Stores.{Store}
use Rattle.td_register.specs.declared.history.Accepted.{Accepted}
use Rattle.td_trader.proofs.Growing.{after-append, legal-append, legal-none}
use Rattle.td_trader.specs.Beginning.{after_begin as marks_after}
use Rattle.td_trader.specs.Worlds.{LegalIn, Meanwhile, View, after_begin}
use Rattle.td_trader.specs.Worlds.{name_at, name_in, store_seen, with_view}

-- ---- of one trader

-- its name, opening store and bounds, and one's own changes, are the same; a legal history goes on with more
pub record Keeps (v u : View) : Type 0 where
  pub name : u.name ≡ v.name
  pub opening : u.opening ≡ v.opening
  pub bounds : u.bounds ≡ v.bounds
  pub own : u.own ≡ v.own
  pub more : List Accepted
  pub history : u.history ≡ v.history ++ more
  pub legal : LegalFrom v.bounds (length v.history) (store_seen v) more

keeps-itself : (v : View) → Keeps v v
keeps-itself v = record {
  name = refl;
  opening = refl;
  bounds = refl;
  own = refl;
  more = [];
  history = sym (append-nil v.history);
  legal = legal-none v.bounds (length v.history) (store_seen v);
}

keeps-on : (v x u : View) → Keeps v x → Keeps x u → Keeps v u
keeps-on v x u p q =
    let size : length x.history ≡ length v.history + length p.more =
    ap (λ (h : List Accepted). length h) p.history ∙ length-append v.history p.more in
    let store : store_seen x ≡ after_all (store_seen v) p.more =
    ap (λ (s : Store). after_all s x.history) p.opening
    ∙ (ap (after_all v.opening) p.history ∙ after-append v.opening v.history p.more) in
    record {
      name = q.name ∙ p.name;
      opening = q.opening ∙ p.opening;
      bounds = q.bounds ∙ p.bounds;
      own = q.own ∙ p.own;
      more = p.more ++ q.more;
      history = q.history ∙ (ap (λ (h : List Accepted). h ++ q.more) p.history ∙ append_assoc v.history p.more q.more);
      legal = legal-append v.bounds (length v.history) (store_seen v) p.more q.more p.legal
          (subst (λ (s : Store). LegalFrom v.bounds (length v.history + length p.more) s q.more) store
          (subst (λ (n : ℕ). LegalFrom v.bounds n (store_seen x) q.more) size
          (subst (λ (b : Bounds). LegalFrom b (length x.history) (store_seen x) q.more) p.bounds q.legal)));
    }

still-legal : (v u : View) → Keeps v u → Legal v.bounds v.opening v.history → Legal u.bounds u.opening u.history
still-legal v u s h =
    subst (λ (b : Bounds). Legal b u.opening u.history) (sym s.bounds)
    (subst (λ (o : Store). Legal v.bounds o u.history) (sym s.opening)
    (subst (Legal v.bounds v.opening) (sym s.history)
    (legal-append v.bounds 0 v.opening v.history s.more h
    (subst (λ (n : ℕ). LegalFrom v.bounds n (store_seen v) s.more) (sym (zero-add (length v.history))) s.legal))))

-- ---- of all

abbrev pub KeptIn : Option View → Option View → Type 0
KeptIn None None = Unit {0}
KeptIn None (Some u) = ⊥
KeptIn (Some v) None = ⊥
KeptIn (Some v) (Some u) = Keeps v u

in-itself : (o : Option View) → KeptIn o o
in-itself None = tt
in-itself (Some v) = keeps-itself v

in-on : (o p q : Option View) → KeptIn o p → KeptIn p q → KeptIn o q
in-on None None q a b = b
in-on None (Some x) q a b = absurd a
in-on (Some v) None q a b = absurd a
in-on (Some v) (Some x) None a b = absurd b
in-on (Some v) (Some x) (Some u) a b = keeps-on v x u a b

in-set : (w : List View) (k : ℕ) (v x : View) → slice_get w k ≡ Some v → Keeps v x → (j : ℕ)
    → KeptIn (slice_get w j) (slice_get (slice_set w k x) j)
in-set [] k v x is h j = absurd (let bad : ⊥ = cc in bad)
in-set (y ∷ w) zero v x is h zero = let same : v ≡ y = cc in subst (λ (z : View). Keeps z x) same h
in-set (y ∷ w) zero v x is h (suc j) = in-itself (slice_get w j)
in-set (y ∷ w) (suc k) v x is h zero = keeps-itself y
in-set (y ∷ w) (suc k) v x is h (suc j) = in-set w k v x is h j

many-set : (w : List View) (k : ℕ) (x : View) → length (slice_set w k x) ≡ length w
many-set [] k x = refl
many-set (y ∷ w) zero x = refl
many-set (y ∷ w) (suc k) x = ap suc (many-set w k x)

-- the traders are as many, and each of them stays
pub record AllKept (w u : List View) : Type 0 where
  pub many : length u ≡ length w
  pub each : (k : ℕ) → KeptIn (slice_get w k) (slice_get u k)

all-on : (w m u : List View) → AllKept w m → AllKept m u → AllKept w u
all-on w m u p q = record {
  many = q.many ∙ p.many;
  each = λ k. in-on (slice_get w k) (slice_get m k) (slice_get u k) (p.each k) (q.each k);
}

all-set : (w : List View) (k : ℕ) (v x : View) → slice_get w k ≡ Some v → Keeps v x → AllKept w (with_view w k x)
all-set w k v x is h = record { many = many-set w k x; each = in-set w k v x is h }

module _ (others : List Accepted → Type 0) (later : Marks → Marks → Type 0) where
  -- what is seen behind a call of a trader
  seen-keeps : (w : List View) (k : ℕ) (seen : View) (m : Meanwhile others later w k seen) → Keeps m.view seen
  seen-keeps w k seen m =
      subst (Keeps m.view) (sym m.seen_is)
      (record {
        name = refl;
        opening = refl;
        bounds = refl;
        own = refl;
        more = m.between;
        history = refl;
        legal = m.legal;
      })

  -- a mark more is no change
  marked : (v seen : View) (marks : Marks) → Keeps v seen → Keeps v (after_begin seen marks)
  marked v seen marks s = record {
    name = s.name;
    opening = s.opening;
    bounds = s.bounds;
    own = s.own;
    more = s.more;
    history = s.history;
    legal = s.legal;
  }

  pub goes-kept : (w u : List View) → Goes others later w u → AllKept w u
  goes-kept w u stays = record { many = refl; each = λ k. in-itself (slice_get w k) }
  goes-kept w u (began {u = x} k q b h rest) =
      let m = h.meanwhile in
      let after = marks_after (store_seen h.seen) h.seen.marks q b in
      all-on w x u
      (subst (AllKept w) (sym h.world) (all-set w k m.view (after_begin h.seen after) m.is
      (marked m.view h.seen after (seen-keeps w k h.seen m))))
      (goes-kept x u rest)
  goes-kept w u (watched {u = x} k h rest) =
      let m = h.meanwhile in
      all-on w x u
      (subst (AllKept w) (sym h.world) (all-set w k m.view h.seen m.is (seen-keeps w k h.seen m)))
      (goes-kept x u rest)

-- ---- what is seen of them

same-in : {X : Type 0} (f : Option View → X) → ((v u : View) → Keeps v u → f (Some u) ≡ f (Some v))
    → (o p : Option View) → KeptIn o p → f p ≡ f o
same-in f h None None s = refl
same-in f h None (Some u) s = absurd s
same-in f h (Some v) None s = absurd s
same-in f h (Some v) (Some u) s = h v u s

legal-in : (o p : Option View) → KeptIn o p → LegalIn o → LegalIn p
legal-in None None s h = h
legal-in None (Some u) s h = absurd s
legal-in (Some v) None s h = absurd s
legal-in (Some v) (Some u) s h = still-legal v u s h

module _ (others : List Accepted → Type 0) (later : Marks → Marks → Type 0) (w u : List View)
    (goes : Goes others later w u) where
  pub goes-many : length u ≡ length w
  goes-many = (goes-kept others later w u goes).many

  pub goes-name : (k : ℕ) → name_at u k ≡ name_at w k
  goes-name k =
      same-in name_in (λ v x s. s.name) (slice_get w k) (slice_get u k) ((goes-kept others later w u goes).each k)
