-- What is seen of traders only grows.
use Rattle.std.proofs.Common.{◌≡◌, ℕ, zero, suc, ◌+◌, ◌≤◌, Bool, true, false, nat_eq, List, [], ◌∷◌, ◌++◌, length}
use Rattle.std.proofs.Common.{Option, Some, None, slice_get, slice_set, append_assoc, append-nil, length-append}
use Rattle.std.proofs.Common.{length-set, eqb-true, refl, sym, ap, subst, ◌∙◌, arith}
use Rattle.std.proofs.lemmas.Bool.{eqb-false}
use Rattle.td_cdr.specs.Marks.{Marks}
use Rattle.td_changes.specs.Applying.{apply_counted}
use Rattle.td_changes.specs.Histories.{Legal, LegalFrom, StandsAt, after_all}
use Rattle.td_changes.specs.Laws.{applied_after}
use Rattle.td_changes.specs.declared.bounds.Bounds.{Bounds}
use Rattle.td_fed.proofs.Members.{get-set_other, get-set_same, same-view}
use Rattle.td_ops.specs.declared.call.Change.{Change}
use Rattle.td_ops.specs.declared.outcome.Outcome.TheVariants.{Done, User, System}
use Rattle.td_ops.specs.declared.outcome.Outcome.{Outcome}
use Rattle.td_ops.specs.declared.outcome.Reply.{Reply}
use Rattle.td_register.specs.Entries.{entry}
use Rattle.td_register.specs.Stores.{Store}
use Rattle.td_register.specs.declared.history.Accepted.{Accepted}
use Rattle.td_trader.proofs.Growing.{after-append, legal-append, legal-none}
use Rattle.td_trader.specs.Worlds.{LegalAt, LegalIn, View, after_others, after_own, history_at, history_in, store_seen}
use Rattle.td_session_runs.specs.Seen.{AllGrow, GrowsLegally, IsLater}

-- ---- one trader

legal-one : (b : Bounds) (n : ℕ) (s : Store) (c : Change) (content : Reply) → (apply_counted b n s c).outcome ≡ Done content
    → LegalFrom b n s (entry c content ∷ [])
unfolding LegalFrom
legal-one b n s c content e = (e, tt)

pub grows-none : (v : View) → GrowsLegally v v
grows-none v = record {
  name = refl;
  opening = refl;
  bounds = refl;
  more = [];
  history = sym (append-nil v.history);
  legal = legal-none v.bounds (length v.history) (store_seen v);
}

pub grows-on : (v x u : View) → GrowsLegally v x → GrowsLegally x u → GrowsLegally v u
grows-on v x u p q =
    let size : length x.history ≡ length v.history + length p.more =
    ap length p.history ∙ length-append v.history p.more in
    let store : store_seen x ≡ after_all (store_seen v) p.more =
    ap (λ (s : Store). after_all s x.history) p.opening
    ∙ (ap (after_all v.opening) p.history ∙ after-append v.opening v.history p.more) in
    let legal : LegalFrom v.bounds (length v.history + length p.more) (after_all (store_seen v) p.more) q.more =
    subst (λ (s : Store). LegalFrom v.bounds (length v.history + length p.more) s q.more) store
    (subst (λ (n : ℕ). LegalFrom v.bounds n (store_seen x) q.more) size
    (subst (λ (b : Bounds). LegalFrom b (length x.history) (store_seen x) q.more) p.bounds q.legal)) in
    record {
      name = q.name ∙ p.name;
      opening = q.opening ∙ p.opening;
      bounds = q.bounds ∙ p.bounds;
      more = p.more ++ q.more;
      history =
          q.history ∙ (ap (λ (h : List Accepted). h ++ q.more) p.history ∙ append_assoc v.history p.more q.more);
      legal = legal-append v.bounds (length v.history) (store_seen v) p.more q.more p.legal legal;
    }

-- others changed it
pub grows-others : (v : View) (between : List Accepted) (marks : Marks)
    → LegalFrom v.bounds (length v.history) (store_seen v) between → GrowsLegally v (after_others v between marks)
grows-others v between marks legal = record {
  name = refl;
  opening = refl;
  bounds = refl;
  more = between;
  history = refl;
  legal = legal;
}

-- one's own change had this outcome
pub grows-own : (v : View) (c : Change) (o : Outcome) → o ≡ (applied_after v.bounds v.opening v.history c).outcome
    → GrowsLegally v (after_own v c o)
grows-own v c (Done content) e = record {
  name = refl;
  opening = refl;
  bounds = refl;
  more = entry c content ∷ [];
  history = refl;
  legal = legal-one v.bounds (length v.history) (store_seen v) c content (sym e);
}
grows-own v c (User u) e = grows-none v
grows-own v c (System kind minor completion) e = grows-none v

-- all else that is kept of it
pub grows-as : (v x u : View) → GrowsLegally v x → u.name ≡ x.name → u.opening ≡ x.opening → u.bounds ≡ x.bounds
    → u.history ≡ x.history → GrowsLegally v u
grows-as v x u g name opening bounds history = record {
  name = name ∙ g.name;
  opening = opening ∙ g.opening;
  bounds = bounds ∙ g.bounds;
  more = g.more;
  history = history ∙ g.history;
  legal = g.legal;
}

pub grows-length : (v u : View) → GrowsLegally v u → length v.history ≤ length u.history
grows-length v u g =
    let size : length u.history ≡ length v.history + length g.more =
    ap length g.history ∙ length-append v.history g.more in
    omega (arith, size)

stays-in-front : (h more : List Accepted) (p : ℕ) (e : Accepted) → slice_get h p ≡ Some e
    → slice_get (h ++ more) p ≡ Some e
stays-in-front [] more p e is = absurd (let bad : ⊥ = cc in bad)
stays-in-front (x ∷ h) more zero e is = is
stays-in-front (x ∷ h) more (suc p) e is = stays-in-front h more p e is

-- ---- all traders

pub grow-none : (w : List View) → AllGrow w w
grow-none w = record {
  count = refl;
  each = λ k v is. record { view = v; is = is; grows = grows-none v };
}

pub grow-on : (w x u : List View) → AllGrow w x → AllGrow x u → AllGrow w u
grow-on w x u p q = record {
  count = q.count ∙ p.count;
  each = λ k v is. let a = p.each k v is in
      let b = q.each k a.view a.is in
      record { view = b.view; is = b.is; grows = grows-on v a.view b.view a.grows b.grows };
}

-- one of them is seen otherwise
pub put-grow : (w : List View) (k : ℕ) (v x : View) → slice_get w k ≡ Some v → GrowsLegally v x → AllGrow w (slice_set w k x)
put-grow w k v x is g = record { count = length-set w k x; each = λ j z at_j. by-trader j z at_j (nat_eq k j) refl }
  where
    by-trader : (j : ℕ) (z : View) → slice_get w j ≡ Some z → (b : Bool) → nat_eq k j ≡ b
        → IsLater z (slice_get (slice_set w k x) j)
    by-trader j z at_j true e =
        let one : k ≡ j = eqb-true k j e in
        let same : v ≡ z =
        same-view (slice_get w j) v z (subst (λ (n : ℕ). slice_get w n ≡ Some v) one is) at_j in
        record {
          view = x;
          is = subst (λ (n : ℕ). slice_get (slice_set w k x) n ≡ Some x) one (get-set_same w k v x is);
          grows = subst (λ (y : View). GrowsLegally y x) same g;
        }
    by-trader j z at_j false e = record {
      view = z;
      is = get-set_other w k j x (eqb-false k j e) ∙ at_j;
      grows = grows-none z;
    }

-- ---- what follows for one of them

from-none : (o : Option View) (n : ℕ) → o ≡ None → length (history_in o) ≤ n
from-none None n e = omega arith
from-none (Some v) n e = absurd (let bad : ⊥ = cc in bad)

length-in : (w u : List View) (k : ℕ) → AllGrow w u → (o : Option View) → slice_get w k ≡ o
    → length (history_at w k) ≤ length (history_at u k)
length-in w u k g None e = from-none (slice_get w k) (length (history_at u k)) e
length-in w u k g (Some v) e =
    let there = g.each k v e in
    let le = grows-length v there.view there.grows in
    let here : length (history_at w k) ≡ length v.history = ap (λ (o : Option View). length (history_in o)) e in
    let then : length (history_at u k) ≡ length there.view.history =
    ap (λ (o : Option View). length (history_in o)) there.is in
    omega (arith, le, here, then)

pub grow-length : (w u : List View) → AllGrow w u → (k : ℕ) → length (history_at w k) ≤ length (history_at u k)
grow-length w u g k = length-in w u k g (slice_get w k) refl

stands-in : (w u : List View) (k p : ℕ) (e : Accepted) → AllGrow w u → (o : Option View) → slice_get w k ≡ o
    → slice_get (history_in o) p ≡ Some e → slice_get (history_at u k) p ≡ Some e
stands-in w u k p e g None is there = absurd (let bad : ⊥ = cc in bad)
stands-in w u k p e g (Some v) is there =
    let after = g.each k v is in
    let then : history_at u k ≡ v.history ++ after.grows.more = ap history_in after.is ∙ after.grows.history in
    subst (λ (h : List Accepted). slice_get h p ≡ Some e) (sym then)
    (stays-in-front v.history after.grows.more p e there)

-- an entry of a history stays where it is
pub grow-stands : (w u : List View) → AllGrow w u → (k p : ℕ) (c : Change) (content : Reply)
    → StandsAt (history_at w k) p c content → StandsAt (history_at u k) p c content
grow-stands w u g k p c content there = stands-in w u k p (entry c content) g (slice_get w k) refl there

legal-later : (v u : View) → GrowsLegally v u → Legal v.bounds v.opening v.history → Legal u.bounds u.opening u.history
legal-later v u g legal =
    let zero-more : 0 + length v.history ≡ length v.history = omega arith in
    let joined : Legal v.bounds v.opening (v.history ++ g.more) =
    legal-append v.bounds 0 v.opening v.history g.more legal
    (subst (λ (n : ℕ). LegalFrom v.bounds n (store_seen v) g.more) (sym zero-more) g.legal) in
    subst (λ (h : List Accepted). Legal u.bounds u.opening h) (sym g.history)
    (subst (λ (b : Bounds). Legal b u.opening (v.history ++ g.more)) (sym g.bounds)
    (subst (λ (s : Store). Legal v.bounds s (v.history ++ g.more)) (sym g.opening) joined))

pub length-none : (xs : List View) (k : ℕ) → slice_get xs k ≡ None → length xs ≤ k
length-none [] k e = omega arith
length-none (x ∷ xs) zero e = absurd (let bad : ⊥ = cc in bad)
length-none (x ∷ xs) (suc k) e = let rest = length-none xs k e in omega (arith, rest)

pub none-length : (xs : List View) (k : ℕ) → length xs ≤ k → slice_get xs k ≡ None
none-length [] k le = refl
none-length (x ∷ xs) zero le = absurd (omega (arith, le))
none-length (x ∷ xs) (suc k) le = none-length xs k (omega (arith, le))

legal-in : (w u : List View) (k : ℕ) → AllGrow w u → (o : Option View) → slice_get w k ≡ o → LegalIn o → LegalAt u k
legal-in w u k g None is legal =
    let few = length-none w k is in
    let count = g.count in
    subst LegalIn (sym (none-length u k (omega (arith, few, count)))) tt
legal-in w u k g (Some v) is legal =
    let after = g.each k v is in
    subst LegalIn (sym after.is) (legal-later v after.view after.grows legal)

-- legal histories stay legal
pub grow-legal : (w u : List View) → AllGrow w u → (k : ℕ) → LegalAt w k → LegalAt u k
grow-legal w u g k legal = legal-in w u k g (slice_get w k) refl legal
