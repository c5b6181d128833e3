-- The rings after a link has left its ring.
use Rattle.std.proofs.Common.{◌≡◌, ℕ, ◌*◌, false, eqb, List, refl, sym, ap, ◌∙◌}
use Rattle.std.proofs.lemmas.Bool.{cases_eq, ne_eqb}
use mathlib.Core.Logic.{◌≢◌}
use Rattle.td_store.specs.declared.joint.Joint.{Joint}
use Rattle.td_store.specs.Rings.{loop, after, before, ring, IsLink, AreRingsOf, ring_is_no_link}
use Rattle.td_store.specs.Slabs.{is_in, without}
use Rattle.td_store.proofs.Core.{either, Skips, skips-path, without-same, without-is_in}
use Rattle.td_store.proofs.Wiring.{Rewired}

module _ (js ms : List Joint) (rings : ℕ → List ℕ) (x : ℕ) (f : AreRingsOf js rings) (link : IsLink x)
    (r : Rewired js ms (before js x) (after js x) (after js x) (before js x) x (loop x)) where
  closes : (k : ℕ) → 3 * k ≢ x
  closes k e = ring_is_no_link k x e link

  only_before : (q : ℕ) → after js q ≡ x → q ≡ before js x
  only_before q e = sym (f.forth q) ∙ ap (before js) e

  only_after : (q : ℕ) → before js q ≡ x → q ≡ after js x
  only_after q e = sym (f.back q) ∙ ap (after js) e

  skips : Skips (after js) (after ms) x (before js x) (after js x)
  skips = record { led = f.back x; leads = refl; only = only_before; skipped = r.after_at; others = r.after_others }

  left_forth : (q : ℕ) → before ms (after ms q) ≡ q
  left_forth q =
      either (cases_eq q x)
      (λ (e : q ≡ x). rw e (ap (before ms) (ap (λ z. z.after) r.own) ∙ ap (λ z. z.before) r.own))
      (λ (n : q ≢ x). either (cases_eq q (before js x))
      (λ (e : q ≡ before js x).
      let far : after js x ≢ x = λ (d : after js x ≡ x). n (e ∙ (sym (ap (before js) d) ∙ f.forth x)) in
      let jumps : after ms q ≡ after js x = ap (after ms) e ∙ r.after_at (λ (d : before js x ≡ x). n (e ∙ d)) in
      ap (before ms) jumps ∙ (r.before_at far ∙ sym e))
      (λ (m : q ≢ before js x).
      let far : after js q ≢ x = λ (d : after js q ≡ x). m (only_before q d) in
      let other : after js q ≢ after js x =
      λ (d : after js q ≡ after js x). n (sym (f.forth q) ∙ (ap (before js) d ∙ f.forth x)) in
      ap (before ms) (r.after_others q n m) ∙ (r.before_others (after js q) far other ∙ f.forth q)))

  left_back : (q : ℕ) → after ms (before ms q) ≡ q
  left_back q =
      either (cases_eq q x)
      (λ (e : q ≡ x). rw e (ap (after ms) (ap (λ z. z.before) r.own) ∙ ap (λ z. z.after) r.own))
      (λ (n : q ≢ x). either (cases_eq q (after js x))
      (λ (e : q ≡ after js x).
      let far : before js x ≢ x = λ (d : before js x ≡ x). n (e ∙ (sym (ap (after js) d) ∙ f.back x)) in
      let jumps : before ms q ≡ before js x = ap (before ms) e ∙ r.before_at (λ (d : after js x ≡ x). n (e ∙ d)) in
      ap (after ms) jumps ∙ (r.after_at far ∙ sym e))
      (λ (m : q ≢ after js x).
      let far : before js q ≢ x = λ (d : before js q ≡ x). m (only_after q d) in
      let other : before js q ≢ before js x =
      λ (d : before js q ≡ before js x). n (sym (f.back q) ∙ (ap (after js) d ∙ f.back x)) in
      ap (after ms) (r.before_others q n m) ∙ (r.after_others (before js q) far other ∙ f.back q)))

  left_owned : (k q : ℕ) → IsLink q → is_in q (without x (rings k)) ≡ eqb (ring ms q) (3 * k)
  left_owned k q l =
      either (cases_eq q x)
      (λ (e : q ≡ x).
      let off : eqb x (3 * k) ≡ false = ne_eqb x (3 * k) (λ (d : x ≡ 3 * k). closes k (sym d)) in
      rw e (without-same x (rings k) ∙ (sym off ∙ ap (λ z. eqb z (3 * k)) (sym (ap (λ z. z.ring) r.own)))))
      (λ (n : q ≢ x). without-is_in x q (rings k) n
      ∙ (f.owned k q l ∙ ap (λ z. eqb z (3 * k)) (sym (r.ring_others q n))))

  left_alone : (q : ℕ) → IsLink q → ((k : ℕ) → is_in q (without x (rings k)) ≡ false) → after ms q ≡ q
  left_alone q l h =
      either (cases_eq q x)
      (λ (e : q ≡ x). rw e (ap (λ z. z.after) r.own))
      (λ (n : q ≢ x).
      let was : after js q ≡ q = f.alone q l (λ k. sym (without-is_in x q (rings k) n) ∙ h k) in
      let m : q ≢ before js x = λ (e : q ≡ before js x). n (sym was ∙ (ap (after js) e ∙ f.back x)) in
      r.after_others q n m ∙ was)

  pub fits-left : AreRingsOf ms (λ k. without x (rings k))
  fits-left = record {
    forth = left_forth;
    back = left_back;
    paths =
        λ k. skips-path (after js) (after ms) x (before js x) (after js x) (3 * k) (3 * k) (rings k) skips (closes k)
        (closes k) (f.paths k);
    owned = left_owned;
    alone = left_alone;
  }
