-- The rings after a link has entered one at its end.
use Rattle.std.proofs.Common.{◌≡◌, ℕ, ◌*◌, Bool, true, false, ◌||◌, eqb, List, [], ◌∷◌, ◌++◌, refl, sym, ap, ◌∙◌}
use Rattle.std.proofs.lemmas.Bool.{cases_eq, ne_eqb, eq-eqb}
use mathlib.Core.Logic.{◌≢◌}
use Rattle.td_store.specs.declared.joint.Joint.{Joint}
use Rattle.td_store.specs.Rings.{after, before, ring, IsLink, with_last, Path, AreRingsOf, ring_is_no_link}
use Rattle.td_store.specs.Slabs.{is_in}
use Rattle.td_store.proofs.Core.{either, Enters, enters-path, enters-other, triples, pushed-is_in}
use Rattle.td_store.proofs.Wiring.{Rewired}

or-false : (b : Bool) → (b || false) ≡ b
or-false true = refl
or-false false = refl

or-true : (b : Bool) → (b || true) ≡ true
or-true true = refl
or-true false = refl

pub with_last-here : (rings : ℕ → List ℕ) (x e k : ℕ) → k ≡ e → with_last e x rings k ≡ rings k ++ x ∷ []
with_last-here rings x e k h = rw (eq-eqb k e h) refl

pub with_last-other : (rings : ℕ → List ℕ) (x e k : ℕ) → k ≢ e → with_last e x rings k ≡ rings k
with_last-other rings x e k h = rw (ne_eqb k e h) refl

pub with_last-is_in : (rings : ℕ → List ℕ) (x e k q : ℕ) → q ≢ x → is_in q (with_last e x rings k) ≡ is_in q (rings k)
with_last-is_in rings x e k q n =
    either (cases_eq k e)
    (λ (h : k ≡ e). rw (with_last-here rings x e k h)
    (pushed-is_in x q (rings k)
    ∙ (ap (λ b. is_in q (rings k) || b) (ne_eqb x q (λ (d : x ≡ q). n (sym d)))
    ∙ or-false (is_in q (rings k)))))
    (λ (h : k ≢ e). ap (is_in q) (with_last-other rings x e k h))

pub with_last-has : (rings : ℕ → List ℕ) (x e : ℕ) → is_in x (with_last e x rings e) ≡ true
with_last-has rings x e =
    rw (with_last-here rings x e e refl)
    (pushed-is_in x x (rings e)
    ∙ (ap (λ b. is_in x (rings e) || b) (eq-eqb x x refl) ∙ or-true (is_in x (rings e))))

module _ (js ms : List Joint) (rings : ℕ → List ℕ) (x e : ℕ) (f : AreRingsOf js rings) (link : IsLink x)
    (off : (k : ℕ) → is_in x (rings k) ≡ false)
    (r : Rewired js ms (before js (3 * e)) x (3 * e) x x
    (record { after = 3 * e; before = before js (3 * e); ring = 3 * e })) where
  closes : (k : ℕ) → 3 * k ≢ x
  closes k d = ring_is_no_link k x d link

  stays : after js x ≡ x
  stays = f.alone x link off

  only_last : (q : ℕ) → after js q ≡ 3 * e → q ≡ before js (3 * e)
  only_last q d = sym (f.forth q) ∙ ap (before js) d

  apart : (q : ℕ) → after js q ≡ x → q ≡ x
  apart q d = sym (f.forth q) ∙ (ap (before js) (d ∙ sym stays) ∙ f.forth x)

  last_is_other : before js (3 * e) ≢ x
  last_is_other d = closes e (sym (f.back (3 * e)) ∙ (ap (after js) d ∙ stays))

  enters : Enters (after js) (after ms) x (before js (3 * e)) (3 * e)
  enters = record {
    was = f.back (3 * e);
    only = only_last;
    apart = apart;
    entered = r.after_at last_is_other;
    goes_on = ap (λ z. z.after) r.own;
    others = r.after_others;
  }

  in_forth : (q : ℕ) → before ms (after ms q) ≡ q
  in_forth q =
      either (cases_eq q x)
      (λ (d : q ≡ x). rw d (ap (before ms) (ap (λ z. z.after) r.own) ∙ r.before_at (closes e)))
      (λ (n : q ≢ x). either (cases_eq q (before js (3 * e)))
      (λ (d : q ≡ before js (3 * e)).
      ap (before ms) (ap (after ms) d ∙ r.after_at last_is_other) ∙ (ap (λ z. z.before) r.own ∙ sym d))
      (λ (m : q ≢ before js (3 * e)).
      let far : after js q ≢ x = λ (d : after js q ≡ x). n (apart q d) in
      let other : after js q ≢ 3 * e = λ (d : after js q ≡ 3 * e). m (only_last q d) in
      ap (before ms) (r.after_others q n m) ∙ (r.before_others (after js q) far other ∙ f.forth q)))

  in_back : (q : ℕ) → after ms (before ms q) ≡ q
  in_back q =
      either (cases_eq q x)
      (λ (d : q ≡ x). rw d (ap (after ms) (ap (λ z. z.before) r.own) ∙ r.after_at last_is_other))
      (λ (n : q ≢ x). either (cases_eq q (3 * e))
      (λ (d : q ≡ 3 * e). ap (after ms) (ap (before ms) d ∙ r.before_at (closes e)) ∙ (ap (λ z. z.after) r.own ∙ sym d))
      (λ (m : q ≢ 3 * e).
      let far : before js q ≢ x = λ (d : before js q ≡ x). n (sym (f.back q) ∙ (ap (after js) d ∙ stays)) in
      let other : before js q ≢ before js (3 * e) =
      λ (d : before js q ≡ before js (3 * e)). m (sym (f.back q) ∙ (ap (after js) d ∙ f.back (3 * e))) in
      ap (after ms) (r.before_others q n m) ∙ (r.after_others (before js q) far other ∙ f.back q)))

  in_paths : (k : ℕ) → Path (after ms) (3 * k) (with_last e x rings k) (3 * k)
  in_paths k =
      either (cases_eq k e)
      (λ (d : k ≡ e). rw (with_last-here rings x e k d)
      (rw d (enters-path (after js) (after ms) x (before js (3 * e)) e (3 * e) (rings e) enters link (closes e)
      (f.paths e))))
      (λ (n : k ≢ e). rw (with_last-other rings x e k n)
      (enters-other (after js) (after ms) x (before js (3 * e)) e k (3 * k) (rings k) enters n (closes k)
      (f.paths k)))

  in_owned : (k q : ℕ) → IsLink q → is_in q (with_last e x rings k) ≡ eqb (ring ms q) (3 * k)
  in_owned k q l =
      either (cases_eq q x)
      (λ (d : q ≡ x). either (cases_eq k e)
      (λ (h : k ≡ e).
      let here : eqb (ring ms x) (3 * e) ≡ true = eq-eqb (ring ms x) (3 * e) (ap (λ z. z.ring) r.own) in
      rw d (rw h (with_last-has rings x e ∙ sym here)))
      (λ (h : k ≢ e).
      let far : eqb (ring ms x) (3 * k) ≡ false =
      ne_eqb (ring ms x) (3 * k) (λ (t : ring ms x ≡ 3 * k). triples k e h (sym t ∙ ap (λ z. z.ring) r.own)) in
      rw d (ap (is_in x) (with_last-other rings x e k h) ∙ (off k ∙ sym far))))
      (λ (n : q ≢ x). with_last-is_in rings x e k q n
      ∙ (f.owned k q l ∙ ap (λ z. eqb z (3 * k)) (sym (r.ring_others q n))))

  in_alone : (q : ℕ) → IsLink q → ((k : ℕ) → is_in q (with_last e x rings k) ≡ false) → after ms q ≡ q
  in_alone q l h =
      either (cases_eq q x)
      (λ (d : q ≡ x). let both : true ≡ false =
      sym (with_last-has rings x e) ∙ (ap (λ z. is_in z (with_last e x rings e)) (sym d) ∙ h e) in
      absurd (cc))
      (λ (n : q ≢ x).
      let was : after js q ≡ q = f.alone q l (λ k. sym (with_last-is_in rings x e k q n) ∙ h k) in
      let m : q ≢ before js (3 * e) =
      λ (d : q ≡ before js (3 * e)). ring_is_no_link e q (sym (f.back (3 * e)) ∙ (ap (after js) (sym d) ∙ was)) l in
      r.after_others q n m ∙ was)

  pub fits-entered : AreRingsOf ms (with_last e x rings)
  fits-entered = record { forth = in_forth; back = in_back; paths = in_paths; owned = in_owned; alone = in_alone }
