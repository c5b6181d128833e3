-- The rings of no joints, and those after joints on no ring have been added.
use Rattle.std.proofs.Common.{◌≡◌, ℕ, ◌+◌, ◌-◌, ◌*◌, ◌<◌, ◌≤◌, eqb, List, [], ◌∷◌, ◌++◌, length, get_or, suc, zero}
use Rattle.std.proofs.Common.{refl, sym, ap, ◌∙◌, subst, arith}
use Rattle.std.proofs.lemmas.List.{get_or_append_left, get_or-append_right, get_or_past}
use Rattle.std.proofs.lemmas.Bool.{cases_lt, ne_eqb}
use mathlib.Core.Path.{fun_ext}
use Rattle.td_store.specs.declared.joint.Joint.{Joint}
use Rattle.td_store.specs.Rings.{loop, joint_at, after, before, Path, AreRingsOf, ring_is_no_link}
use Rattle.td_store.proofs.Core.{either}

pub fits-none : AreRingsOf [] (λ k. [])
fits-none = record {
  forth = λ q. refl;
  back = λ q. refl;
  paths = λ k. refl;
  owned = λ k q l. sym (ne_eqb q (3 * k) (λ (e : q ≡ 3 * k). ring_is_no_link k q (sym e) l));
  alone = λ q l h. refl;
}

three : (n q i : ℕ) → q ≡ n + i → get_or (loop n ∷ loop (n + 1) ∷ loop (n + 2) ∷ []) i (loop q) ≡ loop q
three n q zero e = ap loop (omega arith)
three n q (suc zero) e = ap loop (omega arith)
three n q (suc (suc zero)) e = ap loop (omega arith)
three n q (suc (suc (suc i))) e = refl

-- three joints on no ring, past the end
pub three-more : (js : List Joint) (n q : ℕ) → length js ≡ n
    → joint_at (js ++ loop n ∷ loop (n + 1) ∷ loop (n + 2) ∷ []) q ≡ joint_at js q
three-more js n q e =
    either (cases_lt q (length js))
    (λ (h : q < length js). get_or_append_left js (loop n ∷ loop (n + 1) ∷ loop (n + 2) ∷ []) (loop q) q h)
    (λ (h : length js ≤ q).
    let past : joint_at js q ≡ loop q = get_or_past js q (loop q) h in
    let right : joint_at (js ++ loop n ∷ loop (n + 1) ∷ loop (n + 2) ∷ []) q
    ≡ get_or (loop n ∷ loop (n + 1) ∷ loop (n + 2) ∷ []) (q - n) (loop q) =
    get_or-append_right js (loop n ∷ loop (n + 1) ∷ loop (n + 2) ∷ []) n q (loop q) e (omega arith) in
    right ∙ (three n q (q - n) (omega arith) ∙ sym past))

-- so the joints make the same rings
pub fits-same : (js ms : List Joint) (rings : ℕ → List ℕ) → ((q : ℕ) → joint_at ms q ≡ joint_at js q) → AreRingsOf js rings
    → AreRingsOf ms rings
fits-same js ms rings same f =
    let A : after ms ≡ after js = fun_ext (λ q. ap (λ z. z.after) (same q)) in
    record {
      forth = λ q. ap (λ z. z.before) (same (after ms q)) ∙ (ap (λ z. before js z.after) (same q) ∙ f.forth q);
      back = λ q. ap (λ z. z.after) (same (before ms q)) ∙ (ap (λ z. after js z.before) (same q) ∙ f.back q);
      paths = λ k. subst (λ (g : ℕ → ℕ). Path g (3 * k) (rings k) (3 * k)) (sym A) (f.paths k);
      owned = λ k q l. f.owned k q l ∙ ap (λ z. eqb z.ring (3 * k)) (sym (same q));
      alone = λ q l h. ap (λ z. z.after) (same q) ∙ f.alone q l h;
    }
