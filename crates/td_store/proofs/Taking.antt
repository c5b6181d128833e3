-- What taking a value away leaves of a slab.
use Rattle.std.proofs.Common.{◌≡◌, ℕ, ◌+◌, ◌*◌, ◌<◌, Bool, true, false, not, cond, ◌&&◌, ltb, List, [], ◌∷◌, ◌++◌}
use Rattle.std.proofs.Common.{length, set, map, Option, None, zero, suc, refl, sym, ap, ◌∙◌, subst, arith}
use Rattle.std.specs.List.{range_with_len}
use Rattle.std.proofs.lemmas.List.{get_or-set_same, get_or-set_other, length-set, length_push}
use Rattle.std.proofs.lemmas.Bool.{cases_eq, eqb-false, lt-ltb}
use mathlib.Core.Logic.{◌≢◌}
use Rattle.td_store.specs.Rings.{with_last, Path}
use Rattle.td_store.specs.Slabs.{Slab, is_in, without, held, RemovesValue}
use Rattle.td_store.specs.Kept.{place_of, slab_of, has, IsSlab}
use Rattle.td_store.proofs.Core.{either, without-here, without-other, without-same, without-is_in}
use Rattle.td_store.proofs.Entering.{with_last-here, with_last-other, with_last-is_in, with_last-has}
use Rattle.td_store.proofs.Keeping.{first-place, second-place, a_link, without-absent, has-set_other, has-set_same}
use Rattle.td_store.proofs.Keeping.{has-within, held-set}

-- ---- both links of a place leave a ring, and so the place leaves the chain

pub places-without : (f : ℕ → ℕ) (from to p : ℕ) (xs : List ℕ) → Path f from xs to
    → map place_of (without (3 * p + 2) (without (3 * p + 1) xs)) ≡ without p (map place_of xs)
places-without f from to p [] path = refl
places-without f from to p (y ∷ ys) path =
    let rest : map place_of (without (3 * p + 2) (without (3 * p + 1) ys)) ≡ without p (map place_of ys) =
    places-without f y to p ys path.1.1 in
    either (cases_eq (place_of y) p)
    (λ (e : place_of y ≡ p). either (a_link y path.1.0)
    (λ (d : y ≡ 3 * place_of y + 1).
    let x : y ≡ 3 * p + 1 = omega arith in
    rw (without-here (3 * p + 1) y ys x) (rest ∙ sym (without-here p (place_of y) (map place_of ys) e)))
    (λ (d : y ≡ 3 * place_of y + 2).
    let x : y ≡ 3 * p + 2 = omega arith in
    let n : y ≢ 3 * p + 1 = omega arith in
    rw (without-other (3 * p + 1) y ys n)
    (rw (without-here (3 * p + 2) y (without (3 * p + 1) ys) x)
    (rest ∙ sym (without-here p (place_of y) (map place_of ys) e)))))
    (λ (n : place_of y ≢ p).
    let one : y ≢ 3 * p + 1 = λ (d : y ≡ 3 * p + 1). n (ap place_of d ∙ first-place p) in
    let two : y ≢ 3 * p + 2 = λ (d : y ≡ 3 * p + 2). n (ap place_of d ∙ second-place p) in
    rw (without-other (3 * p + 1) y ys one)
    (rw (without-other (3 * p + 2) y (without (3 * p + 1) ys) two)
    (ap (λ t. place_of y ∷ t) rest ∙ sym (without-other p (place_of y) (map place_of ys) n))))

maps-agree : (f g : ℕ → List ℕ) (h : List ℕ → List ℕ) → ((k : ℕ) → 0 < k → f k ≡ h (g k)) → (n a : ℕ) → 0 < a
    → map f (range_with_len a n) ≡ map h (map g (range_with_len a n))
maps-agree f g h e zero a l = refl
maps-agree f g h e (suc n) a l =
    ap (λ (c : List ℕ). c ∷ map f (range_with_len (a + 1) n)) (e a l)
    ∙ ap (λ (cs : List (List ℕ)). h (g a) ∷ cs) (maps-agree f g h e n (a + 1) (omega arith))

pub and-false : (b : Bool) → (b && false) ≡ false
and-false true = refl
and-false false = refl

taken_one : (a b : ℕ) (h : Bool) → h ≡ true → b + cond h 1 0 ≡ a + cond false 1 0 → b + 1 ≡ a
taken_one a b h e f =
    let here : b + 1 ≡ a + 0 = subst (λ (t : Bool). b + cond t 1 0 ≡ a + 0) e f in
    omega arith

module _ {T : Type 0} (slots : List (Option T)) (rings others : ℕ → List ℕ) (n count p : ℕ)
    (s : IsSlab slots rings n count) (there : has slots p ≡ true)
    (are : (k : ℕ) → others k
    ≡ with_last 0 (3 * p + 1) (λ j. without (3 * p + 2) (without (3 * p + 1) (rings j))) k) where
  within : p < length slots
  within = has-within slots p there

  -- no other link has moved
  same : (q k : ℕ) → q ≢ 3 * p + 1 → q ≢ 3 * p + 2 → is_in q (others k) ≡ is_in q (rings k)
  same q k one two =
      ap (is_in q) (are k) ∙ (with_last-is_in (λ j. without (3 * p + 2) (without (3 * p + 1) (rings j))) (3 * p + 1) 0 k
      q one
      ∙ (without-is_in (3 * p + 2) q (without (3 * p + 1) (rings k)) two ∙ without-is_in (3 * p + 1) q (rings k) one))

  first_of_other : (q k : ℕ) → q ≢ p → is_in (3 * q + 1) (others k) ≡ is_in (3 * q + 1) (rings k)
  first_of_other q k d =
      same (3 * q + 1) k (λ (e : 3 * q + 1 ≡ 3 * p + 1). d (omega arith))
      (λ (e : 3 * q + 1 ≡ 3 * p + 2). absurd (omega arith))

  second_of_other : (q k : ℕ) → q ≢ p → is_in (3 * q + 2) (others k) ≡ is_in (3 * q + 2) (rings k)
  second_of_other q k d =
      same (3 * q + 2) k (λ (e : 3 * q + 2 ≡ 3 * p + 1). absurd (omega arith))
      (λ (e : 3 * q + 2 ≡ 3 * p + 2). d (omega arith))

  -- the second link is nowhere, the first one is free
  second_gone : (k : ℕ) → is_in (3 * p + 2) (others k) ≡ false
  second_gone k =
      let other : 3 * p + 2 ≢ 3 * p + 1 = λ (e : 3 * p + 2 ≡ 3 * p + 1). absurd (omega arith) in
      ap (is_in (3 * p + 2)) (are k)
      ∙ (with_last-is_in (λ j. without (3 * p + 2) (without (3 * p + 1) (rings j))) (3 * p + 1) 0 k (3 * p + 2) other
      ∙ without-same (3 * p + 2) (without (3 * p + 1) (rings k)))

  on_chain : (k : ℕ) → 0 < k → others k ≡ without (3 * p + 2) (without (3 * p + 1) (rings k))
  on_chain k l =
      are k ∙ with_last-other (λ j. without (3 * p + 2) (without (3 * p + 1) (rings j))) (3 * p + 1) 0 k
      (λ (e : k ≡ 0). absurd (omega arith))

  first_gone : (k : ℕ) → 0 < k → is_in (3 * p + 1) (others k) ≡ false
  first_gone k l =
      let other : 3 * p + 1 ≢ 3 * p + 2 = λ (e : 3 * p + 1 ≡ 3 * p + 2). absurd (omega arith) in
      ap (is_in (3 * p + 1)) (on_chain k l)
      ∙ (without-is_in (3 * p + 2) (3 * p + 1) (without (3 * p + 1) (rings k)) other
      ∙ without-same (3 * p + 1) (rings k))

  first_free : is_in (3 * p + 1) (others 0) ≡ true
  first_free =
      ap (is_in (3 * p + 1)) (are 0)
      ∙ with_last-has (λ j. without (3 * p + 2) (without (3 * p + 1) (rings j))) (3 * p + 1) 0

  spared : others 0 ≡ rings 0 ++ (3 * p + 1) ∷ []
  spared =
      let none : is_in (3 * p + 1) (rings 0) ≡ false =
      s.free p ∙ (ap (λ b. ltb p (length slots) && not b) there ∙ and-false (ltb p (length slots))) in
      let one : without (3 * p + 1) (rings 0) ≡ rings 0 = without-absent (3 * p + 1) (rings 0) none in
      let both : without (3 * p + 2) (without (3 * p + 1) (rings 0)) ≡ rings 0 =
      ap (without (3 * p + 2)) one ∙ without-absent (3 * p + 2) (rings 0) (s.second_free p) in
      are 0 ∙ (with_last-here (λ j. without (3 * p + 2) (without (3 * p + 1) (rings j))) (3 * p + 1) 0 0 refl
      ∙ ap (λ (c : List ℕ). c ++ (3 * p + 1) ∷ []) both)

  gone : has (set slots p None) p ≡ false
  gone = has-set_same slots p None within

  others_stay : (q : ℕ) → q ≢ p → has (set slots p None) q ≡ has slots q
  others_stay q d = has-set_other slots p q None d

  pub taken-kept : IsSlab (set slots p None) others n count
  taken-kept =
      let len : length (set slots p None) ≡ length slots = length-set slots p None in
      record {
        room_slots = omega (arith, s.room_slots);
        room_rings = s.room_rings;
        whole = s.whole;
        limit = s.limit;
        small = omega (arith, s.small);
        few = s.few;
        past =
            λ k l. on_chain k (omega arith)
            ∙ ap (λ (c : List ℕ). without (3 * p + 2) (without (3 * p + 1) c)) (s.past k l);
        free = λ q. either (cases_eq q p)
            (λ (e : q ≡ p). rw e (first_free
            ∙ sym (rw len (rw gone (ap (λ b. b && true) (lt-ltb p (length slots) within))))))
            (λ (d : q ≢ p). first_of_other q 0 d ∙ (s.free q ∙ sym (rw len (rw (others_stay q d) refl))));
        second_free = λ q. either (cases_eq q p)
            (λ (e : q ≡ p). rw e (second_gone 0))
            (λ (d : q ≢ p). second_of_other q 0 d ∙ s.second_free q);
        first_off = λ q k h l. either (cases_eq q p)
            (λ (e : q ≡ p). rw e (first_gone k l))
            (λ (d : q ≢ p). first_of_other q k d ∙ s.first_off q k (sym (others_stay q d) ∙ h) l);
        second_off = λ q k h. either (cases_eq q p)
            (λ (e : q ≡ p). rw e (second_gone k))
            (λ (d : q ≢ p). second_of_other q k d ∙ s.second_off q k (sym (others_stay q d) ∙ h));
        apart = λ q k h. either (cases_eq q p)
            (λ (e : q ≡ p). rw e (second_gone k))
            (λ (d : q ≢ p). second_of_other q k d ∙ s.apart q k (sym (first_of_other q k d) ∙ h));
        counted =
            omega (
              arith,
              s.counted,
              ap length spared,
              length_push (rings 0) (3 * p + 1),
              taken_one (held slots) (held (set slots p None)) (has slots p) there (held-set slots p None within),
            );
      }

  pub taken-view : (f : ℕ → ℕ) → ((k : ℕ) → Path f (3 * k) (rings k) (3 * k)) → (v : Slab T)
      → slab_of slots rings count ≡ v → RemovesValue v (slab_of (set slots p None) others count) p
  taken-view f paths v e =
      subst (λ (w : Slab T). RemovesValue w (slab_of (set slots p None) others count) p) e (record {
        value = get_or-set_same slots p None None within;
        others = λ q d. get_or-set_other slots p q None None (eqb-false q p d);
        spare = ap length spared ∙ length_push (rings 0) (3 * p + 1);
        held =
            sym (taken_one (held slots) (held (set slots p None)) (has slots p) there (held-set slots p None within));
        chains = maps-agree (λ k. map place_of (others k)) (λ k. map place_of (rings k)) (without p)
            (λ k l. ap (map place_of) (on_chain k l) ∙ places-without f (3 * k) (3 * k) p (rings k) (paths k)) count 1
            (omega arith);
      })

  -- the same as the code leaves it
  pub taken-keeps : (left : List (Option T)) (m : ℕ) → left ≡ set slots p None → m ≡ n → IsSlab left others m count
  taken-keeps left m e d =
      subst (λ (t : List (Option T)). IsSlab t others m count) (sym e)
      (subst (λ (k : ℕ). IsSlab (set slots p None) others k count) (sym d) taken-kept)

  pub taken-shows : (left : List (Option T)) → left ≡ set slots p None → (f : ℕ → ℕ)
      → ((k : ℕ) → Path f (3 * k) (rings k) (3 * k)) → (v : Slab T) → slab_of slots rings count ≡ v
      → RemovesValue v (slab_of left others count) p
  taken-shows left d f paths v e =
      subst (λ (t : List (Option T)). RemovesValue v (slab_of t others count) p) (sym d) (taken-view f paths v e)
