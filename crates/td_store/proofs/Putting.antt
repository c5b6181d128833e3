-- What putting a value leaves of a slab.
use Rattle.std.proofs.Common.{◌≡◌, ℕ, ◌+◌, ◌-◌, ◌*◌, ◌%◌, ◌^◌, ◌<◌, ◌≤◌, Bool, true, false, not, cond, ◌&&◌, ◌||◌, eqb}
use Rattle.std.proofs.Common.{ltb, List, [], ◌∷◌, ◌++◌, length, set, map, Option, Some, None, refl, sym, ap, ◌∙◌, subst}
use Rattle.std.proofs.Common.{arith}
use Rattle.std.specs.Option.{is_some}
use Rattle.std.proofs.lemmas.List.{map_push, get_or_past, get_or_push, get_or_append_left, get_or-set_same}
use Rattle.std.proofs.lemmas.List.{get_or-set_other, length_push, length-set}
use Rattle.std.proofs.lemmas.List.FromFn.{length-map-range_with_len}
use Rattle.std.proofs.lemmas.Bool.{cases_eq, cases_lt, ne_eqb, eq-eqb, eqb-false, both_ways, and_parts, ltb-true}
use Rattle.std.proofs.lemmas.Bool.{not-true, lt-ltb, le-ltb}
use mathlib.Core.Logic.{◌≢◌}
use Rattle.td_store.specs.Rings.{IsLink, Path, with_last}
use Rattle.td_store.specs.Slabs.{Slab, is_in, without, value_at, held, InsertsValue}
use Rattle.td_store.specs.Kept.{place_of, slab_of, has, IsSlab}
use Rattle.td_store.proofs.Core.{either, without-here, without-same, without-is_in, no_again, first-is}
use Rattle.td_store.proofs.Entering.{with_last-here, with_last-other, with_last-is_in}
use Rattle.td_store.proofs.Keeping.{first-place, second-place, a_link, chain-is, without-absent, held-set, held-push}
use Rattle.td_store.proofs.Reading.{off-chain}
use Rattle.td_store.proofs.Taking.{and-false}

pub none_from : {T : Type 0} (o : Option T) → is_some o ≡ false → o ≡ None
none_from None e = refl
none_from (Some x) e = absurd (cc)

-- before the links enter: the place p has its value, and its first link is on no ring
pub record Readied {T : Type 0} (slots news : List (Option T)) (rings base : ℕ → List ℕ) (m p : ℕ) (given : T) : Type
    0 where
  pub unused : has slots p ≡ false
  pub value : value_at news p ≡ Some given
  pub others : (q : ℕ) → q ≢ p → value_at news q ≡ value_at slots q
  pub bound : (q : ℕ) → q ≢ p → ltb q (length news) ≡ ltb q (length slots)
  pub moved : (q k : ℕ) → q ≢ 3 * p + 1 → is_in q (base k) ≡ is_in q (rings k)
  pub off : (k : ℕ) → is_in (3 * p + 1) (base k) ≡ false
  pub chains : (k : ℕ) → 0 < k → base k ≡ rings k
  pub counted : held news + length (base 0) ≡ length news
  pub held : held news ≡ held slots + 1
  pub spare : length (base 0) ≡ length (rings 0) - 1
  pub reused : 0 < length (rings 0) → p < length slots
  pub room : 3 * length news ≤ m
  pub small : length news < 2 ^ 32

module _ {T : Type 0} (slots news : List (Option T)) (rings base others : ℕ → List ℕ) (n m count p a b : ℕ) (given : T)
    (s : IsSlab slots rings n count)
    (r : Readied slots news rings base m p given) (more : n ≤ m) (whole : m % 3 ≡ 0) (limit : m ≤ 3 * 2 ^ 32)
    (la : a < count) (lb : b < count) (apart : a ≢ b)
    (are : (k : ℕ) → others k ≡ with_last (b + 1) (3 * p + 2) (with_last (a + 1) (3 * p + 1) base) k) where
  one_two : 3 * p + 1 ≢ 3 * p + 2
  one_two e = absurd (omega arith)

  same : (q k : ℕ) → q ≢ 3 * p + 1 → q ≢ 3 * p + 2 → is_in q (others k) ≡ is_in q (rings k)
  same q k one two =
      ap (is_in q) (are k) ∙ (with_last-is_in (with_last (a + 1) (3 * p + 1) base) (3 * p + 2) (b + 1) k q two
      ∙ (with_last-is_in base (3 * p + 1) (a + 1) k q one ∙ r.moved q k one))

  first_of_other : (q k : ℕ) → q ≢ p → is_in (3 * q + 1) (others k) ≡ is_in (3 * q + 1) (rings k)
  first_of_other q k d =
      same (3 * q + 1) k (λ (e : 3 * q + 1 ≡ 3 * p + 1). d (omega arith))
      (λ (e : 3 * q + 1 ≡ 3 * p + 2). absurd (omega arith))

  second_of_other : (q k : ℕ) → q ≢ p → is_in (3 * q + 2) (others k) ≡ is_in (3 * q + 2) (rings k)
  second_of_other q k d =
      same (3 * q + 2) k (λ (e : 3 * q + 2 ≡ 3 * p + 1). absurd (omega arith))
      (λ (e : 3 * q + 2 ≡ 3 * p + 2). d (omega arith))

  first_only : (k : ℕ) → k ≢ a + 1 → is_in (3 * p + 1) (others k) ≡ false
  first_only k d =
      ap (is_in (3 * p + 1)) (are k)
      ∙ (with_last-is_in (with_last (a + 1) (3 * p + 1) base) (3 * p + 2) (b + 1) k (3 * p + 1) one_two
      ∙ (ap (is_in (3 * p + 1)) (with_last-other base (3 * p + 1) (a + 1) k d) ∙ r.off k))

  second_only : (k : ℕ) → k ≢ b + 1 → is_in (3 * p + 2) (others k) ≡ false
  second_only k d =
      let two_one : 3 * p + 2 ≢ 3 * p + 1 = λ (e : 3 * p + 2 ≡ 3 * p + 1). one_two (sym e) in
      ap (is_in (3 * p + 2)) (are k ∙ with_last-other (with_last (a + 1) (3 * p + 1) base) (3 * p + 2) (b + 1) k d)
      ∙ (with_last-is_in base (3 * p + 1) (a + 1) k (3 * p + 2) two_one
      ∙ (r.moved (3 * p + 2) k two_one ∙ s.second_off p k r.unused))

  neither : (k : ℕ) → k ≢ a + 1 → k ≢ b + 1 → others k ≡ base k
  neither k d e =
      are k ∙ (with_last-other (with_last (a + 1) (3 * p + 1) base) (3 * p + 2) (b + 1) k e
      ∙ with_last-other base (3 * p + 1) (a + 1) k d)

  unmoved : others 0 ≡ base 0
  unmoved = neither 0 (λ (e : 0 ≡ a + 1). absurd (omega arith)) (λ (e : 0 ≡ b + 1). absurd (omega arith))

  had : has news p ≡ true
  had = ap is_some r.value

  stays : (q : ℕ) → q ≢ p → has news q ≡ has slots q
  stays q d = ap is_some (r.others q d)

  pub put-kept : IsSlab news others m count
  put-kept = record {
    room_slots = r.room;
    room_rings = omega (arith, s.room_rings);
    whole = whole;
    limit = limit;
    small = r.small;
    few = s.few;
    past =
        λ k l. neither k (λ (e : k ≡ a + 1). absurd (omega arith)) (λ (e : k ≡ b + 1). absurd (omega arith))
        ∙ (r.chains k (omega arith) ∙ s.past k l);
    free = λ q. either (cases_eq q p)
        (λ (e : q ≡ p). rw e (ap (is_in (3 * p + 1)) unmoved
        ∙ (r.off 0 ∙ sym (ap (λ t. ltb p (length news) && not t) had ∙ and-false (ltb p (length news))))))
        (λ (d : q ≢ p). first_of_other q 0 d ∙ (s.free q ∙ sym (rw (r.bound q d) (rw (stays q d) refl))));
    second_free = λ q. either (cases_eq q p)
        (λ (e : q ≡ p). rw e (second_only 0 (λ (e : 0 ≡ b + 1). absurd (omega arith))))
        (λ (d : q ≢ p). second_of_other q 0 d ∙ s.second_free q);
    first_off = λ q k h l. either (cases_eq q p)
        (λ (e : q ≡ p). absurd (both_ways (has news q) h (ap (has news) e ∙ had)))
        (λ (d : q ≢ p). first_of_other q k d ∙ s.first_off q k (sym (stays q d) ∙ h) l);
    second_off = λ q k h. either (cases_eq q p)
        (λ (e : q ≡ p). absurd (both_ways (has news q) h (ap (has news) e ∙ had)))
        (λ (d : q ≢ p). second_of_other q k d ∙ s.second_off q k (sym (stays q d) ∙ h));
    apart = λ q k h. either (cases_eq q p)
        (λ (e : q ≡ p). either (cases_eq k (b + 1))
        (λ (c : k ≡ b + 1). absurd
        (both_ways (is_in (3 * p + 1) (others k)) (first_only k (λ (t : k ≡ a + 1). apart (omega arith)))
        (ap (λ z. is_in (3 * z + 1) (others k)) (sym e) ∙ h)))
        (λ (d : k ≢ b + 1). rw e (second_only k d)))
        (λ (d : q ≢ p). second_of_other q k d ∙ s.apart q k (sym (first_of_other q k d) ∙ h));
    counted = omega (arith, r.counted, ap length unmoved);
  }

  put-chains : (c : ℕ) → map place_of (others (c + 1))
      ≡ cond (eqb c a || eqb c b) (map place_of (rings (c + 1)) ++ p ∷ []) (map place_of (rings (c + 1)))
  put-chains c =
      let was : base (c + 1) ≡ rings (c + 1) = r.chains (c + 1) (omega arith) in
      either (cases_eq c a)
      (λ (e : c ≡ a).
      let other : c + 1 ≢ b + 1 = λ (d : c + 1 ≡ b + 1). apart (omega arith) in
      let at : others (c + 1) ≡ rings (c + 1) ++ (3 * p + 1) ∷ [] =
      are (c + 1) ∙ (with_last-other (with_last (a + 1) (3 * p + 1) base) (3 * p + 2) (b + 1) (c + 1) other
      ∙ (with_last-here base (3 * p + 1) (a + 1) (c + 1) (omega arith)
      ∙ ap (λ (t : List ℕ). t ++ (3 * p + 1) ∷ []) was)) in
      ap (map place_of) at ∙ (map_push place_of (rings (c + 1)) (3 * p + 1)
      ∙ (ap (λ z. map place_of (rings (c + 1)) ++ z ∷ []) (first-place p)
      ∙ sym (ap (λ t. cond (t || eqb c b) (map place_of (rings (c + 1)) ++ p ∷ []) (map place_of (rings (c + 1))))
      (eq-eqb c a e)))))
      (λ (d : c ≢ a). either (cases_eq c b)
      (λ (e : c ≡ b).
      let other : c + 1 ≢ a + 1 = λ (t : c + 1 ≡ a + 1). d (omega arith) in
      let at : others (c + 1) ≡ rings (c + 1) ++ (3 * p + 2) ∷ [] =
      are (c + 1) ∙ (with_last-here (with_last (a + 1) (3 * p + 1) base) (3 * p + 2) (b + 1) (c + 1) (omega arith)
      ∙ ap (λ (t : List ℕ). t ++ (3 * p + 2) ∷ []) (with_last-other base (3 * p + 1) (a + 1) (c + 1) other ∙ was)) in
      ap (map place_of) at ∙ (map_push place_of (rings (c + 1)) (3 * p + 2)
      ∙ (ap (λ z. map place_of (rings (c + 1)) ++ z ∷ []) (second-place p)
      ∙ sym (ap (λ t. cond (t || eqb c b) (map place_of (rings (c + 1)) ++ p ∷ []) (map place_of (rings (c + 1))))
      (ne_eqb c a d)
      ∙ ap (λ t. cond t (map place_of (rings (c + 1)) ++ p ∷ []) (map place_of (rings (c + 1)))) (eq-eqb c b e)))))
      (λ (e : c ≢ b).
      ap (map place_of) (neither (c + 1) (λ (t : c + 1 ≡ a + 1). d (omega arith))
      (λ (t : c + 1 ≡ b + 1). e (omega arith))
      ∙ was)
      ∙ sym (ap (λ t. cond (t || eqb c b) (map place_of (rings (c + 1)) ++ p ∷ []) (map place_of (rings (c + 1))))
      (ne_eqb c a d)
      ∙ ap (λ t. cond t (map place_of (rings (c + 1)) ++ p ∷ []) (map place_of (rings (c + 1)))) (ne_eqb c b e))))

  pub put-view : (f : ℕ → ℕ) → ((k : ℕ) → Path f (3 * k) (rings k) (3 * k)) → (v : Slab T)
      → slab_of slots rings count ≡ v → InsertsValue v (slab_of news others count) a b given p
  put-view f paths v e =
      subst (λ (w : Slab T). InsertsValue w (slab_of news others count) a b given p) e (record {
        unused = none_from (value_at slots p) r.unused;
        value = r.value;
        others = λ q d. r.others q (eqb-false q p d);
        reused = r.reused;
        spare = ap length unmoved ∙ r.spare;
        held = r.held;
        count =
            length-map-range_with_len (λ k. map place_of (others k)) 1 count
            ∙ sym (length-map-range_with_len (λ k. map place_of (rings k)) 1 count);
        absent = λ c. off-chain slots rings n count c p f (slab_of slots rings count) s paths refl r.unused;
        chains = λ c. chain-is news others m count c put-kept ∙ (put-chains c
            ∙ ap (λ (t : List ℕ). cond (eqb c a || eqb c b) (t ++ p ∷ []) t) (sym (chain-is slots rings n count c s)));
      })

-- ---- a new place, and a free one

module _ {T : Type 0} (slots : List (Option T)) (rings : ℕ → List ℕ) (n count : ℕ) (given : T)
    (s : IsSlab slots rings n count) where
  pub new-unused : has slots (length slots) ≡ false
  new-unused = ap is_some (get_or_past slots (length slots) None (omega arith))

  pub new-off : rings 0 ≡ [] → (k : ℕ) → is_in (3 * length slots + 1) (rings k) ≡ false
  new-off none k =
      either (cases_eq k 0)
      (λ (e : k ≡ 0). ap (λ z. is_in (3 * length slots + 1) (rings z)) e ∙ ap (is_in (3 * length slots + 1)) none)
      (λ (d : k ≢ 0). s.first_off (length slots) k new-unused (omega arith))

  pub new-few : rings 0 ≡ [] → held slots ≡ length slots
  new-few none = omega (arith, s.counted, ap length none)

  pub new-ready : (m : ℕ) → rings 0 ≡ [] → 3 * (length slots + 1) ≤ m → length slots + 1 < 2 ^ 32
      → Readied slots (slots ++ Some given ∷ []) rings rings m (length slots) given
  new-ready m none room small =
      let len : length (slots ++ Some given ∷ []) ≡ length slots + 1 = length_push slots (Some given) in
      record {
        unused = new-unused;
        value = get_or_push slots (Some given) None (length slots) refl;
        others = λ q d. either (cases_lt q (length slots))
            (λ (l : q < length slots). get_or_append_left slots (Some given ∷ []) None q l)
            (λ (l : length slots ≤ q).
            get_or_past (slots ++ Some given ∷ []) q None (omega arith) ∙ sym (get_or_past slots q None l));
        bound = λ q d. either (cases_lt q (length slots))
            (λ (l : q < length slots).
            lt-ltb q (length (slots ++ Some given ∷ [])) (omega arith) ∙ sym (lt-ltb q (length slots) l))
            (λ (l : length slots ≤ q).
            le-ltb q (length (slots ++ Some given ∷ [])) (omega arith) ∙ sym (le-ltb q (length slots) l));
        moved = λ q k d. refl;
        off = new-off none;
        chains = λ k l. refl;
        counted = omega (arith, s.counted, held-push slots given);
        held = held-push slots given;
        spare = omega (arith, ap length none);
        reused = λ l. absurd (omega (arith, ap length none));
        room = omega arith;
        small = omega arith;
      }

  module _ (f : ℕ → ℕ) (path : Path f 0 (rings 0) 0) (only : (q : ℕ) → f q ≡ f 0 → q ≡ 0) (some : f 0 ≢ 0) where
    found : (rest : List ℕ) × ((rings 0 ≡ f 0 ∷ rest) × (IsLink (f 0) × Path f (f 0) rest 0))
    found = first-is f 0 (rings 0) path some

    head_in : is_in (f 0) (rings 0) ≡ true
    head_in = ap (is_in (f 0)) found.1.0 ∙ ap (λ b. b || is_in (f 0) found.0) (eq-eqb (f 0) (f 0) refl)

    pub free-link : f 0 ≡ 3 * place_of (f 0) + 1
    free-link =
        either (a_link (f 0) found.1.1.0)
        (λ (e : f 0 ≡ 3 * place_of (f 0) + 1). e)
        (λ (e : f 0 ≡ 3 * place_of (f 0) + 2).
        absurd (both_ways (is_in (f 0) (rings 0)) (ap (λ z. is_in z (rings 0)) e ∙ s.second_free (place_of (f 0)))
        head_in))

    parts : (ltb (place_of (f 0)) (length slots) ≡ true) × (not (has slots (place_of (f 0))) ≡ true)
    parts =
        and_parts (ltb (place_of (f 0)) (length slots)) (not (has slots (place_of (f 0))))
        (sym (s.free (place_of (f 0))) ∙ (ap (λ z. is_in z (rings 0)) (sym free-link) ∙ head_in))

    pub free-within : place_of (f 0) < length slots
    free-within = ltb-true (place_of (f 0)) (length slots) parts.0

    pub free-unused : has slots (place_of (f 0)) ≡ false
    free-unused = not-true (has slots (place_of (f 0))) parts.1

    left : without (3 * place_of (f 0) + 1) (rings 0) ≡ found.0
    left =
        ap (λ z. without z (rings 0)) (sym free-link)
        ∙ (ap (without (f 0)) found.1.0 ∙ (without-here (f 0) (f 0) found.0 refl
        ∙ without-absent (f 0) found.0 (no_again f (f 0) 0 (f 0) found.0 only found.1.1.0 found.1.1.1)))

    pub free-ready : Readied slots (set slots (place_of (f 0)) (Some given)) rings
        (λ k. without (3 * place_of (f 0) + 1) (rings k)) n (place_of (f 0)) given
    free-ready =
        let len : length (set slots (place_of (f 0)) (Some given)) ≡ length slots =
        length-set slots (place_of (f 0)) (Some given) in
        let one_less : length (without (3 * place_of (f 0) + 1) (rings 0)) + 1 ≡ length (rings 0) =
        omega (arith, ap length left, ap length found.1.0) in
        let one_more : held (set slots (place_of (f 0)) (Some given)) + 0 ≡ held slots + 1 =
        subst (λ (b : Bool). held (set slots (place_of (f 0)) (Some given)) + cond b 1 0 ≡ held slots + 1)
        free-unused (held-set slots (place_of (f 0)) (Some given) free-within) in
        record {
          unused = free-unused;
          value = get_or-set_same slots (place_of (f 0)) (Some given) None free-within;
          others = λ q d. get_or-set_other slots (place_of (f 0)) q (Some given) None d;
          bound = λ q d. ap (ltb q) len;
          moved = λ q k d. without-is_in (3 * place_of (f 0) + 1) q (rings k) d;
          off = λ k. without-same (3 * place_of (f 0) + 1) (rings k);
          chains =
              λ k l. without-absent (3 * place_of (f 0) + 1) (rings k) (s.first_off (place_of (f 0)) k free-unused l);
          counted = omega (arith, s.counted);
          held = omega (arith, one_more);
          spare = omega arith;
          reused = λ l. free-within;
          room = omega (arith, s.room_slots);
          small = omega (arith, s.small);
        }
