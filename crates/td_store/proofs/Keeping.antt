-- What each call leaves of a slab.
use Rattle.std.proofs.Common.{◌≡◌, ℕ, ◌+◌, ◌*◌, ◌%◌, ◌^◌, ◌<◌, ◌≤◌, Bool, true, false, cond, ◌&&◌, ◌||◌, ◌⊎◌, List, []}
use Rattle.std.proofs.Common.{◌∷◌, ◌++◌, length, set, get_or, map, Option, Some, None, refl, sym, ap, ◌∙◌, subst, arith}
use Rattle.std.specs.List.{range_with_len}
use Rattle.std.specs.Option.{is_some, IsSome}
use Rattle.std.proofs.lemmas.List.{get_or-map, map-set, length-map, get_or-set_same, get_or-set_other, get_or_past}
use Rattle.std.proofs.lemmas.List.{length-set}
use Rattle.std.proofs.lemmas.List.Sums.{sum_by-set, sum_by_push}
use Rattle.std.proofs.lemmas.List.FromFn.{length-map-range_with_len, get_or-map-range_with_len, map-range_with_len_more}
use Rattle.std.proofs.lemmas.Bool.{cases_eq, cases_lt, ne_eqb, eq-eqb, le-ltb, both_ways}
use mathlib.Core.Logic.{◌≢◌}
use mathlib.Core.Path.{fun_ext}
use Rattle.td_store.specs.Rings.{IsLink}
use Rattle.td_store.specs.declared.slot.Slot.{Slot}
use Rattle.td_store.specs.declared.slot.Slot.TheVariants.{Occupied}
use Rattle.td_store.specs.Slots.{value_of}
use Rattle.td_store.specs.Slabs.{Slab, is_in, without, chain_of, value_at, held, with_value}
use Rattle.td_store.specs.Kept.{place_of, slab_of, has, IsSlab}
use Rattle.td_store.proofs.Core.{either, without-other}

-- ---- links and places

pub first-place : (p : ℕ) → place_of (3 * p + 1) ≡ p
first-place p = omega arith

pub second-place : (p : ℕ) → place_of (3 * p + 2) ≡ p
second-place p = omega arith

pub a_link : (x : ℕ) → IsLink x → (x ≡ 3 * place_of x + 1) ⊎ (x ≡ 3 * place_of x + 2)
a_link x l = grind arith

pub head_is_in : (x y : ℕ) (ys : List ℕ) → y ≡ x → is_in x (y ∷ ys) ≡ false → ⊥
head_is_in x y ys d e = both_ways (is_in x (y ∷ ys)) e (rw (eq-eqb y x d) refl)

tail_lacks : (x y : ℕ) (ys : List ℕ) → y ≢ x → is_in x (y ∷ ys) ≡ false → is_in x ys ≡ false
tail_lacks x y ys d e = sym (ap (λ b. b || is_in x ys) (ne_eqb y x d)) ∙ e

pub without-absent : (x : ℕ) (xs : List ℕ) → is_in x xs ≡ false → without x xs ≡ xs
without-absent x [] e = refl
without-absent x (y ∷ ys) e =
    either (cases_eq y x)
    (λ (d : y ≡ x). absurd (head_is_in x y ys d e))
    (λ (d : y ≢ x). rw (without-other x y ys d) (ap (λ t. y ∷ t) (without-absent x ys (tail_lacks x y ys d e))))

-- ---- slots and their values

pub slot-is : {T : Type 0} (items : List (Slot T)) (p : ℕ) (s : Slot T) → p < length items → s ≡ get_or items p s
    → value_at (map value_of items) p ≡ value_of s
slot-is items p s l e = get_or-map value_of items p s None l ∙ ap value_of (sym e)

pub slot-has : {T : Type 0} (items : List (Slot T)) (p : ℕ) (s : Slot T) (o : Option T) (x : T) → p < length items
    → s ≡ get_or items p s → o ≡ value_of s → o ≡ Some x → has (map value_of items) p ≡ true
slot-has items p s o x l e v d = ap is_some (slot-is items p s l e ∙ (sym v ∙ d))

pub slots-set : {T : Type 0} (items : List (Slot T)) (p : ℕ) (s : Slot T) (o : Option T) → value_of s ≡ o
    → map value_of (set items p s) ≡ set (map value_of items) p o
slots-set {T} items p s o e = map-set value_of items p s ∙ ap (λ (v : Option T). set (map value_of items) p v) e

-- ---- what a list of slots has

module _ {T : Type 0} where
  pub has-set_other : (slots : List (Option T)) (p q : ℕ) (o : Option T) → q ≢ p → has (set slots p o) q ≡ has slots q
  has-set_other slots p q o n = ap is_some (get_or-set_other slots p q o None n)

  pub has-set_same : (slots : List (Option T)) (p : ℕ) (o : Option T) → p < length slots
      → has (set slots p o) p ≡ is_some o
  has-set_same slots p o l = ap is_some (get_or-set_same slots p o None l)

  pub has-within : (slots : List (Option T)) (p : ℕ) → has slots p ≡ true → p < length slots
  has-within slots p h =
      either (cases_lt p (length slots))
      (λ (l : p < length slots). l)
      (λ (l : length slots ≤ p).
      let gone : false ≡ true = sym (ap is_some (get_or_past slots p None l)) ∙ h in absurd (cc))

  pub held-set : (slots : List (Option T)) (p : ℕ) (o : Option T) → p < length slots
      → held (set slots p o) + cond (has slots p) 1 0 ≡ held slots + cond (is_some o) 1 0
  held-set slots p o l = sum_by-set (λ x. cond (is_some x) 1 0) slots p o None l

  pub held-push : (slots : List (Option T)) (x : T) → held (slots ++ Some x ∷ []) ≡ held slots + 1
  held-push slots x = sum_by_push (λ y. cond (is_some y) 1 0) slots (Some x)

  -- ---- the first slab, and one chain more

  pub new-kept : (rings : ℕ → List ℕ) (n : ℕ) → ((k : ℕ) → rings k ≡ []) → n ≡ 3 → IsSlab {T = T} [] rings n 0
  new-kept rings n e len = record {
    room_slots = omega arith;
    room_rings = omega arith;
    whole = omega arith;
    limit = omega arith;
    small = omega arith;
    few = omega arith;
    past = λ k l. e k;
    free = λ p. ap (is_in (3 * p + 1)) (e 0) ∙ sym (ap (λ b. b && true) (le-ltb p 0 (omega arith)));
    second_free = λ p. ap (is_in (3 * p + 2)) (e 0);
    first_off = λ p k h l. ap (is_in (3 * p + 1)) (e k);
    second_off = λ p k h. ap (is_in (3 * p + 2)) (e k);
    apart = λ p k h. ap (is_in (3 * p + 2)) (e k);
    counted = omega (arith, ap length (e 0));
  }

  pub new-view : (rings : ℕ → List ℕ) → ((k : ℕ) → rings k ≡ [])
      → slab_of {T = T} [] rings 0 ≡ record { slots = []; chains = []; spare = 0 }
  new-view rings e =
      ap (λ (n : ℕ). let s : Slab T = record { slots = []; chains = []; spare = n } in s) (ap length (e 0))

  module _ (slots : List (Option T)) (rings others : ℕ → List ℕ) (n m count : ℕ) (s : IsSlab slots rings n count)
      (same : (k : ℕ) → others k ≡ rings k) where
    pub grown-kept : (rows : ℕ) → rows ≤ 2 ^ 32 → (m ≡ n) ⊎ ((n < 3 * rows) × (m ≡ n + 3)) → IsSlab slots others m count
    grown-kept rows few u =
        let no_less : n ≤ m =
        either u (λ (e : m ≡ n). omega arith) (λ (e : (n < 3 * rows) × (m ≡ n + 3)). omega arith) in
        let whole : m % 3 ≡ 0 =
        either u (λ (e : m ≡ n). omega (arith, s.whole))
        (λ (e : (n < 3 * rows) × (m ≡ n + 3)). omega (arith, s.whole)) in
        let limit : m ≤ 3 * 2 ^ 32 =
        either u (λ (e : m ≡ n). omega (arith, s.limit))
        (λ (e : (n < 3 * rows) × (m ≡ n + 3)). omega (arith, s.whole)) in
        subst (λ (r : ℕ → List ℕ). IsSlab slots r m count) (sym (fun_ext same))
        (record {
          room_slots = omega (arith, s.room_slots);
          room_rings = omega (arith, s.room_rings);
          whole = whole;
          limit = limit;
          small = s.small;
          few = s.few;
          past = s.past;
          free = s.free;
          second_free = s.second_free;
          first_off = s.first_off;
          second_off = s.second_off;
          apart = s.apart;
          counted = s.counted;
        })

  pub same-view : (slots : List (Option T)) (rings others : ℕ → List ℕ) (count : ℕ) → ((k : ℕ) → others k ≡ rings k)
      → slab_of slots others count ≡ slab_of slots rings count
  same-view slots rings others count same = ap (λ (r : ℕ → List ℕ). slab_of slots r count) (fun_ext same)

  pub chain-kept : (slots : List (Option T)) (rings : ℕ → List ℕ) (n count : ℕ) → IsSlab slots rings n count
      → 3 * (count + 2) ≤ n → count + 1 < 2 ^ 32 → IsSlab slots rings n (count + 1)
  chain-kept slots rings n count s room few = record {
    room_slots = s.room_slots;
    room_rings = omega arith;
    whole = s.whole;
    limit = s.limit;
    small = s.small;
    few = few;
    past = λ k l. s.past k (omega arith);
    free = s.free;
    second_free = s.second_free;
    first_off = s.first_off;
    second_off = s.second_off;
    apart = s.apart;
    counted = s.counted;
  }

  pub chain-view : (slots : List (Option T)) (rings : ℕ → List ℕ) (n count : ℕ) → IsSlab slots rings n count
      → slab_of slots rings (count + 1)
      ≡ record (slab_of slots rings count) { chains = (slab_of slots rings count).chains ++ [] ∷ [] }
  chain-view slots rings n count s =
      let more : map (λ k. map place_of (rings k)) (range_with_len 1 (count + 1))
      ≡ map (λ k. map place_of (rings k)) (range_with_len 1 count) ++ map place_of (rings (count + 1)) ∷ [] =
      map-range_with_len_more (λ k. map place_of (rings k)) 1 count (count + 1) (omega arith) in
      let none : map place_of (rings (count + 1)) ≡ [] = ap (map place_of) (s.past (count + 1) (omega arith)) in
      ap (λ (cs : List (List ℕ)). record (slab_of slots rings count) { chains = cs })
      (more ∙ ap (λ (c : List ℕ). map (λ k. map place_of (rings k)) (range_with_len 1 count) ++ c ∷ []) none)

  pub count-is : (slots : List (Option T)) (rings : ℕ → List ℕ) (count : ℕ) (v : Slab T) → slab_of slots rings count ≡ v
      → length v.chains ≡ count
  count-is slots rings count v e =
      ap (λ (s : Slab T). length s.chains) (sym e) ∙ length-map-range_with_len (λ k. map place_of (rings k)) 1 count

  -- each chain is its ring
  pub chain-is : (slots : List (Option T)) (rings : ℕ → List ℕ) (n count c : ℕ) → IsSlab slots rings n count
      → chain_of (slab_of slots rings count).chains c ≡ map place_of (rings (c + 1))
  chain-is slots rings n count c s =
      either (cases_lt c count)
      (λ (l : c < count). get_or-map-range_with_len (λ k. map place_of (rings k)) 1 count c (c + 1) [] l (omega arith))
      (λ (l : count ≤ c).
      let past : length (map (λ k. map place_of (rings k)) (range_with_len 1 count)) ≤ c =
      omega (arith, length-map-range_with_len (λ k. map place_of (rings k)) 1 count) in
      get_or_past (map (λ k. map place_of (rings k)) (range_with_len 1 count)) c [] past
      ∙ ap (map place_of) (sym (s.past (c + 1) (omega arith))))

  -- ---- another value at the same place

  pub has-rewritten : (slots : List (Option T)) (p q : ℕ) (w : T) → has slots p ≡ true
      → has (set slots p (Some w)) q ≡ has slots q
  has-rewritten slots p q w h =
      either (cases_eq q p)
      (λ (e : q ≡ p). rw e (has-set_same slots p (Some w) (has-within slots p h) ∙ sym h))
      (λ (n : q ≢ p). has-set_other slots p q (Some w) n)

  pub rewritten-kept : (slots : List (Option T)) (rings : ℕ → List ℕ) (n count p : ℕ) (w : T)
      → IsSlab slots rings n count → has slots p ≡ true → IsSlab (set slots p (Some w)) rings n count
  rewritten-kept slots rings n count p w s h =
      let len : length (set slots p (Some w)) ≡ length slots = length-set slots p (Some w) in
      let within : p < length slots = has-within slots p h in
      let some : held (set slots p (Some w)) + 1 ≡ held slots + 1 =
      subst (λ (b : Bool). held (set slots p (Some w)) + cond b 1 0 ≡ held slots + 1) h
      (held-set slots p (Some w) within) in
      record {
        room_slots = omega (arith, s.room_slots);
        room_rings = s.room_rings;
        whole = s.whole;
        limit = s.limit;
        small = omega (arith, s.small);
        few = s.few;
        past = s.past;
        free = λ q. s.free q ∙ sym (rw len (rw (has-rewritten slots p q w h) refl));
        second_free = s.second_free;
        first_off = λ q k e l. s.first_off q k (sym (has-rewritten slots p q w h) ∙ e) l;
        second_off = λ q k e. s.second_off q k (sym (has-rewritten slots p q w h) ∙ e);
        apart = s.apart;
        counted = omega (arith, s.counted);
      }

  pub lent-kept : (items : List (Slot T)) (rings : ℕ → List ℕ) (n count p : ℕ) (w : T)
      → IsSlab (map value_of items) rings n count → has (map value_of items) p ≡ true
      → IsSlab (map value_of (set items p (Occupied w))) rings n count
  lent-kept items rings n count p w s h =
      subst (λ (t : List (Option T)). IsSlab t rings n count) (sym (slots-set items p (Occupied w) (Some w) refl))
      (rewritten-kept (map value_of items) rings n count p w s h)

  pub lent-view : (items : List (Slot T)) (rings : ℕ → List ℕ) (count p : ℕ) (w : T) (v : Slab T)
      → slab_of (map value_of items) rings count ≡ v
      → slab_of (map value_of (set items p (Occupied w))) rings count ≡ with_value v p w
  lent-view items rings count p w v e =
      ap (λ (t : List (Option T)). slab_of t rings count) (slots-set items p (Occupied w) (Some w) refl)
      ∙ ap (λ (z : Slab T). with_value z p w) e

  pub slot-within : (items : List (Slot T)) (p : ℕ) → has (map value_of items) p ≡ true → p < length items
  slot-within items p h =
      let l : p < length (map value_of items) = has-within (map value_of items) p h in
      omega (arith, length-map items value_of)

  pub has-of : (slots : List (Option T)) (rings : ℕ → List ℕ) (count p : ℕ) (v : Slab T) → slab_of slots rings count ≡ v
      → IsSome (value_at v.slots p) → has slots p ≡ true
  has-of slots rings count p v e h = ap (λ (z : Slab T). has z.slots p) e ∙ h

  pub chain-seen : (slots : List (Option T)) (rings : ℕ → List ℕ) (n count c : ℕ) (v : Slab T)
      → IsSlab slots rings n count → slab_of slots rings count ≡ v → chain_of v.chains c ≡ map place_of (rings (c + 1))
  chain-seen slots rings n count c v s e =
      ap (λ (z : Slab T). chain_of z.chains c) (sym e) ∙ chain-is slots rings n count c s

  pub chain-past : (slots : List (Option T)) (rings : ℕ → List ℕ) (n count c : ℕ) (v : Slab T)
      → IsSlab slots rings n count → slab_of slots rings count ≡ v → count ≤ c → chain_of v.chains c ≡ []
  chain-past slots rings n count c v s e l =
      chain-seen slots rings n count c v s e ∙ ap (map place_of) (s.past (c + 1) (omega arith))

  pub slot-past : (items : List (Slot T)) (p : ℕ) → length items ≤ p → has (map value_of items) p ≡ false
  slot-past items p l =
      let past : length (map value_of items) ≤ p = omega (arith, length-map items value_of) in
      ap is_some (get_or_past (map value_of items) p None past)

  pub slot-lacks : (items : List (Slot T)) (p : ℕ) (s : Slot T) → p < length items → s ≡ get_or items p s
      → value_of s ≡ None → has (map value_of items) p ≡ false
  slot-lacks items p s l e n = ap is_some (slot-is items p s l e ∙ n)
