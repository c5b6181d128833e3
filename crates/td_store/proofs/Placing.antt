-- What `put` asks of its two ways, and what they leave.
use Rattle.std.proofs.Common.{◌≡◌, ℕ, ◌+◌, ◌-◌, ◌*◌, ◌/◌, ◌%◌, ◌^◌, ◌<◌, ◌≤◌, ◌⊎◌, false, List, [], ◌∷◌, ◌++◌, length}
use Rattle.std.proofs.Common.{set, map, Option, Some, None, refl, sym, ap, ◌∙◌, subst, arith}
use Rattle.std.proofs.lemmas.List.{map_push, length-map}
use mathlib.Core.Logic.{◌≢◌}
use Rattle.td_store.specs.declared.joint.Joint.{Joint}
use Rattle.td_store.specs.declared.slot.Slot.{Slot}
use Rattle.td_store.specs.declared.slot.Slot.TheVariants.{Occupied}
use Rattle.td_store.specs.Slots.{value_of}
use Rattle.td_store.specs.Rings.{AreLinked, after, before, with_last}
use Rattle.td_store.specs.Slabs.{Slab, is_in, without, value_at, held, InsertsValue}
use Rattle.td_store.specs.Kept.{place_of, slab_of, IsSlab}
use Rattle.td_store.proofs.Core.{either}
use Rattle.td_store.proofs.Keeping.{slots-set, grown-kept, same-view}
use Rattle.td_store.proofs.Reading.{none-if}
use Rattle.td_store.proofs.Putting.{Readied, put-kept, put-view, new-ready, new-off, new-unused, new-few, free-ready}
use Rattle.td_store.proofs.Putting.{free-within, free-unused, none_from}

module _ {T : Type 0} (js : List Joint) (l : AreLinked js) (items : List (Slot T)) (count a b : ℕ) (given : T)
    (s : IsSlab (map value_of items) l.0 (length js) count) where
  pub room : 3 * length items ≤ length js
  room = omega (arith, s.room_slots, length-map items value_of)

  pub within : length items < 2 ^ 32
  within = omega (arith, s.small, length-map items value_of)

  pub ring-in : (c : ℕ) → c < count → 3 * (c + 1) < length js
  ring-in c h = omega (arith, s.room_rings)

  module _ (h : ℕ) (is_head : h ≡ after js 0) where
    pub none : h ≡ 0 → l.0 0 ≡ []
    none e = none-if (after js) 0 0 (l.0 0) (l.1.paths 0) (sym is_head ∙ e)

    -- a new place
    pub few : h ≡ 0 → (v : Slab T) → slab_of (map value_of items) l.0 count ≡ v → held v.slots < 2 ^ 32 - 1
        → length items < 2 ^ 32 - 1
    few e v shown small =
        let all : held (map value_of items) ≡ length (map value_of items) =
        new-few (map value_of items) l.0 (length js) count given s (none e) in
        let same : held (map value_of items) ≡ held v.slots = ap (λ (z : Slab T). held z.slots) shown in
        omega (arith, length-map items value_of)

    pub first-off : h ≡ 0 → (k : ℕ) → is_in (3 * length items + 1) (l.0 k) ≡ false
    first-off e k =
        subst (λ z. is_in (3 * z + 1) (l.0 k) ≡ false) (length-map items value_of)
        (new-off (map value_of items) l.0 (length js) count given s (none e) k)

    pub second-off : (k : ℕ) → is_in (3 * length items + 2) (l.0 k) ≡ false
    second-off k =
        subst (λ z. is_in (3 * z + 2) (l.0 k) ≡ false) (length-map items value_of)
        (s.second_off (length (map value_of items)) k
        (new-unused (map value_of items) l.0 (length js) count given s))

    module _ (news : List (Slot T)) (others : ℕ → List ℕ) (m : ℕ) (zero : h ≡ 0)
        (is : news ≡ items ++ Occupied given ∷ [])
        (are : (k : ℕ) → others k
        ≡ with_last (b + 1) (3 * length items + 2) (with_last (a + 1) (3 * length items + 1) l.0) k)
        (grown : 3 * (length items + 1) ≤ m)
        (len : (m ≡ length js) ⊎ ((length js < 3 * (length items + 1)) × (m ≡ length js + 3)))
        (small : length items < 2 ^ 32 - 1) (la : a < count) (lb : b < count) (apart : a ≢ b) where
      same_slots : map value_of news ≡ map value_of items ++ Some given ∷ []
      same_slots = ap (map value_of) is ∙ map_push value_of items (Occupied given)

      are_here : (k : ℕ) → others k
          ≡ with_last (b + 1) (3 * length (map value_of items) + 2)
          (with_last (a + 1) (3 * length (map value_of items) + 1) l.0) k
      are_here =
          subst (λ z. (k : ℕ) → others k ≡ with_last (b + 1) (3 * z + 2) (with_last (a + 1) (3 * z + 1) l.0) k)
          (sym (length-map items value_of)) are

      ready : Readied (map value_of items) (map value_of items ++ Some given ∷ []) l.0 l.0 m
          (length (map value_of items)) given
      ready =
          new-ready (map value_of items) l.0 (length js) count given s m (none zero)
          (omega (arith, length-map items value_of)) (omega (arith, length-map items value_of))

      more : length js ≤ m
      more =
          either len (λ (e : m ≡ length js). omega arith)
          (λ (e : (length js < 3 * (length items + 1)) × (m ≡ length js + 3)). omega arith)

      whole : m % 3 ≡ 0
      whole =
          either len (λ (e : m ≡ length js). omega (arith, s.whole))
          (λ (e : (length js < 3 * (length items + 1)) × (m ≡ length js + 3)). omega (arith, s.whole))

      limit : m ≤ 3 * 2 ^ 32
      limit =
          either len (λ (e : m ≡ length js). omega (arith, s.limit))
          (λ (e : (length js < 3 * (length items + 1)) × (m ≡ length js + 3)). omega (arith, s.whole))

      pub new-keeps : IsSlab (map value_of news) others m count
      new-keeps = subst (λ (t : List (Option T)). IsSlab t others m count) (sym same_slots)
          (put-kept (map value_of items) (map value_of items ++ Some given ∷ []) l.0 l.0 others (length js) m count
          (length (map value_of items)) a b given s ready more whole limit la lb apart are_here)

      pub new-puts : (p : ℕ) → p ≡ length items → (v : Slab T) → slab_of (map value_of items) l.0 count ≡ v
          → InsertsValue v (slab_of (map value_of news) others count) a b given p
      new-puts p at v shown =
          subst (λ (t : List (Option T)). InsertsValue v (slab_of t others count) a b given p) (sym same_slots)
          (subst (λ (q : ℕ). InsertsValue v (slab_of (map value_of items ++ Some given ∷ []) others count) a b given q)
          (length-map items value_of ∙ sym at)
          (put-view (map value_of items) (map value_of items ++ Some given ∷ []) l.0 l.0 others (length js) m
          count (length (map value_of items)) a b given s ready more whole limit la lb apart are_here
          (after js) l.1.paths v shown))

    -- a free place
    module _ (some : h ≢ 0) where
      some_here : after js 0 ≢ 0
      some_here e = some (is_head ∙ e)

      only : (q : ℕ) → after js q ≡ after js 0 → q ≡ 0
      only q e = sym (l.1.forth q) ∙ (ap (before js) e ∙ l.1.forth 0)

      pub free-there : h / 3 < length items
      free-there =
          subst (λ z. z / 3 < length items) (sym is_head)
          (omega (
            arith,
            length-map items value_of,
            free-within (map value_of items) l.0 (length js) count given s (after js) (l.1.paths 0) only
                some_here,
          ))

      pub free-vacant : value_at (map value_of items) (h / 3) ≡ None
      free-vacant =
          subst (λ z. value_at (map value_of items) (z / 3) ≡ None) (sym is_head)
          (none_from (value_at (map value_of items) (place_of (after js 0)))
          (free-unused (map value_of items) l.0 (length js) count given s (after js) (l.1.paths 0) only
          some_here))

      pub free-second : (k : ℕ) → is_in (3 * (h / 3) + 2) (l.0 k) ≡ false
      free-second = subst (λ z. (k : ℕ) → is_in (3 * (z / 3) + 2) (l.0 k) ≡ false) (sym is_head)
          (λ k. s.second_off (place_of (after js 0)) k
          (free-unused (map value_of items) l.0 (length js) count given s (after js) (l.1.paths 0) only some_here))

      ready_free : Readied (map value_of items) (set (map value_of items) (h / 3) (Some given)) l.0
          (λ k. without (3 * (h / 3) + 1) (l.0 k)) (length js) (h / 3) given
      ready_free =
          subst (λ z. Readied (map value_of items) (set (map value_of items) (z / 3) (Some given)) l.0
          (λ k. without (3 * (z / 3) + 1) (l.0 k)) (length js) (z / 3) given)
          (sym is_head)
          (free-ready (map value_of items) l.0 (length js) count given s (after js) (l.1.paths 0) only some_here)

      module _ (news : List (Slot T)) (others : ℕ → List ℕ) (m : ℕ) (is : news ≡ set items (h / 3) (Occupied given))
          (are : (k : ℕ) → others k
          ≡ with_last (b + 1) (3 * (h / 3) + 2)
          (with_last (a + 1) (3 * (h / 3) + 1) (λ j. without (3 * (h / 3) + 1) (l.0 j))) k)
          (len : m ≡ length js) (la : a < count) (lb : b < count) (apart : a ≢ b) where
        same_set : map value_of news ≡ set (map value_of items) (h / 3) (Some given)
        same_set = ap (map value_of) is ∙ slots-set items (h / 3) (Occupied given) (Some given) refl

        pub free-keeps : IsSlab (map value_of news) others m count
        free-keeps =
            subst (λ (t : List (Option T)). IsSlab t others m count) (sym same_set)
            (subst (λ (k : ℕ). IsSlab (set (map value_of items) (h / 3) (Some given)) others k count) (sym len)
            (put-kept (map value_of items) (set (map value_of items) (h / 3) (Some given)) l.0
            (λ k. without (3 * (h / 3) + 1) (l.0 k)) others (length js) (length js) count (h / 3) a b given
            s ready_free (omega arith) s.whole s.limit la lb apart are))

        pub free-puts : (p : ℕ) → p ≡ h / 3 → (v : Slab T) → slab_of (map value_of items) l.0 count ≡ v
            → InsertsValue v (slab_of (map value_of news) others count) a b given p
        free-puts p at v shown =
            subst (λ (t : List (Option T)). InsertsValue v (slab_of t others count) a b given p) (sym same_set)
            (subst (λ (q : ℕ). InsertsValue v (slab_of (set (map value_of items) (h / 3) (Some given)) others count) a b
            given q)
            (sym at)
            (put-view (map value_of items) (set (map value_of items) (h / 3) (Some given)) l.0
            (λ k. without (3 * (h / 3) + 1) (l.0 k)) others (length js) (length js) count (h / 3) a b given
            s ready_free (omega arith) s.whole s.limit la lb apart are (after js) l.1.paths v shown))

  -- nothing was put
  pub none-kept : (news : List (Slot T)) (others : ℕ → List ℕ) (m : ℕ) → news ≡ items → ((k : ℕ) → others k ≡ l.0 k)
      → length items < 2 ^ 32 - 1 → (m ≡ length js) ⊎ ((length js < 3 * (length items + 1)) × (m ≡ length js + 3))
      → IsSlab (map value_of news) others m count
  none-kept news others m is same small len =
      subst (λ (t : List (Slot T)). IsSlab (map value_of t) others m count) (sym is)
      (grown-kept (map value_of items) l.0 others (length js) m count s same (length items + 1) (omega arith) len)

  pub none-view : (news : List (Slot T)) (others : ℕ → List ℕ) (v : Slab T) → news ≡ items
      → ((k : ℕ) → others k ≡ l.0 k) → slab_of (map value_of items) l.0 count ≡ v
      → slab_of (map value_of news) others count ≡ v
  none-view news others v is same shown =
      ap (λ (t : List (Slot T)). slab_of (map value_of t) others count) is
      ∙ (same-view (map value_of items) l.0 others count same ∙ shown)

  pub no-spare : (h : ℕ) → h ≡ after js 0 → h ≡ 0 → (v : Slab T) → slab_of (map value_of items) l.0 count ≡ v
      → v.spare ≡ 0
  no-spare h is_head e v shown = ap (λ (z : Slab T). z.spare) (sym shown) ∙ ap length (none h is_head e)
