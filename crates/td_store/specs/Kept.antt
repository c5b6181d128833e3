-- How a slab is kept: place p has the links 3p + 1 and 3p + 2, chain c is ring c + 1, and the free places' first links
-- are ring 0.
use Rattle.std.specs.Prelude.{◌≡◌, ℕ, ◌+◌, ◌*◌, ◌/◌, ◌%◌, ◌==◌, cond, Some, None, ◌^◌, ◌<◌, ◌≤◌, Bool, true, false, not}
use Rattle.std.specs.Prelude.{◌&&◌, nat_lt, List, [], length, Option, is_some, map}
use Rattle.std.specs.List.{range_with_len}
use Rattle.td_store.specs.Slabs.{Slab, is_in, value_at, held}

-- the place of a link
abbrev pub place_of : ℕ → ℕ
place_of link = link / 3

-- the place of a link, and nothing at a joint that closes a ring
abbrev pub next_place : ℕ → Option ℕ
next_place joint = cond (joint % 3 == 0) None (Some (place_of joint))

-- the slab of these slots and rings, with this many chains
abbrev pub slab_of : {T : Type 0} → List (Option T) → (ℕ → List ℕ) → ℕ → Slab T
slab_of slots rings count = record {
  slots = slots;
  chains = map (λ k. map place_of (rings k)) (range_with_len 1 count);
  spare = length (rings 0);
}

module _ {T : Type 0} where
  abbrev pub has : List (Option T) → ℕ → Bool
  has slots place = is_some (value_at slots place)

  pub record IsSlab (slots : List (Option T)) (rings : ℕ → List ℕ) (joints count : ℕ) : Type 0 where
    pub room_slots : 3 * length slots ≤ joints
    pub room_rings : 3 * (count + 1) ≤ joints
    pub whole : joints % 3 ≡ 0
    pub limit : joints ≤ 3 * 2 ^ 32
    pub small : length slots < 2 ^ 32
    pub few : count < 2 ^ 32
    pub past : (k : ℕ) → count < k → rings k ≡ []
    pub free : (p : ℕ) → is_in (3 * p + 1) (rings 0)
        ≡ (nat_lt p (length slots) && not (has slots p))
    pub second_free : (p : ℕ) → is_in (3 * p + 2) (rings 0) ≡ false
    pub first_off : (p k : ℕ) → has slots p ≡ false → 0 < k → is_in (3 * p + 1) (rings k) ≡ false
    pub second_off : (p k : ℕ) → has slots p ≡ false → is_in (3 * p + 2) (rings k) ≡ false
    pub apart : (p k : ℕ) → is_in (3 * p + 1) (rings k) ≡ true → is_in (3 * p + 2) (rings k) ≡ false
    pub counted : held slots + length (rings 0) ≡ length slots
