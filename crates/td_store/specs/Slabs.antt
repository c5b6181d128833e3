-- What a contract sees of a slab.
use Rattle.std.specs.Prelude.{◌≡◌, ℕ, ◌+◌, ◌-◌, ◌<◌, Bool, false, not, ◌||◌, ◌==◌, cond, List, [], ◌∷◌, ◌++◌, length}
use Rattle.std.specs.Prelude.{count_by, Option, Some, None, is_some, slice_index_or, slice_set, filter, map, refl}
use Rattle.std.specs.Coded.{Coded, code_by, coded×, coded_ℕ, coded_list, coded_option}

-- the value or nothing at each place from 0 on, the places on each chain in the order of putting, and how many free
-- places are kept
pub record Slab (T : Type 0) : Type 0 where
  pub slots : List (Option T)
  pub chains : List (List ℕ)
  pub spare : ℕ

-- a slab is stored as the tuple of its fields
abbrev pub slab_code : {T : Type 0} → Coded T → Coded (Slab T)
slab_code {T} code =
    code_by
    (List (Option T) × (List (List ℕ) × ℕ))
    (coded× (coded_list (coded_option code)) (coded× (coded_list (coded_list coded_ℕ)) coded_ℕ))
    (λ s. (s.slots, (s.chains, s.spare)))
    (λ p. record { slots = p.0; chains = p.1.0; spare = p.1.1 })
    (λ _. refl)

-- the list has this number
abbrev pub is_in : ℕ → List ℕ → Bool
is_in q [] = false
is_in q (x ∷ xs) = (x == q) || is_in q xs

-- the list without a number
abbrev pub without : ℕ → List ℕ → List ℕ
without x xs = filter (λ y. not (y == x)) xs

-- the first of a list
abbrev pub first_of : List ℕ → Option ℕ
first_of [] = None
first_of (x ∷ xs) = Some x

-- wherever the place stands on the chain, this is the place after it
abbrev pub IsNext : List ℕ → ℕ → Option ℕ → Type 0
IsNext chain place next = (front back : List ℕ) → chain ≡ front ++ place ∷ back
    → next ≡ first_of back

-- the chain; past the last one, an empty one
abbrev pub chain_of : List (List ℕ) → ℕ → List ℕ
chain_of chains c = slice_index_or chains c []

module _ {T : Type 0} where
  -- the value at a place
  abbrev pub value_at : List (Option T) → ℕ → Option T
  value_at slots place = slice_index_or slots place None

  -- how many values there are
  abbrev pub held : List (Option T) → ℕ
  held slots = count_by is_some slots

  -- the slab after a write to the value at a place
  abbrev pub with_value : Slab T → ℕ → T → Slab T
  with_value s place value = record s { slots = slice_set s.slots place (Some value) }

  -- the value went to a place that had none, a free one first, and to the end of both chains
  pub record InsertsValue (old new : Slab T) (first second : ℕ) (given : T) (place : ℕ) :
      Type 0 where
    pub unused : value_at old.slots place ≡ None
    pub value : value_at new.slots place ≡ Some given
    pub others : (other : ℕ) → other == place ≡ false → value_at new.slots other
        ≡ value_at old.slots other
    pub reused : 0 < old.spare → place < length old.slots
    pub spare : new.spare ≡ old.spare - 1
    pub held : held new.slots ≡ held old.slots + 1
    pub count : length new.chains ≡ length old.chains
    pub absent : (c : ℕ) → is_in place (chain_of old.chains c) ≡ false
    pub chains : (c : ℕ) → chain_of new.chains c
        ≡ cond ((c == first) || (c == second)) (chain_of old.chains c ++ place ∷ [])
        (chain_of old.chains c)

  -- the place has no value any more, and no chain has the place
  pub record RemovesValue (old new : Slab T) (place : ℕ) : Type 0 where
    pub value : value_at new.slots place ≡ None
    pub others : (other : ℕ) → other == place ≡ false → value_at new.slots other
        ≡ value_at old.slots other
    pub spare : new.spare ≡ old.spare + 1
    pub held : held old.slots ≡ held new.slots + 1
    pub chains : new.chains ≡ map (without place) old.chains
