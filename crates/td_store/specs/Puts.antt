-- An offer that is put on the slab under its number, or not.
use Rattle.std.specs.Prelude.{◌≡◌, ℕ, List, [], ◌∷◌, ◌++◌, length}
use Rattle.td_store.specs.Slabs.{Slab, value_at, chain_of, held, InsertsValue}
use Rattle.td_store.specs.declared.record.OfferRecord.{OfferRecord}

-- it is at a place, to which its number leads, as the last
pub record IsPut (old new : Slab OfferRecord) (of_type of_kind : ℕ) (offer : OfferRecord)
    (numbers after : List (ℕ × ℕ)) : Type 0 where
  pub place : ℕ
  pub puts : InsertsValue old new of_type of_kind offer place
  pub noted : after ≡ numbers ++ (offer.number, place) ∷ []

-- each place and each chain is as it was
pub record IsAsBefore (old new : Slab OfferRecord) : Type 0 where
  pub values : (p : ℕ) → value_at new.slots p ≡ value_at old.slots p
  pub chains : (c : ℕ) → chain_of new.chains c ≡ chain_of old.chains c
  pub count : length new.chains ≡ length old.chains
  pub held : held new.slots ≡ held old.slots
