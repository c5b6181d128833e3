-- What a slab ends as, where a `&mut` to one of its values is returned.
use Rattle.std.specs.Prelude.{ℕ, Option}
use Rattle.std.specs.Borrow.{Lends, LendsIf, Fml, RattleType, MutBor}
use Rattle.td_store.specs.Slabs.{Slab, with_value}
use Rattle.td_store.specs.contracts.slab.Slab.{the_row}

module _ (T : RattleType) (s : MutBor (Slab T.Denot)) (place : ℕ) where
  -- once the borrow ends, the place has the last value written; at `None` the slab stays as it is
  abbrev pub lends_change : Option (MutBor T.Denot) → Fml
  lends_change r = LendsIf (the_row T) T s r (with_value s.now place) s.now

  -- the same at a place that has a value
  abbrev pub lends_value : MutBor T.Denot → Fml
  lends_value r = Lends (the_row T) T s r (with_value s.now place)
