-- What a desk ends as, where a `&mut` to one of its items is returned.
use Rattle.std.specs.Prelude.{ℕ, List, Option}
use Rattle.std.specs.Borrow.{Lends, LendsIf, Fml, RattleType, MutBor}
use Rattle.td_iter.specs.Desks.{LiveOf, with_live_item, with_item}
use Rattle.td_iter.specs.contracts.desk.Desk.{the_row}

module _ (I : RattleType) (s : MutBor (LiveOf I.Denot)) where
  -- once the borrow ends, the iterator at a place has the last value written
  abbrev pub lends_at : ℕ → MutBor I.Denot → Fml
  lends_at place r = Lends (the_row I) I s r (with_live_item place s.now)

  -- once the borrow ends, the iterator that is called so has the last value written; at `None` the desk stays as it is
  abbrev pub lends_item : List ℕ → ℕ → Option (MutBor I.Denot) → Fml
  lends_item trader number r = LendsIf (the_row I) I s r (with_item trader number s.now) s.now
