-- What stays of the traders whatever begins at them: how many there are, and their names.
use Rattle.std.proofs.Common.{ℕ, ◌<◌, List, length, sym, subst, arith}
use Rattle.td_cdr.specs.Marks.{Marks}
use Rattle.td_cdr.specs.Names.{IsTraderName}
use Rattle.td_fed.proofs.Staying.{goes-many, goes-name}
use Rattle.td_fed.specs.Trails.{Goes}
use Rattle.td_register.specs.declared.history.Accepted.{Accepted}
use Rattle.td_servant.specs.Objects.{IsNamed}
use Rattle.td_trader.specs.Worlds.{View, name_at}

module _ (others : List Accepted → Type 0) (later : Marks → Marks → Type 0) where
  pub still_within : (w u : List View) (k : ℕ) → Goes others later w u → k < length w → k < length u
  still_within w u k g h = let e = goes-many others later w u g in omega (arith, e)

  pub still_named : (w u : List View) (k : ℕ) → Goes others later w u → IsNamed w k → IsTraderName (name_at u k)
  still_named w u k g n = subst IsTraderName (sym (goes-name others later w u g k)) n.named
