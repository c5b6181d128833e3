-- What is seen of the traders later: nothing changes but that histories grow, and stay legal.
use Rattle.std.specs.Prelude.{◌≡◌, ℕ, List, ◌++◌, length, slice_get, Option, Some}
use Rattle.td_changes.specs.Histories.{LegalFrom}
use Rattle.td_register.specs.declared.history.Accepted.{Accepted}
use Rattle.td_trader.specs.Worlds.{View, store_seen}

-- one trader: its name, its opening store and its bounds stay, and its history is followed by legal changes
pub record GrowsLegally (v u : View) : Type 0 where
  pub name : u.name ≡ v.name
  pub opening : u.opening ≡ v.opening
  pub bounds : u.bounds ≡ v.bounds
  pub more : List Accepted
  pub history : u.history ≡ v.history ++ more
  pub legal : LegalFrom v.bounds (length v.history) (store_seen v) more

pub record IsLater (v : View) (o : Option View) : Type 0 where
  pub view : View
  pub is : o ≡ Some view
  pub grows : GrowsLegally v view

-- each trader, and there are as many
pub record AllGrow (w u : List View) : Type 0 where
  pub count : length u ≡ length w
  pub each : (k : ℕ) (v : View) → slice_get w k ≡ Some v → IsLater v (slice_get u k)
