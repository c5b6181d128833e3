-- What holds of every walk.
use Rattle.std.specs.Prelude.{◌≡◌, ℕ, List, ◌++◌}
use Rattle.td_ops.specs.declared.call.Query.{Query}
use Rattle.td_walk.specs.Peering.{Exchange}
use Rattle.td_walk.specs.declared.trace.TraceItem.{TraceItem}
use Rattle.td_query_walk.specs.Walks.{Asked, Start}

-- How a query begins at each trader of a group whose world is a number, and the world behind it. Whatever becomes of a
-- group can be told by numbers.
abbrev pub Group : Type 0
Group = (world : ℕ) → (trader : ℕ) → Query → Start × ℕ

abbrev pub BeginsIn : Group → (world : ℕ) → (trader : ℕ) → Query → Start → (next : ℕ) → Type 0
BeginsIn group world trader q start next = group world trader q ≡ (start, next)

-- the items show, in order, the calls that were made since, and what each gave
pub record ShowsCalls (items : List TraceItem) (before after : List Exchange) : Type 0 where
  pub made : List Exchange
  pub calls : after ≡ before ++ made
  pub asked : Asked items made
