-- What a session keeps.
use Rattle.std.specs.Prelude.{◌≡◌, ℕ, List, []}
use Rattle.td_iter.specs.Desks.{Live}
use Rattle.td_servant.specs.declared.entry.Entry.{Entry}
use Rattle.td_walk.specs.declared.trace.Address.{Address}

-- where the group of traders is reached, the iterators of the connection, what is noted of each Request, in order, and
-- the reply to the message in front
pub record Room : Type 0 where
  pub home : Address
  pub desk : Live
  pub journal : List Entry
  pub replies : List ℕ

-- no iterator is kept, the next one's number is 1, and nothing is noted
pub record IsNew (room : Room) : Type 0 where
  pub desk : room.desk ≡ ([], 1)
  pub journal : room.journal ≡ []
