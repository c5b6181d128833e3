-- What a session stands on when it serves a Request.
use Rattle.std.specs.Prelude.{ℕ, List}
use Rattle.td_iter.specs.Desks.{Live}
use Rattle.td_servant.specs.Linking.{PeersSeen}
use Rattle.td_trader.specs.Worlds.{View}

-- the traders as they are seen, the iterators that the connection keeps, the peers outside, and the random words to
-- come
pub record Scene : Type 0 where
  pub world : List View
  pub desk : Live
  pub peers : PeersSeen
  pub words : ℕ → ℕ

abbrev pub scene : List View → Live → PeersSeen → (ℕ → ℕ) → Scene
scene world desk peers words = record { world = world; desk = desk; peers = peers; words = words }
