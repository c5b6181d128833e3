-- What is seen of what a session acts on.
use Rattle.std.specs.Prelude.{ℕ, List}
use Rattle.td_iter.specs.Desks.{Live}
use Rattle.td_lookup.specs.Scenes.{Scene, scene}
use Rattle.td_servant.specs.Linking.{PeersSeen}
use Rattle.td_trader.specs.Worlds.{View}

-- the traders as they are seen, the peers outside, and the random words to come
pub record BackendSeen : Type 0 where
  pub world : List View
  pub peers : PeersSeen
  pub words : ℕ → ℕ

abbrev pub backend_seen : List View → PeersSeen → (ℕ → ℕ) → BackendSeen
backend_seen world peers words = record { world = world; peers = peers; words = words }

-- the scene of a connection that keeps these iterators
abbrev pub scene_of : BackendSeen → Live → Scene
scene_of b desk = scene b.world desk b.peers b.words
