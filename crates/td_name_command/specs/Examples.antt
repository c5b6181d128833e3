-- Worked examples: which words are a command, and where its contexts are reached.
use Rattle.std.specs.Prelude.{◌≡◌, [], ◌∷◌, codes, None, Some}
use Rattle.td_name_command.specs.Words.{home, home_of}

pub record WorkedWords : Type 0 where
  pub command : home_of (codes "names" ∷ codes "localhost" ∷ codes "2811" ∷ [])
      ≡ Some (home (codes "localhost") 2811)
  -- a host is taken as it stands, an empty one too
  pub no_host : home_of (codes "names" ∷ [] ∷ codes "0" ∷ []) ≡ Some (home [] 0)
  pub last_port : home_of (codes "names" ∷ codes "h" ∷ codes "65535" ∷ [])
      ≡ Some (home (codes "h") 65535)
  pub high_port : home_of (codes "names" ∷ codes "h" ∷ codes "65536" ∷ []) ≡ None
  pub zeros : home_of (codes "names" ∷ codes "h" ∷ codes "02811" ∷ []) ≡ None
  pub nul : home_of (codes "names" ∷ (104 ∷ 0 ∷ []) ∷ codes "2811" ∷ []) ≡ None
  pub no_port : home_of (codes "names" ∷ codes "h" ∷ []) ≡ None
  pub more : home_of (codes "names" ∷ codes "h" ∷ codes "2811" ∷ codes "x" ∷ []) ≡ None
  pub other : home_of (codes "name" ∷ codes "h" ∷ codes "2811" ∷ []) ≡ None
