-- A stream is whole messages, and then a rest in which no whole message stands in front.
use Rattle.std.specs.Prelude.{◌≡◌, ℕ, List, [], ◌∷◌, ◌-◌, ◌<◌, length, take, drop, Some, None, Ok, Err}
use Rattle.td_cdr.specs.declared.order.Order.{Order}
use Rattle.td_giop.specs.Header.{GoodHeader}
use Rattle.td_giop.specs.declared.fault.FrameFault.{FrameFault}
use Rattle.td_giop.specs.Stream.{first_at}
use Rattle.td_giop.specs.declared.header.TheConstants.{HEADER_SIZE}

-- why no message follows: the stream is at the border of a message, inside one, or at a bad header
pub data StreamEnd : Type 0 where
  border : StreamEnd
  inside : StreamEnd
  bad : FrameFault → StreamEnd

-- the rest begins with no whole message, for this reason
abbrev pub HasEnding : ℕ → StreamEnd → List ℕ → Type 0
HasEnding limit border rest = rest ≡ []
HasEnding limit inside rest = (first_at limit rest ≡ Ok None) × (0 < length rest)
HasEnding limit (bad fault) rest = first_at limit rest ≡ Err fault

-- m is the whole message in front of s
pub record IsFirstMessage (limit : ℕ) (s m : List ℕ) : Type 0 where
  pub size : first_at limit s ≡ Ok (Some (length m))
  pub bytes : m ≡ take (length m) s

-- these messages stand one after the other in front of s, and then the rest, whatever it is
abbrev pub Fronts : ℕ → List ℕ → List (List ℕ) → List ℕ → Type 0
Fronts limit s [] rest = s ≡ rest
Fronts limit s (m ∷ ms) rest = IsFirstMessage limit s m × Fronts limit (drop (length m) s) ms rest

-- s is these messages and this rest
pub record Cut (limit : ℕ) (s : List ℕ) (messages : List (List ℕ)) (rest : List ℕ)
    (ending : StreamEnd) : Type 0 where
  pub fronts : Fronts limit s messages rest
  pub ends : HasEnding limit ending rest

-- there are messages and a rest that s is
pub record HasCut (limit : ℕ) (s : List ℕ) : Type 0 where
  pub messages : List (List ℕ)
  pub rest : List ℕ
  pub ending : StreamEnd
  pub cut : Cut limit s messages rest ending

-- two cuts are one
pub record SameCut (ms ns : List (List ℕ)) (r s : List ℕ) (e f : StreamEnd) : Type 0 where
  pub messages : ms ≡ ns
  pub rest : r ≡ s
  pub ending : e ≡ f

-- a whole message by itself: a good header that tells as many bytes as follow it
pub record IsMessage (limit : ℕ) (m : List ℕ) : Type 0 where
  pub minor : ℕ
  pub order : Order
  pub kind : ℕ
  pub good : GoodHeader limit m minor order kind (length m - HEADER_SIZE)
