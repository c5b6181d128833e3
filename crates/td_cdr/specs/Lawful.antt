-- The laws of a format.
use Rattle.std.specs.Prelude.{◌≡◌, ℕ, ◌-◌, ◌^◌, ◌<◌, ◌≤◌, List, ◌++◌, length, slice_index, Ok}
use Rattle.td_cdr.specs.declared.order.Order.{Order}
use Rattle.td_cdr.specs.Place.{At}
use Rattle.td_cdr.specs.Reading.{after}
use Rattle.td_cdr.specs.Spelling.{FoundSpelling}
use Rattle.td_cdr.specs.Format.{Format}

-- each is the number of an octet
pub record AreOctets (b : List ℕ) : Type 0 where
  pub each : (i : ℕ) → slice_index b i < 256

-- What is read is spelled so; what is spelled so is read whatever follows; what has a spelling in octets is
-- admitted; what is written for an admitted value spells it.
pub record Lawful {F Y : Type 0} (f : Format F Y) : Type 0 where
  pub found : (a : At) (v : Y) (next : At) → a.origin ≤ a.place → f.reads a ≡ Ok (v, next)
      → FoundSpelling f.spells a v next
  pub only : (a : At) (v : Y) (b rest : List ℕ) → a.origin ≤ a.place
      → f.spells a.order (a.place - a.origin) v b
      → a.rest ≡ b ++ rest → f.reads a ≡ Ok (v, after (length b) a)
  pub admitted : (order : Order) (place : ℕ) (v : Y) (b : List ℕ) → AreOctets b
      → f.spells order place v b → f.admits v
  pub written : (order : Order) (place : ℕ) (v : Y) → f.admits v → length (f.writes v order place)
      < 2 ^ 32 → f.spells order place v (f.writes v order place)
