-- Fields of a message that are read by themselves: what follows them is ignored.
use Rattle.std.specs.Prelude.{◌≡◌, ◌≤◌, ◌-◌, ◌++◌, ℕ, List, Result, Ok, Err}
use Rattle.td_cdr.specs.declared.fault.CdrFault.{CdrFault}
use Rattle.td_cdr.specs.Place.{At}
use Rattle.td_cdr.specs.Spelling.{FoundSpelling}
use Rattle.td_cdr.specs.Sound.{Sound}

-- the fields, and any bytes after them
pub record SpellsAlone {Y : Type 0} (g : Sound CdrFault Y) (a : At) (v : Y) : Type 0 where
  pub next : At
  pub found : FoundSpelling g.format.spells a v next

-- what is read is spelled so, what is spelled so is read, and what is faulty is refused with its first fault
pub record IsReadAlone {Y : Type 0} (g : Sound CdrFault Y)
    (reading : At → Result Y CdrFault) : Type 0 where
  pub found : (a : At) (v : Y) → a.origin ≤ a.place → reading a ≡ Ok v → SpellsAlone g a v
  pub only : (a : At) (v : Y) (b rest : List ℕ) → a.origin ≤ a.place
      → g.format.spells a.order (a.place - a.origin) v b → a.rest ≡ b ++ rest → reading a ≡ Ok v
  pub content : (a : At) (f : CdrFault) → a.origin ≤ a.place → reading a ≡ Err f → g.faults a f
  pub refused : (a : At) (f : CdrFault) → a.origin ≤ a.place → g.faults a f → reading a ≡ Err f
