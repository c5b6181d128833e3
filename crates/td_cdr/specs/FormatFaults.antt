-- Of each way to build a format, where the bytes at a place are no value of it, and which fault that is, as a condition
-- on the bytes (CORBA, General Inter-ORB Protocol, "CDR Transfer Syntax").
use Rattle.std.specs.Prelude.{◌≡◌, ℕ, ◌<◌, Bool, false, List, length, Option, None}
use Rattle.td_cdr.specs.declared.order.Order.{Order}
use Rattle.td_cdr.specs.declared.fault.CdrFault.{CdrFault}
use Rattle.td_cdr.specs.Place.{At}
use Rattle.td_cdr.specs.Spelling.{SpellsNumber, FoundSpelling}
use Rattle.td_cdr.specs.Faults.{NumberFault, OuterFault, ThenFault}
use Rattle.td_cdr.specs.Format.{Format, array_format}

-- where the bytes are no value, and the fault that this is
abbrev pub Faults : Type 0 → Type 1
Faults F = At → F → Type 0

-- nothing is refused
abbrev pub no_fault : {F : Type 0} → Faults F
no_fault a f = ⊥

-- everything is refused
abbrev pub each_fault : {F : Type 0} → (At → F) → Faults F
each_fault bad a f = f ≡ bad a

-- no value, or one that may not stand there
pub data RestrictionFault {F X : Type 0} (spells : Order → ℕ → X → List ℕ → Type 0)
    (good : X → Bool) (bad : X → At → F) (inner : At → F → Type 0) (a : At) (f : F) : Type 0 where
  unread : inner a f → RestrictionFault spells good bad inner a f
  unfit : (x : X) (next : At) → FoundSpelling spells a x next → good x ≡ false → f ≡ bad x a
      → RestrictionFault spells good bad inner a f

-- no value, or one that stands for nothing
pub data PartialFault {F X Y : Type 0} (spells : Order → ℕ → X → List ℕ → Type 0)
    (to : X → Option Y) (bad : X → At → F) (inner : At → F → Type 0) (a : At) (f : F) : Type 0 where
  unread : inner a f → PartialFault spells to bad inner a f
  unknown : (x : X) (next : At) → FoundSpelling spells a x next → to x ≡ None → f ≡ bad x a
      → PartialFault spells to bad inner a f

-- of so many values one is none, at the place where those before it end
pub record ArrayFault {F X : Type 0} (g : Format F X) (inner : At → F → Type 0) (count : ℕ) (a : At)
    (f : F) : Type 0 where
  pub before : List X
  pub next : At
  pub fewer : length before < count
  pub found : FoundSpelling (array_format g (length before)).spells a before next
  pub holds : inner next f

-- no number, or one of so many values behind it is none
abbrev pub SequenceFault : {F X : Type 0} → (CdrFault → F) → Format F X → Faults F → Faults F
SequenceFault c g inner = ThenFault (SpellsNumber 4) (OuterFault c (NumberFault 4))
    (ArrayFault g inner)
