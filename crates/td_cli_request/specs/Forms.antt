-- What a word is taken for, and references among the words.
use Rattle.std.specs.Prelude.{◌≡◌, ℕ, List, if◌then◌else◌, Option, Some, None, is_some, Result, Ok, Err}
use Rattle.td_typecode.specs.declared.reference.Ior.{Ior}
use Rattle.td_ior.specs.Keys.{◌>>=◌}
use Rattle.td_ior.specs.Profiles.{iiop_of}
use Rattle.td_ior.specs.Texts.{reference_in}
use Rattle.td_cli_request.specs.declared.fault.AskFault.{AskFault}
use Rattle.td_cli_request.specs.declared.fault.AskFault.TheVariants.{Form, Memory}

-- what a reader of words answers: a fault of form exactly where there is nothing that they are taken for
abbrev pub ParsesTo : {A : Type 0} → Option A → Result A AskFault → Type 0
ParsesTo content (Ok x) = content ≡ Some x
ParsesTo content (Err Form) = content ≡ None
ParsesTo content (Err Memory) = Unit {0}

-- what a call answers that changes a value to what is made of the old one and a word
abbrev pub UpdatesTo : {A : Type 0} → Option A → (new : A) → Result (Unit {0}) AskFault → Type 0
UpdatesTo content new (Ok _) = content ≡ Some new
UpdatesTo content new (Err Form) = content ≡ None
UpdatesTo content new (Err Memory) = Unit {0}

-- it has an IIOP profile
abbrev pub with_profile : Ior → Option Ior
with_profile r = if is_some (iiop_of r) then Some r else None

-- a reference to an object that can be called
abbrev pub target_in : List ℕ → Option Ior
target_in word = reference_in word >>= with_profile
