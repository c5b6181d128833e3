-- What the steps of an opening answer.
use Rattle.std.specs.Prelude.{◌≡◌, Result, Ok, Err}
use Rattle.td_lines.specs.Steps.{refusal}
use Rattle.td_lines.specs.declared.entry.Refused.{Refused}
use Rattle.td_register.specs.Stores.{Store}
use Rattle.td_file.specs.declared.fault.FileFault.{FileFault}
use Rattle.td_file.specs.declared.fault.FileFault.TheVariants.{Line, Memory}

-- this is refused; running out of memory says nothing
abbrev pub IsRefusedFor : {A : Type 0} → Result A Refused → FileFault → Type 0
IsRefusedFor content (Line n cause) = content ≡ Err (refusal n cause)
IsRefusedFor content Memory = Unit {0}

-- what was told, or the refusal
abbrev pub GivesOrRefuses : {A : Type 0} → Result A Refused → Result A FileFault → Type 0
GivesOrRefuses content (Ok x) = content ≡ Ok x
GivesOrRefuses content (Err fault) = IsRefusedFor content fault

-- the store is this then
abbrev pub StoresOrRefuses : Result Store Refused → Store → Result (Unit {0}) FileFault → Type 0
StoresOrRefuses content new (Ok _) = content ≡ Ok new
StoresOrRefuses content new (Err fault) = IsRefusedFor content fault
