-- The words of a command on logs.
use Rattle.std.specs.Prelude.{ℕ, List, [], ◌∷◌, codes, if◌then◌else◌, Option, Some, None, option_map}
use Rattle.std.specs.Str.{bytes_eq}
use Rattle.td_command.specs.Commands.{count_of}

-- what the words ask for: whether a log is what the network of a file's traders does, or the log of the ring of so many
-- traders
pub data Command : Type 0 where
  Audit : (file log : List ℕ) → Command
  Log : (count : ℕ) → Command

abbrev pub log_command : (word count : List ℕ) → Option Command
log_command word count = if bytes_eq word (codes "log") then option_map Log (count_of count)
    else None

abbrev pub audit_command : (word file log : List ℕ) → Option Command
audit_command word file log = if bytes_eq word (codes "audit") then Some (Audit file log) else None

abbrev pub command_of : List (List ℕ) → Option Command
command_of [] = None
command_of (word ∷ []) = None
command_of (word ∷ count ∷ []) = log_command word count
command_of (word ∷ file ∷ log ∷ []) = audit_command word file log
command_of (word ∷ file ∷ log ∷ more ∷ words) = None
