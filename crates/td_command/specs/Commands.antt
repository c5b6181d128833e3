-- The words of a command.
use Rattle.std.specs.Prelude.{ℕ, nat_eq, Bool, true, false, List, [], ◌∷◌, codes, if◌then◌else◌, Option, Some, None, option_map}
use Rattle.td_cdr.specs.Format.{value_named}
use Rattle.td_ior.specs.Keys.{◌>>=◌}
use Rattle.td_ior.specs.Number.{number_below}
use Rattle.td_command.specs.declared.verb.Verb.{Verb}
use Rattle.td_command.specs.declared.verb.Verb.TheVariants as verb

-- what the words ask for: a session with the traders of a file, what a file opens, the file of a ring of so many
-- traders, or a drill of it
pub data Command : Type 0 where
  Pipe : (name : List ℕ) → Command
  Check : (name : List ℕ) → Command
  Make : (count : ℕ) → Command
  Drill : (count : ℕ) → Command

-- only a session may call objects outside
abbrev pub is_pipe : Option Command → Bool
is_pipe (Some (Pipe name)) = true
is_pipe other = false

abbrev pub verb_name : Verb → List ℕ
verb_name verb.Pipe = codes "pipe"
verb_name verb.Check = codes "check"
verb_name verb.Make = codes "make"
verb_name verb.Drill = codes "drill"

abbrev pub verbs : List Verb
verbs = verb.Pipe ∷ verb.Check ∷ verb.Make ∷ verb.Drill ∷ []

abbrev pub verb_named : List ℕ → Option Verb
verb_named word = value_named verb_name verbs word

-- a number of traders is from 1 to 64, in decimal without leading zeros
abbrev pub from_one : ℕ → Option ℕ
from_one n = if nat_eq n 0 then None else Some n

abbrev pub count_of : List ℕ → Option ℕ
count_of word = number_below 65 word >>= from_one

abbrev pub command_by : Option Verb → (operand : List ℕ) → Option Command
command_by None operand = None
command_by (Some verb.Pipe) operand = Some (Pipe operand)
command_by (Some verb.Check) operand = Some (Check operand)
command_by (Some verb.Make) operand = option_map Make (count_of operand)
command_by (Some verb.Drill) operand = option_map Drill (count_of operand)

-- a command is two words, a verb and its operand
abbrev pub two_words : List (List ℕ) → Option (List ℕ × List ℕ)
two_words (word ∷ operand ∷ []) = Some (word, operand)
two_words other = None

abbrev pub command_in : Option (List ℕ × List ℕ) → Option Command
command_in None = None
command_in (Some w) = command_by (verb_named w.0) w.1

abbrev pub command_of : List (List ℕ) → Option Command
command_of words = command_in (two_words words)
