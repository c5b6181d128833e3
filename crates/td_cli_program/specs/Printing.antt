-- What goes to a sink.
use Rattle.std.specs.Prelude.{◌≡◌, ℕ, ◌≤◌, List, Option, Some, None}
use Rattle.std.specs.Io.KnownBytes.{Appends}
use Rattle.td_out.specs.Causes.{Rose}
use Rattle.td_out.specs.SinkTexts.{GivesText}
use Rattle.td_cli_program.specs.Outcomes.{outcome_lines, outcome_status}
use Rattle.td_cli_program.specs.declared.outcome.Outcome.{Outcome}

-- a sink: its bytes where it tells, and its count of faults
pub record Sunk : Type 0 where
  pub bytes : Option (List ℕ)
  pub faults : ℕ

abbrev pub sunk : Option (List ℕ) → ℕ → Sunk
sunk bytes faults = record { bytes = bytes; faults = faults }

-- all of a text is printed, and the status is this one, or the sink failed
pub data PrintsWithStatus (text : List ℕ) (status : ℕ) : (before after : Sunk) → ℕ → Type 0 where
  all_printed : (a b : Sunk) → Appends a.bytes b.bytes text → a.faults ≤ b.faults
      → PrintsWithStatus text status a b status
  sink_failed : (a b : Sunk) → GivesText text a.bytes b.bytes a.faults b.faults
      → Rose a.faults b.faults
      → PrintsWithStatus text status a b 7

-- the lines of an outcome are printed; or the reply isn't that of the operation, or memory runs out for the lines,
-- and nothing is printed
pub data PrintsOutcome (o : Outcome) : (before after : Sunk) → ℕ → Type 0 where
  shown : (text : List ℕ) (a b : Sunk) (n : ℕ) → outcome_lines o ≡ Some text
      → PrintsWithStatus text (outcome_status o) a b n → PrintsOutcome o a b n
  unshown : (a : Sunk) → outcome_lines o ≡ None → PrintsOutcome o a a 8
  no_lines : (a : Sunk) → PrintsOutcome o a a 9
