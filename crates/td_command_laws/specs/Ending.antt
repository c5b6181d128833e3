-- How a drill ends.
use Rattle.std.specs.Prelude.{◌≡◌, ℕ, List, Option, Some, ◌⊎◌}
use Rattle.td_stream.specs.Outside.{Outside}
use Rattle.td_command.specs.Commands.{Drill, command_of}
use Rattle.td_command.specs.Runs.{RunsServer, WordsBySeeding, Shelves}

-- It has printed, or it couldn't print or ran out of memory.
abbrev pub DrillsAreNotRefused : Type 0
DrillsAreNotRefused =
    (words : List (List ℕ)) (texts : Shelves) (seeded : WordsBySeeding) (before after : Outside)
    (written0 written1 : Option (List ℕ)) (faults0 faults1 status count : ℕ)
    → RunsServer words texts seeded before after written0 written1 faults0 faults1 status
    → command_of words ≡ Some (Drill count)
    → (status ≡ 0) ⊎ ((status ≡ 7) ⊎ (status ≡ 9))
