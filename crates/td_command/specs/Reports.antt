-- What goes to the faults sink.
use Rattle.std.specs.Prelude.{ℕ, List, [], ◌++◌, codes, decimal}
use Rattle.td_lines.specs.declared.cause.LineCause.{LineCause}
use Rattle.td_lines.specs.declared.cause.LineCause.TheVariants as cause
use Rattle.td_stream.specs.declared.end.End.TheVariants as end
use Rattle.td_command.specs.declared.ended.Ended.{Ended}
use Rattle.td_command.specs.declared.ended.Ended.TheVariants.{Usage, Missing, TooLong, Refused, Memory, Printed}
use Rattle.td_command.specs.declared.ended.Ended.TheVariants.{PrintFault, Served}

abbrev pub with_number : List ℕ → ℕ → List ℕ → List ℕ
with_number before number after = before ++ decimal number ++ after

-- `status N`, N being 4 or more
abbrev pub status_line : ℕ → List ℕ
status_line status = with_number (codes "status ") status (codes "\n")

-- what follows the number of a refused line
abbrev pub cause_end : LineCause → List ℕ
cause_end cause.Words = codes ": words\n"
cause_end cause.Name = codes ": name\n"
cause_end cause.Number = codes ": number\n"
cause_end cause.Place = codes ": place\n"
cause_end cause.Twice = codes ": twice\n"
cause_end cause.Value = codes ": value\n"
cause_end cause.Reference = codes ": reference\n"
cause_end cause.Rejected = codes ": rejected\n"

-- the line for a command that ended so; for a session that was closed and a text that was printed there is none
abbrev pub line_of : Ended → List ℕ
line_of Usage = codes "usage\n"
line_of Missing = status_line 10
line_of TooLong = codes "too long\n"
line_of (Refused number why) = with_number (codes "line ") number (cause_end why)
line_of Memory = status_line 9
line_of Printed = []
line_of PrintFault = status_line 7
line_of (Served end.Closed) = []
line_of (Served (end.Broken place cause)) = status_line 4
line_of (Served (end.Truncated place)) = status_line 5
line_of (Served end.ReadFault) = status_line 6
line_of (Served end.WriteFault) = status_line 7
line_of (Served end.Long) = status_line 8
line_of (Served end.Memory) = status_line 9
