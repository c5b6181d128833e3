-- How a command ends: the status of the program, and what goes to the faults sink.
use Rattle.std.specs.Prelude.{ℕ, List, [], codes}
use Rattle.td_stream.specs.declared.end.End.{End}
use Rattle.td_stream.specs.declared.end.End.TheVariants as end
use Rattle.td_name_command.specs.declared.ended.Ended.{Ended}
use Rattle.td_name_command.specs.declared.ended.Ended.TheVariants.{Usage, Memory, Served}

-- the status for the end of a session
abbrev pub end_status : End → ℕ
end_status end.Closed = 0
end_status (end.Broken place cause) = 4
end_status (end.Truncated place) = 5
end_status end.ReadFault = 6
end_status end.WriteFault = 7
end_status end.Long = 8
end_status end.Memory = 9

abbrev pub status_of : Ended → ℕ
status_of Usage = 2
status_of Memory = 9
status_of (Served e) = end_status e

-- the line for the end of a session; where it was closed there is none
abbrev pub end_line : End → List ℕ
end_line end.Closed = []
end_line (end.Broken place cause) = codes "status 4\n"
end_line (end.Truncated place) = codes "status 5\n"
end_line end.ReadFault = codes "status 6\n"
end_line end.WriteFault = codes "status 7\n"
end_line end.Long = codes "status 8\n"
end_line end.Memory = codes "status 9\n"

abbrev pub line_of : Ended → List ℕ
line_of Usage = codes "usage\n"
line_of Memory = codes "status 9\n"
line_of (Served e) = end_line e
