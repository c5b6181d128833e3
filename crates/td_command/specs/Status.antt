-- The statuses of the program.
use Rattle.std.specs.Prelude.{ℕ}
use Rattle.td_stream.specs.declared.end.End.{End}
use Rattle.td_stream.specs.declared.end.End.TheVariants as end
use Rattle.td_command.specs.declared.ended.Ended.{Ended}
use Rattle.td_command.specs.declared.ended.Ended.TheVariants.{Usage, Missing, TooLong, Refused, Memory, Printed}
use Rattle.td_command.specs.declared.ended.Ended.TheVariants.{PrintFault, Served}

-- the status for the end of a session
abbrev pub end_status : End → ℕ
end_status end.Closed = 0
end_status (end.Broken place cause) = 4
end_status (end.Truncated place) = 5
end_status end.ReadFault = 6
end_status end.WriteFault = 7
end_status end.Long = 8
end_status end.Memory = 9

abbrev pub status_of : Ended → ℕ
status_of Usage = 2
status_of Missing = 10
status_of TooLong = 3
status_of (Refused number cause) = 3
status_of Memory = 9
status_of Printed = 0
status_of PrintFault = 7
status_of (Served end) = end_status end
