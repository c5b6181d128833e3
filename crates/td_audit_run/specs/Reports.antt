-- What goes to the faults sink.
use Rattle.std.specs.Prelude.{ℕ, List, [], codes}
use Rattle.td_command.specs.Reports.{cause_end, with_number, status_line}
use Rattle.td_audit_run.specs.declared.audited.Audited.{Audited}
use Rattle.td_audit_run.specs.declared.audited.Audited.TheVariants.{Usage, Missing, TooLong, Refused, Strange, Memory}
use Rattle.td_audit_run.specs.declared.audited.Audited.TheVariants.{Printed, Denied, PrintFault}

-- the line for a command that ended so; for a text that was printed with status 0 there is none
abbrev pub line_of : Audited → List ℕ
line_of Usage = codes "usage\n"
line_of Missing = status_line 10
line_of TooLong = codes "too long\n"
line_of (Refused number cause) = with_number (codes "line ") number (cause_end cause)
line_of (Strange number) = with_number (codes "line ") number (codes ": log\n")
line_of Memory = status_line 9
line_of Printed = []
line_of Denied = status_line 12
line_of PrintFault = status_line 7
