-- The statuses of the program for a command on logs.
use Rattle.std.specs.Prelude.{ℕ}
use Rattle.td_audit_run.specs.declared.audited.Audited.{Audited}
use Rattle.td_audit_run.specs.declared.audited.Audited.TheVariants.{Usage, Missing, TooLong, Refused, Strange, Memory}
use Rattle.td_audit_run.specs.declared.audited.Audited.TheVariants.{Printed, Denied, PrintFault}

abbrev pub status_of : Audited → ℕ
status_of Usage = 2
status_of Missing = 10
status_of TooLong = 3
status_of (Refused number cause) = 3
status_of (Strange number) = 13
status_of Memory = 9
status_of Printed = 0
status_of Denied = 12
status_of PrintFault = 7
