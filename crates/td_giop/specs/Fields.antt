-- The items of message heads: the primitives of CORBA, General Inter-ORB Protocol, "CDR Transfer Syntax", whose
-- faults are those of the common data representation.
use Rattle.std.specs.Prelude.{ℕ, Bool, List}
use Rattle.td_cdr.specs.declared.fault.CdrFault.{CdrFault}
use Rattle.td_cdr.specs.Format as format
use Rattle.td_cdr.specs.Format.{sequence_format}
use Rattle.td_cdr.specs.LawfulFormats.{number-lawful, boolean-lawful, octets-lawful, text-lawful}
use Rattle.td_cdr.specs.LawfulFormats.{sequence_format-lawful}
use Rattle.td_cdr.specs.Faults.{NumberFault, BooleanFault, OctetsFault, StringFault}
use Rattle.td_cdr.specs.FormatFaults.{SequenceFault}
use Rattle.td_cdr.specs.Refused.{number-refuses, boolean-refuses, octets-refuses, string-refuses}
use Rattle.td_cdr.specs.RefusedFormats.{sequence_format-refuses}
use Rattle.td_cdr.specs.Sound.{Sound}

abbrev pub ulong : Sound CdrFault ℕ
ulong = record {
  format = format.number 4;
  lawful = number-lawful 4;
  faults = NumberFault 4;
  refuses = number-refuses 4;
}

abbrev pub octet : Sound CdrFault ℕ
octet = record {
  format = format.number 1;
  lawful = number-lawful 1;
  faults = NumberFault 1;
  refuses = number-refuses 1;
}

abbrev pub boolean : Sound CdrFault Bool
boolean = record {
  format = format.boolean;
  lawful = boolean-lawful;
  faults = BooleanFault;
  refuses = boolean-refuses;
}

abbrev pub octets : Sound CdrFault (List ℕ)
octets = record {
  format = format.octets;
  lawful = octets-lawful;
  faults = OctetsFault;
  refuses = octets-refuses;
}

abbrev pub text : Sound CdrFault (List ℕ)
text = record {
  format = format.text;
  lawful = text-lawful;
  faults = StringFault;
  refuses = string-refuses;
}

abbrev pub same_fault : CdrFault → CdrFault
same_fault fault = fault

abbrev pub sequence : {X : Type 0} → Sound CdrFault X → Sound CdrFault (List X)
sequence g = record {
  format = sequence_format same_fault g.format;
  lawful = sequence_format-lawful same_fault g.format g.lawful;
  faults = SequenceFault same_fault g.format g.faults;
  refuses = sequence_format-refuses same_fault g.format g.faults g.lawful g.refuses;
}
