use Rattle.std.proofs.Common.{arith}
use Rattle.std.specs.Int.{w16, w32, w64}
use Rattle.td_cdr.specs.Joined.{written_number-spelled, written_octets-spelled}
use Rattle.td_cdr.specs.Written.{written_signed-spelled, written_boolean-spelled, written_string-spelled}
use Rattle.td_cdr.specs.Written.{written_within-spelled, written_pair-spelled}
use Rattle.td_cdr.proofs.laws.is_written.Goals as goal

pub returns-clause-number : goal.returns-clause-number
returns-clause-number c = written_number-spelled

pub returns-clause-short : goal.returns-clause-short
returns-clause-short c = λ order place v fits. written_signed-spelled w16 2 order place v (omega arith) fits

pub returns-clause-long : goal.returns-clause-long
returns-clause-long c = λ order place v fits. written_signed-spelled w32 4 order place v (omega arith) fits

pub returns-clause-longlong : goal.returns-clause-longlong
returns-clause-longlong c = λ order place v fits. written_signed-spelled w64 8 order place v (omega arith) fits

pub returns-clause-boolean : goal.returns-clause-boolean
returns-clause-boolean c = written_boolean-spelled

pub returns-clause-octets : goal.returns-clause-octets
returns-clause-octets c = written_octets-spelled

pub returns-clause-string : goal.returns-clause-string
returns-clause-string c = written_string-spelled

pub returns-clause-pair : goal.returns-clause-pair
returns-clause-pair c = written_pair-spelled

pub returns-clause-encapsulated : goal.returns-clause-encapsulated
returns-clause-encapsulated c = written_within-spelled
