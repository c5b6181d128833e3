use Rattle.std.proofs.Common.{refl}
use Rattle.std.specs.Fmt.{digits}
use Rattle.td_check.proofs.laws.worked_lines.Goals as goal

pub returns-clause-counts : goal.returns-clause-counts
unfolding digits
returns-clause-counts c = refl
