use Rattle.std.proofs.Common.{sym, subst}
use Rattle.td_iter.specs.Heads.{AreLimits}
use Rattle.td_lines_tests.proofs.Pushed.{no-limits}
use Rattle.td_lines_tests.proofs.making.no_limits.Goals as goal

pub returns : goal.returns
returns c = subst AreLimits (sym c.new.ensures) no-limits
