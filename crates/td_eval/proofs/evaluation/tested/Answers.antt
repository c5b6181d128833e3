use Rattle.td_eval.proofs.Truths.{comparing, occurring}
use Rattle.td_eval.proofs.evaluation.tested.Goals as goal
use Rattle.td_eval.specs.Operands.{view}

pub returns-in-Twiddle : goal.returns-in-Twiddle
returns-in-Twiddle c =
    rw c.in-Twiddle.is (occurring (view c.args.left) (view c.args.right) c.occurrence.result c.occurrence.ensures)

pub returns-in-Eq : goal.returns-in-Eq
returns-in-Eq c =
    comparing c.args.op (view c.args.left) (view c.args.right) c.comparison.result c.in-Eq.is c.comparison.ensures
