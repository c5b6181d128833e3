use Rattle.std.proofs.Common.{subst, sym}
use Rattle.td_shared_names.specs.Sharing.{IsTakenOut}
use Rattle.td_shared_names.proofs.Passing.{taken_out}
use Rattle.td_shared_names.proofs.shared.close_met.Goals as goal

pub returns : goal.returns
returns c =
    subst (IsTakenOut c.args.cell c.args.pass) (sym c.book.view_is)
    (taken_out c.args.cell c.args.pass c.in-Ok.book c.requires.met c.in-Ok.ensures.later.0 c.in-Ok.ensures.later.1
    c.in-Ok.ensures.places)
