use Rattle.td_cell.specs.Passes.{knowledge}
use Rattle.td_desk.proofs.Ordering.{opener_in_order, split_in_order}
use Rattle.td_desk.proofs.shared.SharedDesk.split.Goals as goal

pub returns-clause-order : goal.returns-clause-order
returns-clause-order c =
    split_in_order (λ p. knowledge p) (knowledge c.args.pass.now) c.split.result c.split.ensures.split_off

pub returns-clause-stays : goal.returns-clause-stays
returns-clause-stays c =
    opener_in_order _ (knowledge c.args.pass.now) (knowledge c.split.new.pass) c.split.result c.split.ensures.opening
    c.split.ensures.err
