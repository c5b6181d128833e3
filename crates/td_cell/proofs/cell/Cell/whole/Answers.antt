use Rattle.std.proofs.Common.{◌==◌, ◌∙◌, ap₂, sym}
use Rattle.td_cell.specs.Passes.{knowledge}
use Rattle.td_cell.proofs.Counts.{count-all}
use Rattle.td_cell.proofs.cell.Cell.whole.Goals as goal

pub returns : goal.returns
returns g c =
    let p = c.args.pass.now in
    ap₂ (λ m n. m == n) p.meetings_are_met p.splits_counted ∙ sym (count-all (knowledge p).met)
