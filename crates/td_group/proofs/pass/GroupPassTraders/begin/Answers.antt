use Rattle.std.proofs.Common.{IfOk, inl, inr, map, refl, subst}
use Rattle.td_cdr.specs.Marks.{Later}
use Rattle.td_trader.specs.Admitted.{AreAdmitted}
use Rattle.td_trader.specs.Worlds.{BeginsQuery}
use Rattle.td_group.specs.Seeing.{seen_by}
use Rattle.td_group.proofs.Calls.{nothing_done}
use Rattle.td_group.proofs.Passing.{on_err, on_ok}
use Rattle.td_group.proofs.pass.GroupPassTraders.begin.Goals as goal

pub returns-in-Ok-clause-ok : goal.returns-in-Ok-clause-ok
returns-in-Ok-clause-ok g c =
    subst (λ x. IfOk c.begin_at.result (λ b. BeginsQuery AreAdmitted Later (map seen_by c.args.self.now.passes.items)
    c.args.trader x b (map seen_by c.begin_at.new.self.passes.items))) c.in-Ok.ensures c.begin_at.ensures.ok

pub returns-in-Err-clause-err : goal.returns-in-Err-clause-err
returns-in-Err-clause-err g c = nothing_done _ c.args.trader c.requires

pub returns-in-Ok-clause-once : goal.returns-in-Ok-clause-once
returns-in-Ok-clause-once g c = on_ok c.begin_at.result c.begin_at.ensures.once

pub returns-in-Ok-clause-most : goal.returns-in-Ok-clause-most
returns-in-Ok-clause-most g c = on_err c.begin_at.result (inr c.begin_at.ensures.once)

pub returns-in-Err-clause-most : goal.returns-in-Err-clause-most
returns-in-Err-clause-most g c = inl refl

pub returns-in-Ok-clause-marks : goal.returns-in-Ok-clause-marks
returns-in-Ok-clause-marks g c = on_ok c.begin_at.result c.begin_at.ensures.marks
