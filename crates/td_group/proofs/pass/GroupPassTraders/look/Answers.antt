use Rattle.std.proofs.Common.{IfOk, inl, inr, map, refl, subst}
use Rattle.td_cdr.specs.Marks.{Later}
use Rattle.td_trader.specs.Admitted.{AreAdmitted}
use Rattle.td_trader.specs.Worlds.{LooksAtTrader}
use Rattle.td_group.specs.Seeing.{seen_by}
use Rattle.td_group.proofs.Calls.{nothing_done}
use Rattle.td_group.proofs.Passing.{on_err, on_ok}
use Rattle.td_group.proofs.pass.GroupPassTraders.look.Goals as goal

pub returns-in-Ok-clause-ok : goal.returns-in-Ok-clause-ok
returns-in-Ok-clause-ok g c =
    subst (λ x. IfOk c.look_at.result (λ a. LooksAtTrader AreAdmitted Later (map seen_by c.args.self.now.passes.items)
    c.args.trader x a (map seen_by c.look_at.new.self.passes.items))) c.in-Ok.ensures c.look_at.ensures.ok

pub returns-in-Err-clause-err : goal.returns-in-Err-clause-err
returns-in-Err-clause-err g c = nothing_done _ c.args.trader c.requires

pub returns-in-Ok-clause-once : goal.returns-in-Ok-clause-once
returns-in-Ok-clause-once g c = on_ok c.look_at.result c.look_at.ensures.once

pub returns-in-Ok-clause-most : goal.returns-in-Ok-clause-most
returns-in-Ok-clause-most g c = on_err c.look_at.result (inr c.look_at.ensures.once)

pub returns-in-Err-clause-most : goal.returns-in-Err-clause-most
returns-in-Err-clause-most g c = inl refl
