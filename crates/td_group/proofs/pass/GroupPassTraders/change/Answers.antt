use Rattle.std.proofs.Common.{IfOk, map, subst}
use Rattle.td_cdr.specs.Marks.{Later}
use Rattle.td_trader.specs.Admitted.{AreAdmitted}
use Rattle.td_trader.specs.Worlds.{ChangesTrader}
use Rattle.td_group.specs.Seeing.{seen_by}
use Rattle.td_group.proofs.Calls.{changes_err, changes_ok}
use Rattle.td_group.proofs.pass.GroupPassTraders.change.Goals as goal

pub unreachable-requires : goal.unreachable-requires
unreachable-requires g c = c.in-Looked.ensures.turned.acts

pub unreachable-requires-in-Begun : goal.unreachable-requires-in-Begun
unreachable-requires-in-Begun g c = c.in-Begun.ensures.turned.acts

pub returns-clause-ok : goal.returns-clause-ok
returns-clause-ok g c =
    subst (λ x. IfOk c.in-Changed.answer (λ o. ChangesTrader AreAdmitted Later (map seen_by c.args.self.now.passes.items)
    c.args.trader x o (map seen_by c.turn.new.self.passes.items))) c.of.ensures
    (changes_ok _ _ _ c.of.result c.in-Changed.answer c.in-Changed.ensures.turned)

pub returns-clause-err : goal.returns-clause-err
returns-clause-err g c = changes_err _ _ _ c.of.result c.in-Changed.answer c.in-Changed.ensures.turned

pub returns-clause-once : goal.returns-clause-once
returns-clause-once g c = c.in-Changed.ensures.once
