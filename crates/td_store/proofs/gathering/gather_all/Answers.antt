use Rattle.td_store.proofs.Walking.{type-done, type-most}
use Rattle.td_store.proofs.gathering.gather_all.Goals as goal

pub returns-in_err-gather_from-clause-steps : goal.returns-in_err-gather_from-clause-steps
returns-in_err-gather_from-clause-steps g c =
    type-most _ _ _ _ _ c.chain_at.result _ _ _ _ _ c.loop-incarnation.invariant c.loop-incarnation-test.true
    c.chain_at.ensures c.gather_from.ensures.steps

pub loop-incarnation-preserved : goal.loop-incarnation-preserved
loop-incarnation-preserved g c =
    type-done _ _ _ _ _ c.chain_at.result _ _ _ _ _ c.loop-incarnation.invariant c.loop-incarnation-test.true
    c.chain_at.ensures c.gather_from.ensures.steps _ c.in_ok-gather_from.ensures.ok
