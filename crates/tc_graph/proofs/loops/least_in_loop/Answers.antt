use Rattle.std.proofs.Common.{◌≡◌, true, below_more, arith}
use Rattle.tc_graph.proofs.loops.least_in_loop.Goals as goal

pub loop-place-preserved : goal.loop-place-preserved
loop-place-preserved c =
    below_more _ _ c.loop-place.invariant
    (λ back. let a : c.is_in_loop.result ≡ true = c.is_in_loop.ensures.1 back in let n : ⊥ = cc (a, c.if-is_in_loop.false) in n)

pub returns-clause-none : goal.returns-clause-none
returns-clause-none c = λ i l. c.loop-place.invariant i (omega (arith, l))
