use Rattle.std.proofs.Common.{◌+◌, sym, ◌∙◌, arith}
use Rattle.td_ior.proofs.Numbers.{limit-none, limit-some, limit-large}
use Rattle.td_ior.proofs.number.number_up_to.Goals as goal

pub returns-in_err-number-clause-found : goal.returns-in_err-number-clause-found
returns-in_err-number-clause-found c =
    c.from_residual.ensures
    ∙ sym (limit-none (c.args.most + 1) c.args.word.now (omega (arith, c.ranges.most.fits))
    (sym c.number_of.ensures ∙ c.in_err-number.was))

pub returns-then-number-most-clause-found : goal.returns-then-number-most-clause-found
returns-then-number-most-clause-found c =
    sym (limit-some (c.args.most + 1) c.args.word.now c.in_ok-number.number
    (sym c.number_of.ensures ∙ c.in_ok-number.was) (omega (arith, c.if-number-most.true)))

pub returns-else-number-most-clause-found : goal.returns-else-number-most-clause-found
returns-else-number-most-clause-found c =
    sym (limit-large (c.args.most + 1) c.args.word.now c.in_ok-number.number
    (sym c.number_of.ensures ∙ c.in_ok-number.was) (omega (arith, c.if-number-most.false)))
