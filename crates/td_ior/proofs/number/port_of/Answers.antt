use Rattle.std.proofs.Common.{sym, ◌∙◌, arith}
use Rattle.td_ior.proofs.Numbers.{limit-none, limit-some, limit-large}
use Rattle.td_ior.proofs.number.port_of.Goals as goal

pub returns-in_err-number : goal.returns-in_err-number
returns-in_err-number c =
    c.from_residual.ensures
    ∙ sym (limit-none 65536 c.args.word.now (omega arith) (sym c.number_of.ensures ∙ c.in_err-number.was))

pub returns-then-number-lt65536 : goal.returns-then-number-lt65536
returns-then-number-lt65536 c =
    sym (limit-some 65536 c.args.word.now c.in_ok-number.number (sym c.number_of.ensures ∙ c.in_ok-number.was)
    c.if-number-lt65536.true)

pub returns-else-number-lt65536 : goal.returns-else-number-lt65536
returns-else-number-lt65536 c =
    sym (limit-large 65536 c.args.word.now c.in_ok-number.number (sym c.number_of.ensures ∙ c.in_ok-number.was)
    c.if-number-lt65536.false)
