use Rattle.std.proofs.Common.{sym, ◌∙◌}
use Rattle.std.specs.Str.Parse.{ParsesUnsigned}
use Rattle.td_ior.proofs.Numbers.{below-none, numeral-text, parsed}
use Rattle.td_ior.proofs.number.number_of.Goals as goal

pub returns-then-not-is_numeral : goal.returns-then-not-is_numeral
returns-then-not-is_numeral c = sym (below-none _ c.args.word.now (sym c.is_numeral.ensures ∙ c.if-not-is_numeral.true))

pub returns-in_default : goal.returns-in_default
returns-in_default c =
    absurd (c.in_default.ensures.cases.0
    (numeral-text c.args.word.now (sym c.is_numeral.ensures ∙ c.if-not-is_numeral.false)))

pub returns : goal.returns
returns c =
    let content : ParsesUnsigned 64 10 c.args.word.now c.parse.result =
    rw c.in-Ok.ensures.cases.0 at c.parse.ensures.value.0 in
    c.ok.ensures.value ∙ parsed c.args.word.now c.parse.result (sym c.is_numeral.ensures ∙ c.if-not-is_numeral.false)
    content
