use Rattle.std.proofs.Common.{sym, ◌∙◌, arith}
use Rattle.td_forms.specs.Values.{is_comma}
use Rattle.td_forms.proofs.Splitting.{split-None, split-pieces}
use Rattle.td_forms.proofs.sequence.first_part.Goals as goal

pub returns-in_default : goal.returns-in_default
returns-in_default c = split-None is_comma c.args.text.now (sym c.comma_place.ensures ∙ c.in_default.is)

pub returns : goal.returns
returns c = (
  split-pieces is_comma c.args.text.now c.split_at.result.0.now c.split_at.result.1.now c.split_at-2.result.1.now
      c.in-Some.place c.in-Some.ensures c.split_at.ensures.front c.split_at.ensures.back c.split_at-2.ensures.back,
  omega (arith, c.split_at.ensures.back_len, c.split_at-2.ensures.back_len),
)
