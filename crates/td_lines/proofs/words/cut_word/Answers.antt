use Rattle.std.proofs.Common.{ℕ, ◌<◌, List, length, Some, sym, ap, ◌∙◌, arith}
use Rattle.td_lines.specs.Words.{cut_front}
use Rattle.td_lines.proofs.Blanks.{cut-empty, cut-found, front-shorter, some-left}
use Rattle.td_lines.proofs.words.cut_word.Goals as goal

pub returns-then-is_empty-clause-cut : goal.returns-then-is_empty-clause-cut
returns-then-is_empty-clause-cut c =
    sym (cut-empty c.args.line.now c.skip_blanks-rest.result.now c.skip_blanks-rest.ensures.same
    (sym c.is_empty.ensures ∙ c.if-is_empty.true))

pub returns-clause-cut : goal.returns-clause-cut
returns-clause-cut c =
    let some = some-left c.skip_blanks-rest.result.now (sym c.is_empty.ensures ∙ c.if-is_empty.false) in
    ap (λ (cut : List ℕ × List ℕ). Some cut) c.cut_front.ensures
    ∙ sym (cut-found c.args.line.now c.skip_blanks-rest.result.now c.skip_blanks-rest.ensures.same
    c.skip_blanks-rest.ensures.begins some)

pub returns-clause-shorter : goal.returns-clause-shorter
returns-clause-shorter c =
    let some = some-left c.skip_blanks-rest.result.now (sym c.is_empty.ensures ∙ c.if-is_empty.false) in
    let short : length (cut_front c.skip_blanks-rest.result.now).1 < length c.skip_blanks-rest.result.now =
    front-shorter c.skip_blanks-rest.result.now some (c.skip_blanks-rest.ensures.begins some) in
    let same = ap (λ (cut : List ℕ × List ℕ). length cut.1) c.cut_front.ensures in
    omega (arith, short, same, c.skip_blanks-rest.ensures.shorter)
