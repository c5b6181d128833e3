use Rattle.std.proofs.Common.{sym, ◌∙◌, ap, length, arith}
use Rattle.td_lines.proofs.Blanks.{skip-more}
use Rattle.td_lines.proofs.words.skip_blanks.Goals as goal

pub loop-first-preserved : goal.loop-first-preserved
loop-first-preserved c = record {
  same =
      skip-more c.args.line.now c.loop-first.rest.now c.in-Some.others.now c.in-Some.first.now
      c.loop-first.invariant.same c.in-Some.ensures.cases.0 (sym c.is_blank.ensures ∙ c.if-not-is_blank.false);
  shorter = omega (arith, ap length c.in-Some.ensures.cases.0, c.loop-first.invariant.shorter);
}
