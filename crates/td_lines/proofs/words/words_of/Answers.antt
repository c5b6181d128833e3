use Rattle.std.proofs.Common.{◌≡◌, [], ◌∷◌, ◌++◌, ap, ◌∙◌}
use Rattle.td_lines.specs.Words.{words}
use Rattle.td_lines.proofs.Blanks.{found-more, found-all}
use Rattle.td_lines.proofs.words.words_of.Goals as goal

pub words-preserved : goal.words-preserved
words-preserved c =
    let grown : c.push.new.self ≡ c.words.found ++ c.in-Some.word.now ∷ [] =
    cc (c.in_ok-push-in-Some.ensures.ok, c.in_ok-from_slice-in-Some.ensures) in
    ap (λ x. x ++ words c.in-Some.others.now) grown
    ∙ found-more c.words.found c.words.rest.now c.in-Some.word.now c.in-Some.others.now (words c.args.line.now)
    c.words.invariant c.in-Some.ensures.cut

pub returns-in-None : goal.returns-in-None
returns-in-None c =
    found-all c.words.found c.words.rest.now (words c.args.line.now) c.words.invariant c.in-None.ensures.cut
