use Rattle.td_drill.proofs.Adding.{drills-after}
use Rattle.td_drill.proofs.drilling.drill.Goals as goal

pub returns : goal.returns
returns g c =
    drills-after (g.W.Words.word_after c.args.words.now) _ _ _ _ _ _ c.as_slice.ensures c.seed.ensures.words
    c.drill_group.ensures
