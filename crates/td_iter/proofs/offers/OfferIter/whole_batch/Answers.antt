use Rattle.std.proofs.Common.{drop, length, ap, ◌∙◌}
use Rattle.td_iter.proofs.Whole.{gives-all, gives-none}
use Rattle.td_iter.proofs.offers.OfferIter.whole_batch.Goals as goal

pub returns-then-whole-clause-whole : goal.returns-then-whole-clause-whole
returns-then-whole-clause-whole c = λ iterator.
    gives-all c.args.limits.now c.args.self.now c.left.result.now c.give-more.new.self c.args.n c.args.w.now
    c.put_whole.new.w iterator (c.left.ensures ∙ c.self.view_is)
    (c.give-more.ensures.left ∙ ap (λ xs. drop (length xs) c.self.inside.left) c.left-all.ensures
    ∙ ap (λ xs. drop (length xs) xs) c.self.view_is) c.in_ok-whole.whole c.if-whole.true
    (c.in_ok-whole.ensures.whole iterator)

pub returns-else-whole-clause-whole : goal.returns-else-whole-clause-whole
returns-else-whole-clause-whole c = λ iterator.
    gives-none c.args.limits.now c.args.self.now c.left.result.now c.args.self.now c.args.n c.args.w.now
    c.put_whole.new.w iterator (c.left.ensures ∙ c.self.view_is) c.in_ok-whole.whole c.if-whole.false
    (c.in_ok-whole.ensures.whole iterator)
