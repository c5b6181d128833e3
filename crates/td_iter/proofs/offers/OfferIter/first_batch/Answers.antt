use Rattle.std.proofs.Common.{◌≡◌, drop, subst, ◌∙◌}
use Rattle.td_value.specs.Structures.{offer}
use Rattle.td_iter.specs.Heads.{offers_found, AreSmallOffers, IsShort}
use Rattle.td_iter.proofs.Giving.{within, gives-batch, moves-on, all-left, found-one}
use Rattle.td_iter.proofs.offers.OfferIter.first_batch.Goals as goal

pub give-requires : goal.give-requires
give-requires c =
    within (offers_found c.args.iterator.now c.args.limits.now) c.self.inside.left c.left.result.now c.args.self.now
    c.args.n c.in_ok-count.count c.args.w.now c.put_found.new.w c.left.ensures c.in_ok-count.ensures.puts

pub invariant_of-self : goal.invariant_of-self
invariant_of-self c =
    all-left (IsShort offer.format.writes) c.in_ok-count.count c.self.inside.left c.give.new.self c.give.ensures.left
    c.self.invariant

pub returns-clause-batch : goal.returns-clause-batch
returns-clause-batch c =
    gives-batch (offers_found c.args.iterator.now c.args.limits.now) c.args.self.now c.left.result.now
    c.give.new.self c.args.n c.in_ok-count.count c.args.w.now c.put_found.new.w (c.left.ensures ∙ c.self.view_is)
    c.in_ok-count.ensures.puts (subst (λ xs. c.give.new.self ≡ drop c.in_ok-count.count xs) c.self.view_is
    c.give.ensures.left) c.give.result c.give.ensures.more

pub returns-clause-some : goal.returns-clause-some
returns-clause-some c =
    moves-on (offers_found c.args.iterator.now c.args.limits.now) c.args.self.now c.give.new.self c.args.n
    c.args.w.now c.put_found.new.w c.give.result (returns-clause-batch c) (found-one c.args.iterator.now
    c.requires.reference c.args.limits.now c.args.self.now c.args.w.now c.requires.start
    (subst AreSmallOffers c.self.view_is c.self.invariant) c.requires.limits)
