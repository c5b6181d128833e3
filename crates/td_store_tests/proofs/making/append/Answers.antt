use Rattle.std.proofs.lemmas.Result.{on_ok_weaker}
use Rattle.td_store_tests.proofs.Counts.{one-more, one-among}
use Rattle.td_store_tests.proofs.making.append.Goals as goal

pub returns-clause-below : goal.returns-clause-below
returns-clause-below c =
    on_ok_weaker c.insert.result
    (λ e. rw e (one-more c.args.number c.args.offers.now c.in_ok-offer.offer c.requires.above c.in_ok-offer.ensures.0))
    c.insert.ensures.added

pub returns-clause-among : goal.returns-clause-among
returns-clause-among c =
    on_ok_weaker c.insert.result
    (λ e types. rw e (one-among types c.args.offers.now c.in_ok-offer.offer c.args.incarnation
    c.in_ok-offer.ensures.1))
    c.insert.ensures.added
