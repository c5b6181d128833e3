use Rattle.td_servant.proofs.Nexts.{next_of_offers}
use Rattle.td_servant.proofs.iterating.put_next.Goals as goal

pub returns-in_ok-_more-in-Offers-clause-puts : goal.returns-in_ok-_more-in-Offers-clause-puts
returns-in_ok-_more-in-Offers-clause-puts c =
    let content = c.in_ok-_more-in-Offers.ensures in
    rw c.in-Offers.is
    (next_of_offers c.args.n c.in-Offers.offers c.next_n.new.self c.args.w.now c.next_n.new.w
    c.in_ok-_more-in-Offers._more content.batch content.some)
