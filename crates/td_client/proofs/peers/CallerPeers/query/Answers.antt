use Rattle.td_client.proofs.Given.{small_meant, writable_meant}
use Rattle.td_client.proofs.peers.CallerPeers.query.Goals as goal

pub note_offers-requires : goal.note_offers-requires
note_offers-requires g c = writable_meant _ _ c.offers_meant-answer.ensures c.ask_over.ensures.fit

pub returns-clause-exact : goal.returns-clause-exact
returns-clause-exact g c = (c.ask_over.result, c.ask_over.ensures.asks, c.offers_meant-answer.ensures)

pub returns-clause-small : goal.returns-clause-small
returns-clause-small g c = small_meant _ _ c.offers_meant-answer.ensures c.ask_over.ensures.fit
