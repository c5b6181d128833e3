use Rattle.std.proofs.Common.{Result, IfOk, subst, sym}
use Rattle.td_walk.specs.Peering.{HasWritableOffers}
use Rattle.td_walk.specs.declared.answer.SubAnswer.{SubAnswer}
use Rattle.td_walk.specs.declared.fault.PeerFault.{PeerFault}
use Rattle.td_client.proofs.noting.note_offers.Goals as goal

pub note-requires : goal.note-requires
note-requires c =
    subst HasWritableOffers (sym c.of.ensures)
    (subst (λ (r : Result SubAnswer PeerFault). IfOk r (λ x. HasWritableOffers x)) c.in-Ok.is c.requires)
