use Rattle.std.proofs.Common.{Result, IfOk, subst, sym}
use Rattle.td_typecode.specs.References.{reference}
use Rattle.td_typecode.specs.declared.reference.Ior.{Ior}
use Rattle.td_walk.specs.declared.fault.PeerFault.{PeerFault}
use Rattle.td_client.proofs.noting.note_reference.Goals as goal

pub note-requires : goal.note-requires
note-requires c =
    subst reference.format.admits (sym c.of.ensures)
    (subst (λ (r : Result Ior PeerFault). IfOk r (λ x. reference.format.admits x)) c.in-Ok.is c.requires)
