use Rattle.std.proofs.Common.{◌∙◌, Result, IfOk, subst, sym}
use Rattle.td_typecode.specs.Values.{any_value}
use Rattle.td_typecode.specs.declared.code.Any.{Any}
use Rattle.td_walk.specs.declared.fault.PeerFault.{PeerFault}
use Rattle.td_client.proofs.noting.note_value.Goals as goal

pub note-requires : goal.note-requires
note-requires c =
    subst any_value.format.admits (sym (c.of.ensures ∙ c.get.ensures))
    (subst (λ (r : Result Any PeerFault). IfOk r (λ x. any_value.format.admits x)) c.in-Ok.is c.requires)
