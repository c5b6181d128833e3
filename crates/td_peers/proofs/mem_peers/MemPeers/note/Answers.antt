use Rattle.std.proofs.Common.{subst, sym}
use Rattle.td_peers.specs.Noted.{exchanges}
use Rattle.td_peers.specs.Scripts.{AreAllowed}
use Rattle.td_peers.proofs.Smallness.{noted_allowed}
use Rattle.td_walk.specs.Noting.{call_of}
use Rattle.td_walk.specs.Peering.{AdmitsExchanges}
use Rattle.td_peers.proofs.mem_peers.MemPeers.note.Goals as goal

pub invariant_of-self : goal.invariant_of-self
invariant_of-self c = (
  c.self.invariant.0,
  subst (λ ns. AdmitsExchanges (exchanges ns)) (sym c.in_err-given.ensures.kept) c.self.invariant.1,
)

pub invariant_of-self-2 : goal.invariant_of-self-2
invariant_of-self-2 c = (
  c.self.invariant.0,
  noted_allowed c.as_slice.result.now c.args.place (call_of c.args.call) _ _ c.in_ok-given.ensures.noted
      (subst AreAllowed (sym c.as_slice.ensures.value) c.self.invariant.0) c.self.invariant.1,
)
