use Rattle.std.proofs.Common.{subst}
use Rattle.td_peers.specs.Scripts.{ScriptState}
use Rattle.td_walk.specs.Peering.{AdmitsExchanges}
use Rattle.td_peers.proofs.mem_peers.MemPeersPeers.tell_gifts.Goals as goal

pub returns : goal.returns
returns c = subst (λ (p : ScriptState). AdmitsExchanges p.calls) c.self.view_is c.self.invariant.1
