use Rattle.std.proofs.Common.{subst}
use Rattle.td_walk.specs.Peering.{AdmitsExchanges}
use Rattle.td_client.proofs.calls.Calls.tell_gifts.Goals as goal

pub returns : goal.returns
returns c = subst AdmitsExchanges c.self.view_is c.self.invariant
