use Rattle.std.proofs.Common.{ap, map, subst, sym}
use Rattle.td_walk.specs.Peering.{AdmitsExchanges}
use Rattle.td_client.specs.Noted.{exchange_of}
use Rattle.td_client.proofs.calls.Calls.new.Goals as goal

pub invariant_of-result : goal.invariant_of-result
invariant_of-result c = subst AdmitsExchanges (sym (ap (map exchange_of) c.new.ensures)) tt

pub returns : goal.returns
returns c = ap (map exchange_of) c.new.ensures
