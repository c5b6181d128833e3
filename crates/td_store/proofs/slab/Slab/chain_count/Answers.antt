use Rattle.std.proofs.Common.{sym}
use Rattle.td_store.proofs.Keeping.{count-is}
use Rattle.td_store.proofs.slab.Slab.chain_count.Goals as goal

pub returns : goal.returns
returns g c = sym (count-is _ _ _ _ c.self.view_is)
