use Rattle.std.proofs.Common.{sym}
use Rattle.td_servant.proofs.Naming.{place_within}
use Rattle.td_servant.proofs.objects.object_keyed.Goals as goal

pub object_of-requires : goal.object_of-requires
object_of-requires g c =
    place_within (g.T.Traders.world c.args.traders.now) c.args.name.now c.in-Some.trader (sym c.in-Some.ensures)
