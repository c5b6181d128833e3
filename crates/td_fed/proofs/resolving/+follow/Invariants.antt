use Rattle.std.proofs.Common.{length}
use Rattle.td_fed.proofs.resolving.+follow.Given as goal

abbrev pub decreases-follow : goal.decreases-follow
decreases-follow g l = length l.names.now
