use Rattle.std.proofs.Common.{ap}
use Rattle.std.proofs.lemmas.List.{take-append-le}
use Rattle.td_changes.specs.Histories.{after_all}
use Rattle.td_trader.proofs.query_laws.points_stay.Goals as goal

pub returns : goal.returns
returns c opening history more point h = ap (after_all opening) (take-append-le point history more h)
