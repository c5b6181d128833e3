use Rattle.td_targets.specs.Targets.{inside_group}
use Rattle.td_fed_laws.proofs.Leading.{fresh-right}
use Rattle.td_fed_laws.proofs.Noting.{searched-once}
use Rattle.td_fed_laws.proofs.walks.traders_are_searched_once.Goals as goal

pub returns : goal.returns
returns c = λ home s u k q t v walk fresh. searched-once t (fresh-right (inside_group home) s u k q t v walk fresh)
