use Rattle.td_targets.specs.Targets.{inside_group}
use Rattle.td_fed_laws.proofs.Leading.{fresh-right}
use Rattle.td_fed_laws.proofs.Noting.{named-search, repeats-exactly}
use Rattle.td_fed_laws.proofs.walks.repeats_name_an_earlier_search.Goals as goal

pub returns-clause-named : goal.returns-clause-named
returns-clause-named c =
    λ home s u k q t v walk fresh. named-search t (fresh-right (inside_group home) s u k q t v walk fresh)

pub returns-clause-exactly : goal.returns-clause-exactly
returns-clause-exactly c =
    λ home s u k q t v walk fresh. repeats-exactly t (fresh-right (inside_group home) s u k q t v walk fresh)
