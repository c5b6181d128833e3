use Rattle.td_query_walk.proofs.Full.{full-link, full-proxy, nobody-asked}
use Rattle.td_query_walk.proofs.gathering.full_visits_ask_nobody.Goals as goal

pub returns-clause-links : goal.returns-clause-links
returns-clause-links c = full-link

pub returns-clause-proxies : goal.returns-clause-proxies
returns-clause-proxies c = full-proxy

pub returns-clause-visit : goal.returns-clause-visit
returns-clause-visit c = nobody-asked
