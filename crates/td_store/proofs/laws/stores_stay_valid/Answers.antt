use Rattle.td_store.proofs.Limits.{with-offer, without-offer, with-changed, with-link, without-link, with-rules}
use Rattle.td_store.proofs.laws.stores_stay_valid.Goals as goal

pub returns-clause-insert : goal.returns-clause-insert
returns-clause-insert c = with-offer

pub returns-clause-remove : goal.returns-clause-remove
returns-clause-remove c = without-offer

pub returns-clause-modify : goal.returns-clause-modify
returns-clause-modify c = with-changed

pub returns-clause-add_link : goal.returns-clause-add_link
returns-clause-add_link c = with-link

pub returns-clause-remove_link : goal.returns-clause-remove_link
returns-clause-remove_link c = without-link

pub returns-clause-set_rules : goal.returns-clause-set_rules
returns-clause-set_rules c = with-rules
