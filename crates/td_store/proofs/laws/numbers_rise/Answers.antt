use Rattle.std.specs.Prelude.{not}
use Rattle.td_store.specs.OfferLists.{is_numbered}
use Rattle.td_store.proofs.Limits.{rise-none, rise-push, rise-filter, rise-changed}
use Rattle.td_store.proofs.laws.numbers_rise.Goals as goal

pub returns-clause-none : goal.returns-clause-none
returns-clause-none c = rise-none

pub returns-clause-insert : goal.returns-clause-insert
returns-clause-insert c = rise-push

pub returns-clause-remove : goal.returns-clause-remove
returns-clause-remove c = λ offers number rise. rise-filter (λ o. not (is_numbered number o)) offers rise

pub returns-clause-modify : goal.returns-clause-modify
returns-clause-modify c = λ offers number properties rise. rise-changed number properties offers rise
