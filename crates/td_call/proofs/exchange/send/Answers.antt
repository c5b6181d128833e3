use Rattle.std.proofs.Common.{inl}
use Rattle.td_call.proofs.Concluding.{fetched_behind}
use Rattle.td_call.proofs.exchange.send.Goals as goal

pub returns-in-Err-clause-fetches : goal.returns-in-Err-clause-fetches
returns-in-Err-clause-fetches g c = inl c.in-Err.ensures.failed

pub returns-in-Ok-clause-fetches : goal.returns-in-Ok-clause-fetches
returns-in-Ok-clause-fetches g c =
    fetched_behind _ _ _ _ _ _ _ _ _ c.fetch.result c.in-Ok.ensures.bytes c.in-Ok.ensures.later c.fetch.ensures.fetches
