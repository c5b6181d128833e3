use Rattle.td_giop.specs.Heads.{request, request_at, reply, reply_at, locate_request, locate_at, locate_reply}
use Rattle.td_giop.specs.Heads.{locate_reply_at, cancel_request, cancel_at}
use Rattle.td_giop.proofs.Heads.{request-takes_none, reply-takes_none, locate_request-takes_none}
use Rattle.td_giop.proofs.Heads.{locate_reply-takes_none, cancel_request-takes_none, reading-takes_none}
use Rattle.td_giop.proofs.Heads.{alone-takes_none}
use Rattle.td_giop.proofs.laws.heads_take_no_memory.Goals as goal

pub returns-clause-request : goal.returns-clause-request
unfolding request_at
returns-clause-request c = λ minor. reading-takes_none (request minor) (request-takes_none minor)

pub returns-clause-reply : goal.returns-clause-reply
unfolding reply_at
returns-clause-reply c = reading-takes_none reply reply-takes_none

pub returns-clause-locate : goal.returns-clause-locate
unfolding locate_at
returns-clause-locate c = alone-takes_none locate_request locate_request-takes_none

pub returns-clause-locate_reply : goal.returns-clause-locate_reply
unfolding locate_reply_at
returns-clause-locate_reply c = alone-takes_none locate_reply locate_reply-takes_none

pub returns-clause-cancel : goal.returns-clause-cancel
unfolding cancel_at
returns-clause-cancel c = alone-takes_none cancel_request cancel_request-takes_none
