use Rattle.td_giop.specs.Heads.{request, request_at, reply, reply_at, locate_request, locate_at, locate_reply}
use Rattle.td_giop.specs.Heads.{locate_reply_at, cancel_request, cancel_at}
use Rattle.td_giop.proofs.Heads.{joins, read-alone}
use Rattle.td_giop.proofs.laws.heads_are_read.Goals as goal

pub returns-clause-request : goal.returns-clause-request
unfolding request_at
returns-clause-request c = λ minor. joins (request minor)

pub returns-clause-reply : goal.returns-clause-reply
unfolding reply_at
returns-clause-reply c = joins reply

pub returns-clause-locate : goal.returns-clause-locate
unfolding locate_at
returns-clause-locate c = read-alone locate_request

pub returns-clause-locate_reply : goal.returns-clause-locate_reply
unfolding locate_reply_at
returns-clause-locate_reply c = read-alone locate_reply

pub returns-clause-cancel : goal.returns-clause-cancel
unfolding cancel_at
returns-clause-cancel c = read-alone cancel_request

pub returns-clause-request_refused : goal.returns-clause-request_refused
unfolding request_at
returns-clause-request_refused c = λ minor. (request minor).refuses

pub returns-clause-reply_refused : goal.returns-clause-reply_refused
unfolding reply_at
returns-clause-reply_refused c = reply.refuses
