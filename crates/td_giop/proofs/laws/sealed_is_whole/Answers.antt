use Rattle.td_giop.proofs.Messages.{request_whole, reply_whole, locate_whole, locate_reply_whole, plain_whole}
use Rattle.td_giop.proofs.laws.sealed_is_whole.Goals as goal

pub returns-clause-request : goal.returns-clause-request
returns-clause-request c = request_whole

pub returns-clause-reply : goal.returns-clause-reply
returns-clause-reply c = reply_whole

pub returns-clause-locate : goal.returns-clause-locate
returns-clause-locate c = locate_whole

pub returns-clause-locate_reply : goal.returns-clause-locate_reply
returns-clause-locate_reply c = locate_reply_whole

pub returns-clause-plain : goal.returns-clause-plain
returns-clause-plain c = plain_whole
