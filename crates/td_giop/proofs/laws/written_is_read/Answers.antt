use Rattle.td_giop.proofs.Messages.{request_back, reply_back, locate_back, locate_reply_back}
use Rattle.td_giop.proofs.laws.written_is_read.Goals as goal

pub returns-clause-request : goal.returns-clause-request
returns-clause-request c = request_back

pub returns-clause-reply : goal.returns-clause-reply
returns-clause-reply c = reply_back

pub returns-clause-locate : goal.returns-clause-locate
returns-clause-locate c = locate_back

pub returns-clause-locate_reply : goal.returns-clause-locate_reply
returns-clause-locate_reply c = locate_reply_back
