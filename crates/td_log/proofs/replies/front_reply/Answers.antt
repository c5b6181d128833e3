use Rattle.std.proofs.Common.{List, ℕ, sym}
use Rattle.td_giop.specs.declared.header.Header.{Header}
use Rattle.td_giop.specs.declared.message_type.TheConstants.{REPLY}
use Rattle.td_log.proofs.Framed.{alone-is, bad-alone, found-none, found-one, none-alone, content-as}
use Rattle.td_log.specs.Messages.{reply_in, reply_of}
use Rattle.td_ops.specs.Called.{operation_in}
use Rattle.td_log.proofs.replies.front_reply.Goals as goal

pub returns-in-Ok-Some : goal.returns-in-Ok-Some
unfolding reply_of
returns-in-Ok-Some c =
    content-as c.reply_alone.result _ (reply_of (operation_in c.args.call.now) c.args.framer.now.rest)
    (alone-is REPLY (λ (bytes : List ℕ) (h : Header). reply_in (operation_in c.args.call.now) h.order bytes)
    c.args.framer.now c.in-Ok-Some.message c.requires.limit
    (found-one c.args.framer.now c.in-Ok-Some.field-0 c.in-Ok-Some.message c.in-Ok-Some.field-0-is
    c.in-Ok-Some.ensures.found)
    c.args.count c.requires.count)
    c.reply_alone.ensures

pub returns-in-Ok-None : goal.returns-in-Ok-None
unfolding reply_of
returns-in-Ok-None c =
    sym
    (none-alone REPLY (λ (h : Header). reply_in (operation_in c.args.call.now) h.order c.args.framer.now.rest)
    c.args.framer.now c.requires.limit
    (found-none c.args.framer.now c.in-Ok-None.field-0 c.in-Ok-None.field-0-is c.in-Ok-None.ensures.found))

pub returns-in-Err : goal.returns-in-Err
unfolding reply_of
returns-in-Err c =
    sym
    (bad-alone REPLY (λ (h : Header). reply_in (operation_in c.args.call.now) h.order c.args.framer.now.rest)
    c.args.framer.now c.requires.limit c.in-Err.field-0 c.in-Err.ensures.found)
