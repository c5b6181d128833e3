use Rattle.std.proofs.Common.{List, ℕ, sym}
use Rattle.td_giop.specs.declared.header.Header.{Header}
use Rattle.td_giop.specs.declared.message_type.TheConstants.{REQUEST}
use Rattle.td_log.proofs.Framed.{alone-is, bad-alone, found-none, found-one, none-alone, content-as}
use Rattle.td_log.specs.Messages.{request_in, request_of}
use Rattle.td_log.proofs.requests.front_request.Goals as goal

pub returns-in-Ok-Some : goal.returns-in-Ok-Some
unfolding request_of
returns-in-Ok-Some c =
    content-as c.request_alone.result _ (request_of c.args.name.now c.args.framer.now.rest)
    (alone-is REQUEST (λ (bytes : List ℕ) (h : Header). request_in c.args.name.now h.order h.minor bytes)
    c.args.framer.now c.in-Ok-Some.message c.requires.limit
    (found-one c.args.framer.now c.in-Ok-Some.field-0 c.in-Ok-Some.message c.in-Ok-Some.field-0-is
    c.in-Ok-Some.ensures.found)
    c.args.count c.requires.count)
    c.request_alone.ensures

pub returns-in-Ok-None : goal.returns-in-Ok-None
unfolding request_of
returns-in-Ok-None c =
    sym
    (none-alone REQUEST (λ (h : Header). request_in c.args.name.now h.order h.minor c.args.framer.now.rest)
    c.args.framer.now c.requires.limit
    (found-none c.args.framer.now c.in-Ok-None.field-0 c.in-Ok-None.field-0-is c.in-Ok-None.ensures.found))

pub returns-in-Err : goal.returns-in-Err
unfolding request_of
returns-in-Err c =
    sym
    (bad-alone REQUEST (λ (h : Header). request_in c.args.name.now h.order h.minor c.args.framer.now.rest)
    c.args.framer.now c.requires.limit c.in-Err.field-0 c.in-Err.ensures.found)
