-- What a message asks of a server by its head alone (CORBA, chapter on General Inter-ORB Protocol, "GIOP Messages").
use Rattle.std.specs.Prelude.{ℕ, nat_eq, if◌then◌else◌, List, Result, Ok, Err}
use Rattle.td_cdr.specs.declared.fault.CdrFault.{CdrFault}
use Rattle.td_cdr.specs.declared.fault.CdrFault.TheVariants as cdr
use Rattle.td_cdr.specs.Place.{At}
use Rattle.td_giop.specs.declared.fault.FrameFault.{FrameFault}
use Rattle.td_giop.specs.declared.fault.FrameFault.TheVariants as frame
use Rattle.td_giop.specs.declared.message_type.TheConstants.{REQUEST, REPLY, CANCEL_REQUEST, LOCATE_REQUEST}
use Rattle.td_giop.specs.declared.message_type.TheConstants.{LOCATE_REPLY}
use Rattle.td_giop.specs.Heads.{Request, request_at, locate_at, cancel_at}
use Rattle.td_stream.specs.Messages.{behind, kind_of, minor_of}
use Rattle.td_stream.specs.declared.end.Cause.{Cause}
use Rattle.td_stream.specs.declared.end.Cause.TheVariants.{BadMagic, BadVersion, BadType, TooLarge, NotForServer}
use Rattle.td_stream.specs.declared.end.Cause.TheVariants.{Header, Fragmented}

-- it is answered; it closes the stream; or the stream is broken off at it
pub data MessageStep : Type 0 where
  answers : MessageStep
  closes : MessageStep
  breaks : Cause → MessageStep

-- a head that isn't in the grammar, by the place of the fault
abbrev pub broken_head : CdrFault → Cause
broken_head (cdr.Short place) = Header place
broken_head (cdr.BadBoolean place) = Header place
broken_head (cdr.BadString place) = Header place
broken_head (cdr.TooLong place) = Header place
broken_head cdr.Memory = Header 0

abbrev pub request_step : Result (Request × At) CdrFault → MessageStep
request_step (Ok head) = answers
request_step (Err fault) = breaks (broken_head fault)

abbrev pub locate_step : Result (ℕ × List ℕ) CdrFault → MessageStep
locate_step (Ok head) = answers
locate_step (Err fault) = breaks (broken_head fault)

abbrev pub cancel_step : Result ℕ CdrFault → MessageStep
cancel_step (Ok id) = answers
cancel_step (Err fault) = breaks (broken_head fault)

-- Request, LocateRequest and CancelRequest are answered; CloseConnection and MessageError close the stream; Reply
-- and LocateReply are for clients
unfoldable pub step_of : List ℕ → MessageStep
step_of message =
    if nat_eq (kind_of message) REQUEST then request_step
    (request_at (minor_of message) (behind message))
    else if nat_eq (kind_of message) CANCEL_REQUEST then cancel_step (cancel_at (behind message))
    else if nat_eq (kind_of message) LOCATE_REQUEST then locate_step (locate_at (behind message))
    else if nat_eq (kind_of message) REPLY then breaks NotForServer
    else if nat_eq (kind_of message) LOCATE_REPLY then breaks NotForServer
    else closes

abbrev pub cause_of : FrameFault → Cause
cause_of frame.BadMagic = BadMagic
cause_of frame.BadVersion = BadVersion
cause_of frame.BadType = BadType
cause_of frame.TooLarge = TooLarge
cause_of frame.Fragmented = Fragmented
