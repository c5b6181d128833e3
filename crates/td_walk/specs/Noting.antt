-- Calls of peers, as they are noted.
use Rattle.td_walk.specs.Peering.{PeerCall, Querying, Evaluating, RegisterOf, Resolving}
use Rattle.td_walk.specs.declared.call_note.CallNote.{CallNote}
use Rattle.td_walk.specs.declared.call_note.CallNote.TheVariants as note

abbrev pub call_of : CallNote → PeerCall
call_of (note.Query t q) = Querying t.value q.value
call_of (note.Evaluation t n c x) = Evaluating t.value n.value c.value x.value
call_of (note.Register t) = RegisterOf t.value
call_of (note.Resolution t n) = Resolving t.value n.value
