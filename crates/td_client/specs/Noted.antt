-- The calls of a caller, as they are noted.
use Rattle.std.specs.Prelude.{ℕ, List, [], ◌∷◌, map, Result, Ok, Err}
use Rattle.td_out.specs.Causes.{next_count}
use Rattle.td_walk.specs.Noting.{call_of}
use Rattle.td_walk.specs.Peering.{PeerCall, Exchange, PeerAnswer}
use Rattle.td_walk.specs.Peering.{Answered, Evaluated, Referred, Failed}
use Rattle.td_walk.specs.declared.fault.PeerFault.{PeerFault}
use Rattle.td_walk.specs.declared.fault.PeerFault.TheVariants as fault
use Rattle.td_ghost_list.specs.Entries.{entries_of}
use Rattle.td_ghost_list.specs.declared.past.Past.{Past}
use Rattle.td_client.specs.declared.note.GaveNote.{GaveNote}
use Rattle.td_client.specs.declared.note.GaveNote.TheVariants as gave
use Rattle.td_client.specs.declared.note.Note.{Note}

abbrev pub given_of : GaveNote → PeerAnswer
given_of (gave.Offers a) = Answered a.value
given_of (gave.Value v) = Evaluated v.value
given_of (gave.Reference r) = Referred r.value
given_of (gave.Failed f) = Failed f

abbrev pub exchange_of : Note → Exchange
exchange_of n = record { call = call_of n.call; gave = given_of n.gave }

abbrev pub exchanges : Past Note → List Exchange
exchanges notes = map exchange_of (entries_of notes)

-- what a call that failed adds: one that ran out of memory isn't noted
abbrev pub note_failure : PeerCall → PeerFault → List Exchange
note_failure c fault.Memory = []
note_failure c fault.Wire = record { call = c; gave = Failed fault.Wire } ∷ []
note_failure c fault.Grammar = record { call = c; gave = Failed fault.Grammar } ∷ []
note_failure c fault.Exception = record { call = c; gave = Failed fault.Exception } ∷ []

-- the caller's own count goes up by a fault other than running out of memory
abbrev pub count_fault : (count : ℕ) → PeerFault → ℕ
count_fault count fault.Memory = count
count_fault count fault.Wire = next_count count
count_fault count fault.Grammar = next_count count
count_fault count fault.Exception = next_count count

abbrev pub count_after : {A : Type 0} → (count : ℕ) → Result A PeerFault → ℕ
count_after count (Ok a) = count
count_after count (Err f) = count_fault count f
