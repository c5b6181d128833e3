-- The calls of peers in memory, as they are noted.
use Rattle.std.specs.Prelude.{List, Option, map, option_map}
use Rattle.td_peers.specs.Scripts.{gives}
use Rattle.td_peers.specs.declared.note.Note.{Note}
use Rattle.td_peers.specs.declared.scripted.Scripted.{Scripted}
use Rattle.td_walk.specs.Noting.{call_of}
use Rattle.td_walk.specs.Peering.{Exchange, PeerCall}

-- a call to which this entry was given, or none
abbrev pub exchange_by : PeerCall → Option Scripted → Exchange
exchange_by call entry = record { call = call; gave = gives call entry }

abbrev pub exchange_of : Note → Exchange
exchange_of n = exchange_by (call_of n.call) (option_map (λ e. e.value) n.entry)

abbrev pub exchanges : List Note → List Exchange
exchanges notes = map exchange_of notes
