-- What is read of a connection until a whole message stands in front.
use Rattle.std.specs.Prelude.{◌≡◌, ◌⊎◌, ◌≤◌, ◌<◌, ℕ, Bool, true, false, List, [], ◌++◌, length, drop}
use Rattle.std.specs.Prelude.{Option, Some, None, IfSome, Result, Ok, Err, ⊤}
use Rattle.td_giop.specs.declared.fault.FrameFault.{FrameFault}
use Rattle.td_giop.specs.Stream.{Stream, first_at}
use Rattle.td_out.specs.Causes.{Rose}
use Rattle.td_walk.specs.declared.fault.PeerFault.{PeerFault}
use Rattle.td_walk.specs.declared.fault.PeerFault.TheVariants as fault
use Rattle.td_wire.specs.Connections.{Traffic, GivesFront, left_of, with_left, wrote}
use Rattle.td_call.specs.Replies.{Reading, content, strange, short, reply_value, reply_limit}

-- the most bytes of one read
abbrev pub piece_size : ℕ
piece_size = 8192

-- bytes came off the connection and went behind those that are held
pub record FetchesBytes (old new : Stream) (before after : Option Traffic) : Type 0 where
  pub piece : List ℕ
  pub held : new ≡ record old { rest = old.rest ++ piece }
  pub gives : GivesFront piece before after

-- a try at more bytes: there were some, or the connection has none left
abbrev pub Tries : (old new : Stream) → (before after : Option Traffic) → (f0 f1 : ℕ)
    → Result Bool PeerFault → Type 0
Tries old new before after f0 f1 (Ok true) =
    (b : FetchesBytes old new before after) × (0 < length b.piece) × (length b.piece ≤ piece_size)
Tries old new before after f0 f1 (Ok false) = (new ≡ old) × IfSome before (λ t. left_of t ≡ [])
Tries old new before after f0 f1 (Err fault.Wire) = Rose f0 f1
Tries old new before after f0 f1 (Err fault.Grammar) = ⊥
Tries old new before after f0 f1 (Err fault.Exception) = ⊥
Tries old new before after f0 f1 (Err fault.Memory) = ⊤

abbrev pub IsWhole : List ℕ → Type 0
IsWhole held = (size : ℕ) × (first_at reply_limit held ≡ Ok (Some size))

-- a whole message is held; else the wire failed or the bytes ended before one was whole, or a header is bad
abbrev pub Fetches : (old new : Stream) → (before after : Option Traffic) → (f0 f1 : ℕ)
    → Result (Unit {0}) PeerFault → Type 0
Fetches old new before after f0 f1 (Ok u) = FetchesBytes old new before after × IsWhole new.rest
Fetches old new before after f0 f1 (Err fault.Wire) =
    Rose f0 f1 ⊎ IfSome before (λ t. first_at reply_limit (old.rest ++ left_of t) ≡ Ok None)
Fetches old new before after f0 f1 (Err fault.Grammar) =
    IfSome before (λ t. (f : FrameFault) × (first_at reply_limit (old.rest ++ left_of t) ≡ Err f))
Fetches old new before after f0 f1 (Err fault.Exception) = ⊥
Fetches old new before after f0 f1 (Err fault.Memory) = ⊤

-- ---- the message in front

-- what is read, where it is there; running out of memory may take its place
abbrev pub IsReadOrFault : {A : Type 0} → Option A → Result A PeerFault → Type 0
IsReadOrFault found (Ok a) = found ≡ Some a
IsReadOrFault found (Err fault.Grammar) = found ≡ None
IsReadOrFault found (Err fault.Memory) = ⊤
IsReadOrFault found (Err fault.Wire) = ⊥
IsReadOrFault found (Err fault.Exception) = ⊥

-- what the bytes that are held come to, whatever follows them
abbrev pub ReadsFront : {A : Type 0} → Reading A → (id : ℕ) → (held : List ℕ) → Result A PeerFault
    → Type 0
ReadsFront reads id held (Ok a) =
    (size : ℕ) × (first_at reply_limit held ≡ Ok (Some size))
    × ((more : List ℕ) → reply_value reads id (held ++ more) ≡ content a size)
ReadsFront reads id held (Err fault.Grammar) = (more : List ℕ) → reply_value reads id (held ++ more)
    ≡ strange
ReadsFront reads id held (Err fault.Wire) = first_at reply_limit held ≡ Ok None
ReadsFront reads id held (Err fault.Exception) = ⊥
ReadsFront reads id held (Err fault.Memory) = ⊤

-- ---- a request over a connection that stands, and its reply

-- The reply is what the bytes come to that are held and that the connection gives. The request was written and no more,
-- and what follows the reply is held or left.
pub record RepliesTo {A : Type 0} (reads : Reading A) (id : ℕ) (request held held_after : List ℕ)
    (t : Traffic) (after : Option Traffic) (a : A) : Type 0 where
  pub size : ℕ
  pub rest : List ℕ
  pub is : reply_value reads id (held ++ left_of t) ≡ content a size
  pub behind : held_after ++ rest ≡ drop size (held ++ left_of t)
  pub left : left_of (with_left rest (wrote request t)) ≡ rest
  pub wire : after ≡ Some (with_left rest (wrote request t))

abbrev pub Exchanges : {A : Type 0} → Reading A → (id : ℕ) → (request held held_after : List ℕ)
    → (before after : Option Traffic) → (f0 f1 : ℕ) → Result A PeerFault → Type 0
Exchanges reads id request held held_after before after f0 f1 (Ok a) =
    IfSome before (λ t. RepliesTo reads id request held held_after t after a)
Exchanges reads id request held held_after before after f0 f1 (Err fault.Wire) =
    Rose f0 f1 ⊎ IfSome before (λ t. reply_value reads id (held ++ left_of t) ≡ short)
Exchanges reads id request held held_after before after f0 f1 (Err fault.Grammar) =
    IfSome before (λ t. reply_value reads id (held ++ left_of t) ≡ strange)
Exchanges reads id request held held_after before after f0 f1 (Err fault.Exception) = ⊥
Exchanges reads id request held held_after before after f0 f1 (Err fault.Memory) = ⊤
