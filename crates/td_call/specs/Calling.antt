-- One call of an object over a connection of its own (CORBA, chapter on General Inter-ORB Protocol, "Internet Inter-ORB
-- Protocol").
use Rattle.std.specs.Prelude.{◌≡◌, ◌⊎◌, ℕ, List, [], Option, Some, None, IfSome, option_map, Result, Ok, Err, ⊤}
use Rattle.td_typecode.specs.declared.reference.Ior.{Ior}
use Rattle.td_giop.specs.Stream.{Stream}
use Rattle.td_ior.specs.declared.profile.Iiop.{Iiop}
use Rattle.td_ior.specs.Profiles.{iiop_of}
use Rattle.td_out.specs.Causes.{Rose}
use Rattle.td_walk.specs.declared.fault.PeerFault.{PeerFault}
use Rattle.td_walk.specs.declared.fault.PeerFault.TheVariants as fault
use Rattle.td_wire.specs.Connections.{Traffic, end_connection, first_or_none, open_connection, with_left, wrote}
use Rattle.td_call.specs.Moving.{ConnectsNone}
use Rattle.td_call.specs.Replies.{Reading, content, strange, short, reply_value, reply_limit}

-- the id of the first request over a connection
abbrev pub first_id : ℕ
first_id = 1

-- what the next connection gives
abbrev pub next_given : Traffic → List ℕ
next_given t = first_or_none t.answers

-- a stream of which nothing came yet
abbrev pub fresh_stream : Stream
fresh_stream = record { start = 0; rest = []; limit = reply_limit }

-- a connection to where a profile says; running out of memory is met once it stands, and ends it
abbrev pub ConnectsTo : Iiop → (before after : Option Traffic) → (f0 f1 : ℕ)
    → Result Stream PeerFault → Type 0
ConnectsTo p before after f0 f1 (Ok s) = (s ≡ fresh_stream)
    × (after ≡ option_map (open_connection p.host p.port) before)
ConnectsTo p before after f0 f1 (Err fault.Wire) = Rose f0 f1 × ConnectsNone before after
ConnectsTo p before after f0 f1 (Err fault.Grammar) = ⊥
ConnectsTo p before after f0 f1 (Err fault.Exception) = ⊥
ConnectsTo p before after f0 f1 (Err fault.Memory) = after
    ≡ option_map end_connection (option_map (open_connection p.host p.port) before)

-- The reply is what the bytes come to that the new connection gives, and over it the request was written and no more.
-- It has ended since.
pub record NewConnectionAnswers {A : Type 0} (reads : Reading A) (request : List ℕ) (p : Iiop)
    (t : Traffic)
    (after : Option Traffic) (a : A) : Type 0 where
  pub size : ℕ
  pub rest : List ℕ
  pub is : reply_value reads first_id (next_given t) ≡ content a size
  pub wire : after
      ≡ Some (end_connection (with_left rest (wrote request (open_connection p.host p.port t))))

-- What a call over a connection to there answers: what the reply tells; that the bytes are outside the grammar; that
-- they ended before a message was whole, or the wire failed; or running out of memory.
abbrev pub CalledAt : {A : Type 0} → Reading A → (request : List ℕ) → Iiop
    → (before after : Option Traffic) → (f0 f1 : ℕ) → Result A PeerFault → Type 0
CalledAt reads request p before after f0 f1 (Ok a) = IfSome before
    (λ t. NewConnectionAnswers reads request p t after a)
CalledAt reads request p before after f0 f1 (Err fault.Wire) =
    Rose f0 f1 ⊎ IfSome before (λ t. reply_value reads first_id (next_given t) ≡ short)
CalledAt reads request p before after f0 f1 (Err fault.Grammar) =
    IfSome before (λ t. reply_value reads first_id (next_given t) ≡ strange)
CalledAt reads request p before after f0 f1 (Err fault.Exception) = ⊥
CalledAt reads request p before after f0 f1 (Err fault.Memory) = ⊤

-- What a call of an object answers, by what the wire tells and by its count of faults. An object without an IIOP
-- profile is outside the grammar, and isn't called.
abbrev pub CallsObject : {A : Type 0} → Reading A → (request : Iiop → List ℕ) → (target : Ior)
    → (before after : Option Traffic) → (f0 f1 : ℕ) → Result A PeerFault → Type 0
CallsObject reads request target before after f0 f1 (Ok a) =
    (p : Iiop) × (iiop_of target ≡ Some p)
    × IfSome before (λ t. NewConnectionAnswers reads (request p) p t after a)
CallsObject reads request target before after f0 f1 (Err fault.Wire) =
    Rose f0 f1 ⊎ IfSome before (λ t. reply_value reads first_id (next_given t) ≡ short)
CallsObject reads request target before after f0 f1 (Err fault.Grammar) =
    (iiop_of target ≡ None) ⊎ IfSome before (λ t. reply_value reads first_id (next_given t)
    ≡ strange)
CallsObject reads request target before after f0 f1 (Err fault.Exception) = ⊥
CallsObject reads request target before after f0 f1 (Err fault.Memory) = ⊤
