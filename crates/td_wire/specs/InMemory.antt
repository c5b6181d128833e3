-- A wire in memory.
use Rattle.std.specs.Prelude.{◌≡◌, ℕ, ◌||◌, min, List, ◌++◌, length, take, drop, Option, option_map, is_none}
use Rattle.std.specs.Prelude.{IsSome, Result, IfOk, OnOk, OnErr, is_err, false, slice_get}
use Rattle.td_out.specs.declared.fault.Failed.{Failed}
use Rattle.td_out.specs.declared.calls.Calls.{Calls}
use Rattle.td_out.specs.Calls.{fails, count_call, count_failure}
use Rattle.td_wire.specs.Connections.{Connection, Traffic, as_list, open_connection, wrote, with_left, left_in, left_of}
use Rattle.td_wire.specs.Connections.{having_left}

pub record WireState : Type 0 where
  pub traffic : Traffic
  pub calls : Calls

-- all connections, in the order in which they were made
abbrev pub connections : Traffic → List Connection
connections t = t.past ++ as_list t.current

-- what was written over one of them, counted from 0
abbrev pub written_over : ℕ → Traffic → Option (List ℕ)
written_over number t = option_map (λ c. c.written) (slice_get (connections t) number)

-- ---- the connection that stands

-- it gave so many bytes into this room: as many as it has and as there is room for
pub record GaveBytes (n : ℕ) (old new : Option Connection) (before after : List ℕ) : Type 0 where
  pub stands : IsSome old
  pub size : n ≡ min (length (left_in old)) (length before)
  pub filled : after ≡ take n (left_in old) ++ drop n before
  pub moved : new ≡ option_map (having_left (drop n (left_in old))) old

-- ---- calls. Each fails where its number is among those that do

-- a connection is refused only when out of memory besides
pub record OpensConnection (host : List ℕ) (port : ℕ) (old new : WireState)
    (result : Result (Unit {0}) Failed) : Type 0 where
  pub fails_as_set : OnOk result (fails old.calls ≡ false)
  pub made : OnOk result (new
      ≡ record { traffic = open_connection host port old.traffic; calls = count_call old.calls })
  pub refused : OnErr result (new ≡ record old { calls = count_failure old.calls })

-- a write takes the whole piece; it is refused where no connection stands, and only when out of memory besides
pub record WritesPiece (piece : List ℕ) (old new : WireState) (result : Result ℕ Failed) :
    Type 0 where
  pub fails_as_set : OnOk result (fails old.calls ≡ false)
  pub stands : OnOk result (IsSome old.traffic.current)
  pub took : IfOk result (λ n. n ≡ length piece)
  pub added : OnOk result (new
      ≡ record { traffic = wrote piece old.traffic; calls = count_call old.calls })
  pub refused : OnErr result (new ≡ record old { calls = count_failure old.calls })

-- a read is refused where no connection stands besides, and there alone
pub record ReadsConnection (old new : WireState) (before after : List ℕ)
    (result : Result ℕ Failed) : Type 0 where
  pub fails_as_set : is_err result ≡ (fails old.calls || is_none old.traffic.current)
  pub gave : IfOk result (λ n. n ≡ min (length (left_of old.traffic)) (length before))
  pub filled : IfOk result (λ n. after ≡ take n (left_of old.traffic) ++ drop n before)
  pub moved : IfOk result (λ n. new
      ≡ record {
        traffic = with_left (drop n (left_of old.traffic)) old.traffic;
        calls = count_call old.calls;
      })
  pub refused : OnErr result ((after ≡ before)
      × (new ≡ record old { calls = count_failure old.calls }))
