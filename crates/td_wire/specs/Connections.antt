-- What a wire tells: its connections, and what is written over them and given by them.
use Rattle.std.specs.Prelude.{◌≡◌, ◌⊎◌, ℕ, ◌≤◌, ◌<◌, List, [], ◌∷◌, ◌++◌, length, take, drop, Option, None, Some}
use Rattle.std.specs.Prelude.{option_map, IfOk, OnErr, IfSome, OnOk, Result}

-- a connection: where it goes, what was written over it, and what it has left to give
pub record Connection : Type 0 where
  pub host : List ℕ
  pub port : ℕ
  pub written : List ℕ
  pub left : List ℕ

-- the connections that ended, the one that stands, and what each of those to come will give
pub record Traffic : Type 0 where
  pub past : List Connection
  pub current : Option Connection
  pub answers : List (List ℕ)

abbrev pub as_list : {X : Type 0} → Option X → List X
as_list None = []
as_list (Some x) = x ∷ []

-- one past the end gives no bytes
abbrev pub first_or_none : List (List ℕ) → List ℕ
first_or_none [] = []
first_or_none (answer ∷ answers) = answer

-- ---- what happens to the connections

-- the one that stood has ended
abbrev pub end_connection : Traffic → Traffic
end_connection t = record t { past = t.past ++ as_list t.current; current = None }

abbrev pub fresh : List ℕ → ℕ → List ℕ → Connection
fresh host port answer = record { host = host; port = port; written = []; left = answer }

-- and a new one stands
abbrev pub open_connection : List ℕ → ℕ → Traffic → Traffic
open_connection host port t = record {
  past = t.past ++ as_list t.current;
  current = Some (fresh host port (first_or_none t.answers));
  answers = drop 1 t.answers;
}

abbrev pub written_on : List ℕ → Connection → Connection
written_on piece c = record c { written = c.written ++ piece }

-- bytes were written over the one that stands
abbrev pub wrote : List ℕ → Traffic → Traffic
wrote piece t = record t { current = option_map (written_on piece) t.current }

abbrev pub having_left : List ℕ → Connection → Connection
having_left rest c = record c { left = rest }

-- the one that stands has these bytes left
abbrev pub with_left : List ℕ → Traffic → Traffic
with_left rest t = record t { current = option_map (having_left rest) t.current }

abbrev pub left_in : Option Connection → List ℕ
left_in None = []
left_in (Some c) = c.left

-- what the one that stands has left, where one stands
abbrev pub left_of : Traffic → List ℕ
left_of t = left_in t.current

-- ---- the calls of a wire

-- these bytes came off the front of what was left
abbrev pub GivesFront : List ℕ → Option Traffic → Option Traffic → Type 0
GivesFront piece None after = after ≡ None
GivesFront piece (Some t) after = (rest : List ℕ) × (left_of t ≡ piece ++ rest)
    × (after ≡ Some (with_left rest t))

-- a connection was made; where it failed, the one that stood may have ended
pub record Connects {T E : Type 0} (host : List ℕ) (port : ℕ) (before after : Option Traffic)
    (result : Result T E) : Type 0 where
  pub ok : OnOk result (after ≡ option_map (open_connection host port) before)
  pub err : OnErr result ((after ≡ before) ⊎ (after ≡ option_map end_connection before))

-- the first bytes of a piece were written
pub record WritesTraffic {E : Type 0} (piece : List ℕ) (before after : Option Traffic)
    (result : Result ℕ E) : Type 0 where
  pub ok : IfOk result (λ n. after ≡ option_map (wrote (take n piece)) before)
  pub err : OnErr result (after ≡ before)

-- bytes came off the front of what is left, and none only where there was no room or nothing left
pub record ReadsTraffic {E : Type 0} (filled : List ℕ) (before after : Option Traffic)
    (result : Result ℕ E) : Type 0 where
  pub bound : IfOk result (λ n. n ≤ length filled)
  pub ok : IfOk result (λ n. GivesFront (take n filled) before after)
  pub end : IfOk result (λ n. n ≡ 0 → 0 < length filled → IfSome before (λ t. left_of t ≡ []))
  pub err : OnErr result (after ≡ before)
