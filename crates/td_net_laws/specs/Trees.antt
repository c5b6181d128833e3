-- What one depth-first walk over a finished list of calls finds (OMG's Trading Object Service, "Link Follow Behavior").
use Rattle.std.specs.Prelude.{◌≡◌, ℕ, zero, suc, nat_lt, List, [], ◌∷◌, map, slice_get, Option, Some, None, Bool}
use Rattle.std.specs.Prelude.{true}
use Rattle.std.specs.Prelude.{false, ◌==◌, ◌&&◌, ◌||◌, not}
use Rattle.td_typecode.specs.declared.reference.Ior.{Ior}
use Rattle.td_net.specs.declared.call.Call.{Call}
use Rattle.td_net.specs.declared.call.Delivery.{Delivery}
use Rattle.td_net_laws.specs.Arrivals.{Arrival, CallHead, head_of, way_of}
use Rattle.td_net_laws.specs.Steps.{GivesAnswer}
use Rattle.td_walk.specs.declared.answer.SubAnswer.{SubAnswer}

abbrev pub earlier : (serial : ℕ) → Option Arrival → Bool
earlier serial None = false
earlier serial (Some d) = d.visits && nat_lt d.serial serial

-- an earlier call of the same Ask came to this trader, and was neither refused nor passed on along its path
abbrev pub is_visited : List CallHead → (target root serial : ℕ) → Bool
is_visited [] target root serial = false
is_visited (h ∷ hs) target root serial =
    ((h.target == target) && ((h.root == root) && earlier serial h.arrival))
    || is_visited hs target root serial

abbrev pub TreeBy : List Call → (inside : Ior → Option ℕ) → (c : ℕ) → (Sub : ℕ → SubAnswer → Type 0)
    → (words : List ℕ) → SubAnswer → Call → Option Delivery → Type 0
TreeBy calls inside c Sub words a k None = ⊥
TreeBy calls inside c Sub words a k (Some d) =
    GivesAnswer calls inside c Sub words k d.seen.value a (way_of d.seen.value k.query)
    (not (is_visited (map head_of calls) k.target k.root d.serial))

abbrev pub TreeAt : List Call → (inside : Ior → Option ℕ) → (c : ℕ) → (Sub : ℕ → SubAnswer → Type 0)
    → (words : List ℕ) → SubAnswer → Option Call → Type 0
TreeAt calls inside c Sub words a None = ⊥
TreeAt calls inside c Sub words a (Some k) = TreeBy calls inside c Sub words a k k.delivery

-- The tree of a call, by recursion on the calls, since a sub-call has a greater number than its caller. It reads each
-- trader as it was when the call came there, and asks nothing of what the trader remembered. It gives nothing where the
-- query is refused, and where the trader was visited before; else the answer of its questions, of which each gives
-- nothing, a value, or the tree of its sub-call.
abbrev pub IsTree : (depth : ℕ) → List Call → (inside : Ior → Option ℕ) → (words : List ℕ) → (c : ℕ)
    → SubAnswer → Type 0
IsTree zero calls inside words c a = ⊥
IsTree (suc f) calls inside words c a =
    TreeAt calls inside c (IsTree f calls inside words) words a (slice_get calls c)
