-- Peers in memory: a script has entries for object keys, and each object's entries are given in order.
use Rattle.std.specs.Prelude.{◌≡◌, ℕ, nat_eq, Bool, true, false, if◌then◌else◌, List, [], ◌∷◌, ◌++◌, Option, None, Some}
use Rattle.std.specs.Prelude.{Result, Ok, Err, option_map, option_and_then}
use Rattle.std.specs.List.{AllByRecursion, list_any, position, remove, slice_get}
use Rattle.std.specs.Str.{bytes_eq}
use Rattle.td_typecode.specs.References.{reference}
use Rattle.td_typecode.specs.Values.{any_value}
use Rattle.td_typecode.specs.declared.reference.Ior.{Ior}
use Rattle.td_ior.specs.Profiles.{iiop_of}
use Rattle.td_out.specs.Causes.{next_count}
use Rattle.td_peers.specs.declared.scripted.Scripted.{Scripted}
use Rattle.td_peers.specs.declared.scripted.Scripted.TheVariants as scripted
use Rattle.td_walk.specs.Peering.{PeerCall, Querying, Evaluating, RegisterOf, Resolving, Exchange, HasSmallOffers}
use Rattle.td_walk.specs.Peering.{HasWritableOffers}
use Rattle.td_walk.specs.Peering.{PeerAnswer, Answered, Evaluated, Referred, Failed}
use Rattle.td_walk.specs.declared.fault.PeerFault.{PeerFault}
use Rattle.td_walk.specs.declared.fault.PeerFault.TheVariants as fault

-- entries with the keys of the objects that give them
abbrev pub Script : Type 0
Script = List (List ℕ × Scripted)

pub record ScriptState : Type 0 where
  -- the entries that weren't given yet
  pub script : Script
  pub calls : List Exchange
  -- the numbers of the calls that fail, counted from 1
  pub failing : List ℕ
  -- how many calls were made, and how many of them failed; both stand still at 2^64 - 1
  pub made : ℕ
  pub faults : ℕ

-- ---- the entry that comes next

-- the call after so many is among those that fail
abbrev pub fails : (failing : List ℕ) → (made : ℕ) → Bool
fails failing made = list_any (λ number. nat_eq number (next_count made)) failing

abbrev pub is_for : (key : List ℕ) → List ℕ × Scripted → Bool
is_for key entry = bytes_eq entry.0 key

-- where the first entry of the object stands that the target names
abbrev pub place_among : Script → (target : Ior) → Option ℕ
place_among script target = option_and_then (λ profile. position (is_for profile.key) script)
    (iiop_of target)

-- no entry comes where the call is one that fails
abbrev pub place_for : ScriptState → (target : Ior) → Option ℕ
place_for p target = if fails p.failing p.made then None else place_among p.script target

abbrev pub entry_at : Script → Option ℕ → Option Scripted
entry_at script None = None
entry_at script (Some place) = option_map (λ entry. entry.1) (slice_get script place)

abbrev pub next_entry : ScriptState → (target : Ior) → Option Scripted
next_entry p target = entry_at p.script (place_for p target)

-- ---- what a call gives

-- an entry of another kind, and none, are a fault of the wire
abbrev pub gives : PeerCall → Option Scripted → PeerAnswer
gives (Querying t q) (Some (scripted.Offers a)) = Answered a
gives (Evaluating t n c x) (Some (scripted.Evaluated v)) = Evaluated v
gives (RegisterOf t) (Some (scripted.Reference r)) = Referred r
gives (Resolving t n) (Some (scripted.Reference r)) = Referred r
gives call entry = Failed fault.Wire

abbrev pub is_given : PeerAnswer → Bool
is_given (Failed f) = false
is_given given = true

-- what an answer in hand, or none, is
abbrev pub given_by : {X : Type 0} → (X → PeerAnswer) → Option X → PeerAnswer
given_by given None = Failed fault.Wire
given_by given (Some x) = given x

-- ---- what a call leaves

abbrev pub faults_after : (faults : ℕ) → (given : Bool) → ℕ
faults_after faults given = if given then faults else next_count faults

-- the call with what it gave is the last one
abbrev pub with_call : ScriptState → PeerCall → PeerAnswer → ScriptState
with_call p call gave = record p {
  calls = p.calls ++ record { call = call; gave = gave } ∷ [];
  made = next_count p.made;
  faults = faults_after p.faults (is_given gave);
}

abbrev pub rest_of : Script → Option ℕ → Script
rest_of script None = script
rest_of script (Some place) = remove script place

-- without the entry that stands there
abbrev pub without : ScriptState → Option ℕ → ScriptState
without p place = record p { script = rest_of p.script place }

-- the call was made, and the entry given
abbrev pub after : ScriptState → (target : Ior) → PeerCall → ScriptState
after p target call = without (with_call p call (gives call (next_entry p target)))
    (place_for p target)

-- what a call of an object answers and leaves; one that runs out of memory leaves all as it was
abbrev pub IsPlayed : {X : Type 0} → (X → PeerAnswer) → PeerCall → (target : Ior)
    → (old new : ScriptState)
    → Result X PeerFault → Type 0
IsPlayed given call target old new (Ok x) =
    (gives call (next_entry old target) ≡ given x) × (new ≡ after old target call)
IsPlayed given call target old new (Err fault.Memory) = new ≡ old
IsPlayed given call target old new (Err f) =
    (gives call (next_entry old target) ≡ Failed f) × (new ≡ after old target call)

-- ---- small offers, and what can be written

abbrev pub IsAllowed : Scripted → Type 0
IsAllowed (scripted.Offers a) = HasSmallOffers a × HasWritableOffers a
IsAllowed (scripted.Evaluated v) = any_value.format.admits v
IsAllowed (scripted.Reference r) = reference.format.admits r
IsAllowed scripted.Failed = Unit {0}

-- each offer of the script has at most 6 MiB, and each offer, value and reference can be written
abbrev pub AreAllowed : Script → Type 0
AreAllowed script = AllByRecursion (λ entry. IsAllowed entry.1) script
