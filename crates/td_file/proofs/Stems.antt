-- No change makes a trader's stem longer than 64 octets.
use Rattle.std.proofs.Common.{◌≡◌, ℕ, ◌≤◌, Bool, true, false, List, [], ◌∷◌, length, if◌then◌else◌, Result, Ok, Err}
use Rattle.std.proofs.Common.{subst, arith}
use Rattle.td_cdr.specs.Reading.{◌>>=◌}
use Rattle.td_changes.proofs.Steps.{Keeps, added, applied_keeps, fewer, linked, renewed, set, typed}
use Rattle.td_changes.specs.Applying.{apply}
use Rattle.td_changes.specs.Histories.{is_done}
use Rattle.td_lines.specs.Steps.{refusal}
use Rattle.td_lines.specs.declared.cause.LineCause.TheVariants.{Rejected}
use Rattle.td_lines.specs.declared.entry.Numbered.{Numbered}
use Rattle.td_lines.specs.declared.entry.Refused.{Refused}
use Rattle.td_register.specs.Stores.{Store}
use Rattle.td_types.specs.Repository.{InterfaceBases}
use Rattle.td_walk.specs.declared.trace.Address.{Address}
use Rattle.td_file.specs.Openings.{behind, change_of, new_store, store_after}

abbrev IsShort : Store → Type 0
IsShort s = length s.attributes.request_id_stem ≤ 64

short-step : Keeps IsShort
short-step s _ (added o is room) h = h
short-step s _ (fewer test) h = h
short-step s _ (renewed o ps held fits) h = h
short-step s _ (linked ls) h = h
short-step s _ (set a stem) h = stem h
short-step s _ (typed r) h = h

-- ---- entries

abbrev Stays : Result Store Refused → Type 0
Stays (Ok s) = IsShort s
Stays (Err refused) = Unit {0}

stays-if : (s : Store) (refused : Refused) (test : Bool) → IsShort s → Stays (if test then Ok s else Err refused)
stays-if s refused true h = h
stays-if s refused false h = tt

stays-behind : (home : Address) (s : Store) (one : Numbered) → IsShort s → Stays (behind home s one)
stays-behind home s one h =
    let c = change_of home one.entry in
    stays-if (apply s c).store (refusal one.line Rejected) (is_done (apply s c).outcome)
    (applied_keeps IsShort short-step s c h)

stays-on : (content : Result Store Refused) (f : Store → Result Store Refused) → Stays content
    → ((s : Store) → IsShort s → Stays (f s)) → Stays (content >>= f)
stays-on (Ok s) f h k = k s h
stays-on (Err refused) f h k = tt

stays : (home : Address) (s : Store) (entries : List Numbered) → IsShort s → Stays (store_after home s entries)
stays home s [] h = h
stays home s (one ∷ others) h =
    stays-on (behind home s one) (λ (more : Store). store_after home more others) (stays-behind home s one h)
    (λ (more : Store) k. stays home more others k)

short-new : (home : Address) (name : List ℕ) (interfaces : InterfaceBases) → length name ≤ 32
    → IsShort (new_store home name interfaces)
unfolding new_store
short-new home name interfaces h = omega (arith, h)

-- the stem of an opening store: the name, or what a line has set
pub short_stem : (home : Address) (name : List ℕ) (interfaces : InterfaceBases) (entries : List Numbered) (s : Store)
    → length name ≤ 32 → store_after home (new_store home name interfaces) entries ≡ Ok s
    → length s.attributes.request_id_stem ≤ 64
short_stem home name interfaces entries s h e =
    subst Stays e (stays home (new_store home name interfaces) entries (short-new home name interfaces h))
