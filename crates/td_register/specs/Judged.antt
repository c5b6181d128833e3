-- What the functions behind a change answer.
use Rattle.std.specs.Prelude.{◌≡◌, ℕ, List, None, Some}
use Rattle.std.specs.Prelude.{Result, Ok, Err, Bool, false}
use Rattle.td_cdr.specs.declared.memory.Memory.{Memory as OutOfMemory}
use Rattle.td_ops.specs.declared.call.Change.{Change}
use Rattle.td_ops.specs.declared.outcome.Outcome.{Outcome}
use Rattle.td_ops.specs.declared.outcome.Reply.{Reply}
use Rattle.td_ops.specs.declared.outcome.Reply.TheVariants.{Id}
use Rattle.td_lang.specs.declared.fault.LangFault.{LangFault}
use Rattle.td_lang.specs.declared.fault.LangFault.TheVariants as lang
use Rattle.td_store.specs.OfferLists.{with_properties}
use Rattle.td_store.specs.declared.record.OfferRecord.{OfferRecord}
use Rattle.td_value.specs.declared.structures.Property.{Property}
use Rattle.td_register.specs.Causes.{Cause, OrRefusal, ChangeResult, Effect, with_cause}
use Rattle.td_register.specs.Ids.{id_of, ordinary}
use Rattle.td_register.specs.Registers.{modify_cause}
use Rattle.td_register.specs.Registers.{offers_modified, with_offer}
use Rattle.td_register.specs.Stores.{Store}
use Rattle.td_register.specs.declared.history.Accepted.{Accepted}
use Rattle.td_register.specs.declared.refusal.Fault.{Fault}
use Rattle.td_register.specs.declared.refusal.Fault.TheVariants.{Refused, Memory}

-- this is at fault; or memory ran out, which says nothing
abbrev pub IsMet : Cause → Fault → Type 0
IsMet cause (Refused f) = cause ≡ Some f
IsMet cause Memory = Unit {0}

-- nothing is at fault, or this is
abbrev pub IsFirstCause : {X : Type 0} → Cause → Result X Fault → Type 0
IsFirstCause cause (Ok x) = cause ≡ None
IsFirstCause cause (Err f) = IsMet cause f

-- nothing is at fault, and the answer is this; or something is at fault
abbrev pub Yields : {X : Type 0} → Cause → X → Result X Fault → Type 0
Yields cause value (Ok x) = (cause ≡ None) × (x ≡ value)
Yields cause value (Err f) = IsMet cause f

-- it isn't there for this reason, or memory ran out
abbrev pub IsAbsent : {X : Type 0} → OrRefusal X → Fault → Type 0
IsAbsent found (Refused f) = found ≡ Err f
IsAbsent found Memory = Unit {0}

-- The change is accepted as it came, and the reply and the store are as said; or it is refused, or memory ran out,
-- and nothing changed.
abbrev pub AcceptsChange : Change → ChangeResult → (old new : Store) → Result Accepted Fault
    → Type 0
AcceptsChange c comes old new (Ok a) = (a.change ≡ c) × (comes ≡ Ok (a.reply, new))
AcceptsChange c comes old new (Err (Refused f)) = (comes ≡ Err f) × (new ≡ old)
AcceptsChange c comes old new (Err Memory) = new ≡ old

-- the outcome and the store are as said; or memory ran out, and nothing changed
abbrev pub AppliesOutcome : Effect → (old new : Store) → Result Outcome OutOfMemory → Type 0
AppliesOutcome a old new (Ok o) = (a.outcome ≡ o) × (a.store ≡ new)
AppliesOutcome a old new (Err e) = new ≡ old

-- as said, or memory ran out
abbrev pub IsOutcomeOrNoMemory : Outcome → Result Outcome OutOfMemory → Type 0
IsOutcomeOrNoMemory is_recipe_fault (Ok o) = is_recipe_fault ≡ o
IsOutcomeOrNoMemory is_recipe_fault (Err e) = Unit {0}

-- ---- a new offer

-- The offer came last, its number was given, and its id is the reply; or memory ran out, and nothing changed.
abbrev pub IsAdded : OfferRecord → (old new : Store) → Result Reply OutOfMemory → Type 0
IsAdded o old new (Ok is_recipe_fault) = (is_recipe_fault ≡ Id (id_of o.number))
    × (new ≡ with_offer old o)
IsAdded o old new (Err e) = new ≡ old

-- ---- an offer that is modified

-- the number of the offer that is modified, and its properties afterwards; or what is at fault
abbrev pub IsRenewal : Store → (id : List ℕ) → List (List ℕ) → List Property
    → Result (ℕ × List Property) Fault → Type 0
IsRenewal s id deleted changed (Ok new) =
    (modify_cause s id deleted changed ≡ None)
    × (offers_modified s.offers deleted changed (ordinary s.offers id)
    ≡ with_properties new.0 new.1 s.offers)
IsRenewal s id deleted changed (Err f) = IsMet (modify_cause s id deleted changed) f

-- ---- recipes

-- A text with this fault is no recipe; when out of memory nothing is told.
abbrev pub is_recipe_fault : LangFault → Result Bool OutOfMemory
is_recipe_fault (lang.Syntax place) = Ok false
is_recipe_fault (lang.Float place) = Ok false
is_recipe_fault (lang.Depth place) = Ok false
is_recipe_fault lang.TooLong = Ok false
is_recipe_fault lang.Memory = Err (record {})
