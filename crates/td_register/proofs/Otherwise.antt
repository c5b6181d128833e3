-- Causes one after the other.
use Rattle.std.proofs.Common.{◌≡◌, Bool, true, false, List, ℕ, Option, Some, None, Ok, Err, refl, cond, not, is_some}
use Rattle.std.proofs.Common.{Result, ap, ◌∙◌}
use Rattle.td_cdr.specs.Names.{word_name}
use Rattle.td_exceptions.specs.declared.exception.UserException.{UserException}
use Rattle.td_exceptions.specs.declared.exception.UserException.TheVariants as user
use Rattle.td_types.specs.Repository.{mask_in, type_named}
use Rattle.td_types.specs.declared.entry.ServiceType.{ServiceType}
use Rattle.td_ops.specs.declared.call.Change.{Change}
use Rattle.td_ops.specs.declared.outcome.Reply.{Reply}
use Rattle.td_register.specs.Causes.{Cause, OrRefusal, with_cause, raise, raise_if, there, unless_full, ◌otherwise◌}
use Rattle.td_register.specs.Entries.{entry}
use Rattle.td_register.specs.Judged.{AcceptsChange, IsMet, IsFirstCause}
use Rattle.td_register.specs.Named.{open_type, if_unmasked}
use Rattle.td_register.specs.Registers.{no_more}
use Rattle.td_register.specs.declared.history.Accepted.{Accepted}
use Rattle.td_register.specs.declared.refusal.Fault.{Fault}
use Rattle.td_register.specs.declared.refusal.Fault.TheVariants.{Refused, Memory}
use Rattle.td_register.specs.Stores.{Store}
use Rattle.td_register.specs.declared.refusal.Refusal.{Refusal}
use Rattle.td_register.specs.declared.refusal.Refusal.TheVariants.{Limit, Raised}

-- the first of two causes is met
pub first : (a b : Cause) (f : Fault) → IsMet a f → IsMet (a otherwise b) f
first a b (Refused x) h = rw h refl
first a b Memory h = tt

-- the first isn't met, and so the second is what counts
pub second : (a b : Cause) (f : Fault) → a ≡ None → IsMet b f → IsMet (a otherwise b) f
second a b f e h = rw e h

-- the same of a call that judges by the second
pub later : {X : Type 0} (a b : Cause) (r : Result X Fault) → a ≡ None → IsFirstCause b r → IsFirstCause (a otherwise b) r
later a b r e h = rw e h

pub neither : (a b : Cause) → a ≡ None → b ≡ None → (a otherwise b) ≡ None
neither a b e h = rw e h

-- an exception that is raised, alone or in front of other causes
pub raises : (so : Bool) (e : UserException) → so ≡ true → IsMet (raise_if so e) (Refused (Raised e))
raises so e h = rw h refl

pub raises_first : (so : Bool) (e : UserException) (b : Cause) → so ≡ true →
    IsMet (raise_if so e otherwise b) (Refused (Raised e))
raises_first so e b h = rw h refl

-- one that isn't
pub not_raised : (so : Bool) (e : UserException) → so ≡ false → raise_if so e ≡ None
not_raised so e h = rw h refl

pub grouped : (a b c : Cause) → ((a otherwise b) otherwise c) ≡ (a otherwise (b otherwise c))
grouped None b c = refl
grouped (Some f) b c = refl

-- what meets one cause meets another that is met where it is
pub carries : (a b : Cause) (f : Fault) → ((x : Refusal) → a ≡ Some x → b ≡ Some x) → IsMet a f → IsMet b f
carries a b (Refused x) on h = on x h
carries a b Memory on h = tt

-- ---- a change that is refused or accepted

module _ (c : Change) (full : Bool) (cause : Cause) (content : Reply) (s after : Store) where
  pub is_refused : (f : Fault) → IsMet cause f → AcceptsChange c (unless_full full cause content after) s s (Err f)
  is_refused (Refused x) h = (rw h refl, refl)
  is_refused Memory h = refl

  -- nothing is at fault, but no more changes are accepted
  pub is_full : cause ≡ None → full ≡ true →
      AcceptsChange c (unless_full full cause content after) s s (Err (Refused Limit))
  is_full h e = (rw (h, e) refl, refl)

  pub is_accepted : (a : Accepted) (new : Store) → cause ≡ None → full ≡ false → a ≡ entry c content → new ≡ after →
      AcceptsChange c (unless_full full cause content after) s new (Ok a)
  is_accepted a new h e is same = rw (is, same) (refl, rw (h, e) refl)

-- ---- what may be there

pub nothing_there : (t : Option ServiceType) (e : UserException) → is_some t ≡ false →
    with_cause (there t e) no_more ≡ Some (Raised e)
nothing_there None e h = refl
nothing_there (Some t) e h = absurd cc

pub something_there : (t : Option ServiceType) (e : UserException) → is_some t ≡ true →
    with_cause (there t e) no_more ≡ None
something_there None e h = absurd cc
something_there (Some t) e h = refl

pub none_there : (t : Option ServiceType) (e : UserException) (cause : ServiceType → Cause) → t ≡ None →
    with_cause (there t e) cause ≡ Some (Raised e)
none_there t e cause h = rw h refl

pub some_there : (t : Option ServiceType) (u : ServiceType) (e : UserException) (cause : ServiceType → Cause) →
    t ≡ Some u → with_cause (there t e) cause ≡ cause u
some_there t u e cause h = rw h refl

pub is_unmasked : (t : Option ServiceType) (m : Bool) → mask_in t ≡ Some m → is_some (if_unmasked t) ≡ not m
is_unmasked None m h = absurd cc
is_unmasked (Some t) m h = let same : t.masked ≡ m = cc in by_mask t.masked ∙ ap not same
  where
    by_mask : (b : Bool) → is_some (cond b None (Some t)) ≡ not b
    by_mask true = refl
    by_mask false = refl

pub is_nowhere : (t : Option ServiceType) → mask_in t ≡ None → is_some (if_unmasked t) ≡ false
is_nowhere None h = refl
is_nowhere (Some t) h = absurd cc

-- ---- a type that is open to a new offer is one that has the name

pub absent : {X : Type 0} (found : OrRefusal X) (cause : X → Cause) (f : Refusal) → with_cause found no_more ≡ Some f →
    with_cause found cause ≡ Some f
absent (Ok x) cause f h = absurd cc
absent (Err e) cause f h = h

open_if : (masked : Bool) (t : ServiceType) (e : UserException) (cause : ServiceType → Cause) →
    with_cause (there (cond masked None (Some t)) e) no_more ≡ None →
    with_cause (there (cond masked None (Some t)) e) cause ≡ cause t
open_if true t e cause h = absurd cc
open_if false t e cause h = refl

found_if : (named : Bool) (t : Option ServiceType) (e f : UserException) (cause : ServiceType → Cause) →
    with_cause (cond named (there (if_unmasked t) e) (raise f)) no_more ≡ None →
    with_cause (cond named (there (if_unmasked t) e) (raise f)) cause ≡ with_cause (there t e) cause
found_if false t e f cause h = absurd cc
found_if true None e f cause h = absurd cc
found_if true (Some t) e f cause h = open_if t.masked t e cause h

pub opened : (types : List ServiceType) (name : List ℕ) (cause : ServiceType → Cause) →
    with_cause (open_type types name) no_more ≡ None →
    with_cause (open_type types name) cause ≡ with_cause (there (type_named types name) (user.UnknownServiceType name)) cause
opened types name cause h =
    found_if (word_name name) (type_named types name) (user.UnknownServiceType name) (user.IllegalServiceType name)
    cause h
