-- A change that was done or refused, as an outcome and an entry.
use Rattle.std.proofs.Common.{◌≡◌, ℕ, Bool, false, cond, List, [], ◌∷◌, ◌++◌, Ok, Err, Result, refl}
use Rattle.std.proofs.Common.{sym, ap}
use Rattle.std.proofs.Common.{subst, ◌∙◌}
use Rattle.td_ops.specs.declared.call.Change.{Change}
use Rattle.td_ops.specs.declared.outcome.Outcome.TheVariants.{Done}
use Rattle.td_ops.specs.declared.outcome.Reply.{Reply}
use Rattle.td_changes.specs.Applying.{acceptance, apply, apply_counted, cause_of, comes_to, comes_where, count_change}
use Rattle.td_changes.specs.Applying.{is_at_limit, with_change}
use Rattle.td_changes.specs.Histories.{is_done, add_accepted}
use Rattle.td_changes.specs.declared.bounds.Bounds.{Bounds}
use Rattle.td_register.specs.declared.refusal.Refusal.{Refusal}
use Rattle.td_register.specs.declared.refusal.Refusal.TheVariants.{Raised, NotSupported, Limit}
use Rattle.td_changes.specs.Outcomes.{EndsWithFault}
use Rattle.td_cdr.specs.declared.memory.Memory.{Memory as OutOfMemory}
use Rattle.td_ops.specs.declared.outcome.Outcome.{Outcome}
use Rattle.td_register.proofs.NoCause.{nothing-later}
use Rattle.td_register.specs.Causes.{Cause, ChangeResult, effect_of, refusal_outcome, unless}
use Rattle.td_register.specs.Entries.{entry}
use Rattle.td_register.specs.Judged.{AcceptsChange, AppliesOutcome}
use Rattle.td_changes.specs.Numbering.{AreNumbered}
use Rattle.td_changes.specs.Recording.{Records}
use Rattle.td_register.specs.Stores.{Store}
use Rattle.td_register.specs.declared.history.Accepted.{Accepted}
use Rattle.td_register.specs.declared.refusal.Fault.{Fault}
use Rattle.td_register.specs.declared.refusal.Fault.TheVariants.{Refused, Memory}
use Rattle.td_changes.proofs.Numbered.{numbered}
use Rattle.td_changes.proofs.Steps.{accepted_full}

pub numbered-then : (full : Bool) (s t : Store) (c : Change) (r : Result Accepted Fault) →
    AcceptsChange c (comes_where full s c) s t r → AreNumbered s → AreNumbered t
numbered-then full s t c (Ok a) h n = numbered s t (accepted_full full s c a.reply t h.1).step n
numbered-then full s t c (Err (Refused f)) h n = subst AreNumbered (sym h.1) n
numbered-then full s t c (Err Memory) h n = subst AreNumbered (sym h) n

-- the reply that was made before is the one that is kept
same-reply : (full : Bool) (c : Change) (s t : Store) (a : Accepted) (content : Reply) →
    AcceptsChange c (comes_where full s c) s t (Ok a) → content ≡ acceptance s c → content ≡ a.reply
same-reply full c s t a content acc e = e ∙ (accepted_full full s c a.reply t acc.1).reply

pub applied-done : (full : Bool) (c : Change) (s t : Store) (a : Accepted) (content : Reply) →
    AcceptsChange c (comes_where full s c) s t (Ok a) → content ≡ acceptance s c →
    AppliesOutcome (effect_of s (comes_where full s c)) s t (Ok (Done content))
applied-done full c s t a content acc e = (
  ap (λ (x : ChangeResult). (effect_of s x).outcome) acc.1 ∙ ap (λ (x : Reply). Done x) (sym (same-reply full c s t a content acc
      e)),
  ap (λ (x : ChangeResult). (effect_of s x).store) acc.1,
)

pub not-applied : (full : Bool) (c : Change) (s t : Store) (f : Fault) (r : Result Outcome OutOfMemory) →
    AcceptsChange c (comes_where full s c) s t (Err f) → EndsWithFault f r → AppliesOutcome (effect_of s (comes_where full s c)) s t r
not-applied full c s t (Refused f) (Ok o) acc e = (
  ap (λ (x : ChangeResult). (effect_of s x).outcome) acc.0 ∙ sym e,
  ap (λ (x : ChangeResult). (effect_of s x).store) acc.0 ∙ sym acc.1,
)
not-applied full c s t (Refused f) (Err x) acc e = absurd e
not-applied full c s t Memory (Ok o) acc e = absurd e
not-applied full c s t Memory (Err x) acc e = acc

-- where any number of changes is accepted
pub uncounted : (s t : Store) (c : Change) (r : Result Outcome OutOfMemory) →
    AppliesOutcome (effect_of s (comes_where false s c)) s t r → AppliesOutcome (apply s c) s t r
unfolding comes_to
uncounted s t c r h =
    subst (λ (x : Cause). AppliesOutcome (effect_of s (unless x (acceptance s c) (with_change s c))) s t r)
    (nothing-later (cause_of s c)) h

-- ---- recorded

pub records-done : (full : Bool) (c : Change) (s t : Store) (h i k : List Accepted) (r q : Bool) (a : Accepted) (content :
    Reply) → AcceptsChange c (comes_where full s c) s t (Ok a) → content ≡ acceptance s c → i ≡ h → k ≡ i ++ a ∷ [] → q ≡ false →
    Records c (effect_of s (comes_where full s c)) s t h k r q (Ok (Done content))
records-done full c s t h i k r q a content acc e same put none =
    let applies = applied-done full c s t a content acc e in
    let is : a ≡ entry c content =
    ap (λ (x : Change). entry x a.reply) acc.0
    ∙ ap (λ (x : Reply). entry c x) (sym (same-reply full c s t a content acc e)) in (
      applies.0,
      applies.1,
      put ∙ (ap (λ (x : List Accepted). x ++ a ∷ []) same ∙ ap (λ (x : Accepted). h ++ x ∷ []) is),
      none,
    )

-- a refusal isn't done, whatever room there is
not-noted : (h : List Accepted) (c : Change) (f : Refusal) (r : Bool) →
    (h ≡ add_accepted h c (refusal_outcome f)) × (r ≡ cond (is_done (refusal_outcome f)) false r)
not-noted h c (Raised e) r = (refl, refl)
not-noted h c NotSupported r = (refl, refl)
not-noted h c Limit r = (refl, refl)

pub not-recorded : (full : Bool) (c : Change) (s t : Store) (h i : List Accepted) (r : Bool) (f : Fault) (res : Result
    Outcome OutOfMemory) → AcceptsChange c (comes_where full s c) s t (Err f) → EndsWithFault f res → i ≡ h →
    Records c (effect_of s (comes_where full s c)) s t h i r r res
not-recorded full c s t h i r (Refused f) (Ok o) acc e same =
    let gone = not-noted h c f r in
    subst (λ (x : Outcome). Records c (effect_of s (comes_where full s c)) s t h i r r (Ok x)) (sym e) (
      ap (λ (x : ChangeResult). (effect_of s x).outcome) acc.0,
      ap (λ (x : ChangeResult). (effect_of s x).store) acc.0 ∙ sym acc.1,
      same ∙ gone.0,
      gone.1,
    )
not-recorded full c s t h i r (Refused f) (Err x) acc e same = absurd e
not-recorded full c s t h i r Memory (Ok o) acc e same = absurd e
not-recorded full c s t h i r Memory (Err x) acc e same = (acc, same, refl)

-- where so many changes were accepted before
pub recorded-after : (b : Bounds) (n : ℕ) (full : Bool) (c : Change) (s t : Store) (h i : List Accepted) (r q : Bool)
    (res : Result Outcome OutOfMemory) → full ≡ is_at_limit b n →
    Records c (effect_of s (comes_where full s c)) s t h i r q res →
    Records c (apply_counted b n s c) s t h i r q res
unfolding count_change
recorded-after b n full c s t h i r q res e k =
    subst (λ (x : Bool). Records c (effect_of s (comes_where x s c)) s t h i r q res) e k
