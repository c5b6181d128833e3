-- Causes and outcomes whose members can be written.
use Rattle.std.proofs.Common.{◌≡◌, ℕ, zero, suc, ◌^◌, ◌<◌, Bool, true, false, cond, List, [], ◌∷◌}
use Rattle.std.proofs.Common.{Option, Some, None, Ok, Err, nat_le, nat_eq, refl, arith}
use Rattle.std.proofs.lemmas.Bool.{and_parts, ne_eqb}
use Rattle.std.specs.Fmt.{decimal}
use Rattle.std.specs.List.{list_all}
use Rattle.td_cdr.specs.Names.{is_digit}
use Rattle.td_cdr.specs.Text.{has_nul, HasNoNul}
use Rattle.td_exceptions.specs.Exceptions.{row_of}
use Rattle.td_exceptions.specs.declared.exception.UserException.{UserException}
use Rattle.td_ior.proofs.Numbers.{below-only, below-parts, numeral-parts}
use Rattle.td_ops.specs.Answers.{AdmitsOutcome}
use Rattle.td_ops.specs.declared.operation.Operation.{Operation}
use Rattle.td_ops.specs.declared.outcome.Outcome.TheVariants.{Done}
use Rattle.td_ops.specs.declared.outcome.Reply.{Reply}
use Rattle.td_register.specs.Causes.{Cause, ChangeResult, OrRefusal, effect_of, with_cause, limit_if, raise_if}
use Rattle.td_register.specs.Causes.{refusal_outcome, tells, there}
use Rattle.td_register.specs.Causes.{unless, unless_full, unless_supported, ◌otherwise◌}
use Rattle.td_register.specs.Stores.{Store}
use Rattle.td_register.specs.declared.refusal.Refusal.{Refusal}
use Rattle.td_register.specs.declared.refusal.Refusal.TheVariants.{Raised, NotSupported, Limit}
use Rattle.td_trader_laws.specs.Writable.{IsWritableStore}

-- ---- refusals

-- an exception, by its members
abbrev pub AdmitsException : UserException → Type 0
AdmitsException e = (row_of e).members.format.admits e

abbrev pub AdmitsRefusal : Refusal → Type 0
AdmitsRefusal (Raised e) = AdmitsException e
AdmitsRefusal NotSupported = Unit {0}
AdmitsRefusal Limit = Unit {0}

pub refused-admitted : (o : Operation) (f : Refusal) → AdmitsRefusal f → AdmitsOutcome o (refusal_outcome f)
refused-admitted o (Raised e) h = h
refused-admitted o NotSupported h = (omega arith, omega arith)
refused-admitted o Limit h = (omega arith, omega arith)

-- ---- causes

abbrev pub AdmitsCause : Cause → Type 0
AdmitsCause None = Unit {0}
AdmitsCause (Some f) = AdmitsRefusal f

pub or-else : (a b : Cause) → AdmitsCause a → AdmitsCause b → AdmitsCause (a otherwise b)
or-else None b h k = k
or-else (Some f) b h k = h

pub raised : (so : Bool) (e : UserException) → AdmitsException e → AdmitsCause (raise_if so e)
raised true e h = h
raised false e h = tt

pub limited : (passed : Bool) → AdmitsCause (limit_if passed)
limited true = tt
limited false = tt

pub supported : (is : Bool) → AdmitsCause (unless_supported is)
supported true = tt
supported false = tt

-- ---- what is looked for

abbrev pub AdmitsFound : {X : Type 0} → (X → Type 0) → OrRefusal X → Type 0
AdmitsFound P (Ok x) = P x
AdmitsFound P (Err f) = AdmitsRefusal f

pub given-admitted : {X : Type 0} (P : X → Type 0) (found : OrRefusal X) (cause : X → Cause) → AdmitsFound P found
    → ((x : X) → P x → AdmitsCause (cause x)) → AdmitsCause (with_cause found cause)
given-admitted P (Ok x) cause h k = k x h
given-admitted P (Err f) cause h k = h

pub there-admitted : {X : Type 0} (P : X → Type 0) (o : Option X) (e : UserException) → AdmitsException e
    → ((x : X) → o ≡ Some x → P x) → AdmitsFound P (there o e)
there-admitted P None e h k = h
there-admitted P (Some x) e h k = k x refl

pub found-when : {X : Type 0} (P : X → Type 0) (b : Bool) (a c : OrRefusal X) → AdmitsFound P a → AdmitsFound P c
    → AdmitsFound P (cond b a c)
found-when P true a c h k = h
found-when P false a c h k = k

pub tells-admitted : {X : Type 0} (o : Operation) (P : X → Type 0) (found : OrRefusal X) (content : X → Reply)
    → AdmitsFound P found → ((x : X) → P x → AdmitsOutcome o (Done (content x))) → AdmitsOutcome o (tells found content)
tells-admitted o P (Ok x) content h k = k x h
tells-admitted o P (Err f) content h k = refused-admitted o f h

-- ---- what a change comes to

abbrev pub AdmitsComes : Operation → ChangeResult → Type 0
AdmitsComes o (Ok a) = AdmitsOutcome o (Done a.0) × IsWritableStore a.1
AdmitsComes o (Err f) = AdmitsRefusal f

pub came : (o : Operation) (cause : Cause) (content : Reply) (after : Store) → AdmitsCause cause
    → AdmitsOutcome o (Done content) → (cause ≡ None → IsWritableStore after) → AdmitsComes o (unless cause content after)
came o None content after h r k = (r, k refl)
came o (Some f) content after h r k = h

-- the same, where the reply can be written since nothing is at fault
pub came-with : (o : Operation) (cause : Cause) (content : Reply) (after : Store) → AdmitsCause cause
    → (cause ≡ None → AdmitsOutcome o (Done content) × IsWritableStore after) → AdmitsComes o (unless cause content after)
came-with o None content after h k = k refl
came-with o (Some f) content after h k = h

pub applied-outcome : (o : Operation) (s : Store) (r : ChangeResult) → AdmitsComes o r
    → AdmitsOutcome o (effect_of s r).outcome
applied-outcome o s (Ok a) h = h.0
applied-outcome o s (Err f) h = refused-admitted o f h

pub applied-store : (o : Operation) (s : Store) (r : ChangeResult) → IsWritableStore s → AdmitsComes o r
    → IsWritableStore (effect_of s r).store
applied-store o s (Ok a) w h = h.1
applied-store o s (Err f) w h = w

-- the same where no more changes are accepted
pub counted-admitted : (o : Operation) (full : Bool) (cause : Cause) (content : Reply) (after : Store)
    → AdmitsComes o (unless cause content after) → AdmitsComes o (unless_full full cause content after)
counted-admitted o true None content after h = tt
counted-admitted o false None content after h = h
counted-admitted o full (Some f) content after h = h

-- ---- values that can always be written

some-digit : (b : ℕ) → nat_le 48 b ≡ true → nat_eq b 0 ≡ false
some-digit zero h = absurd (let bad : ⊥ = cc in bad)
some-digit (suc b) h = ne_eqb (suc b) 0 (λ (e : suc b ≡ 0). let bad : ⊥ = omega arith in bad)

digits-clean : (ds : List ℕ) → list_all is_digit ds ≡ true → has_nul ds ≡ false
digits-clean [] h = refl
digits-clean (b ∷ ds) h =
    let p = and_parts (is_digit b) (list_all is_digit ds) h in
    let q = and_parts (nat_le 48 b) (nat_le b 57) p.0 in
    rw (some-digit b q.0) (digits-clean ds p.1)

-- a number's decimal digits
pub decimal-clean : (n : ℕ) → n < 2 ^ 64 → HasNoNul (decimal n)
decimal-clean n h =
    let e = below-only (2 ^ 64) (decimal n) n (omega arith) (record { below = h; printed = refl }) in
    digits-clean (decimal n) (numeral-parts (decimal n) (below-parts (2 ^ 64) (decimal n) n e).numeral_is).digits
