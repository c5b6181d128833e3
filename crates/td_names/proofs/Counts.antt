-- How many bindings there are, when those of one context change.
use Rattle.std.proofs.Common.{◌≡◌, ℕ, ◌+◌, ◌-◌, ◌<◌, ◌≤◌, ◌⊎◌, Bool, true, false, not, cond, List, [], ◌∷◌, ◌++◌}
use Rattle.std.proofs.Common.{length, slice_get, slice_set, Option, None, Some}
use Rattle.std.proofs.Common.{refl, ap, sym, ◌∙◌, arith, get_or, nat_lt, nat_le, is_some, inl, inr, true≢false}
use Rattle.std.proofs.lemmas.List.{length-set, length-append}
use Rattle.std.proofs.lemmas.List.Sums.{sum_by-set, sum_by-append, get_or-le-sum_by}
use Rattle.std.proofs.lemmas.Option.{get_or_from_slice_get, slice_get_cases, slice_get_read}
use Rattle.std.proofs.lemmas.Bool.{cases_Bool, ltb-true, lt-ltb, leb-false}
use mir.Val.{bool_byte}
use Rattle.td_names.specs.Stores.{AreCounted, Bindings, binding_count, bindings_in, count_in, join_options, looked_up}
use Rattle.td_names.specs.declared.component.NameComponent.{NameComponent}

pub within : (contexts : List (Option Bindings)) (i : ℕ) (old : Option Bindings) → slice_get contexts i ≡ Some old
    → i < length contexts
within contexts i old at = elim (slice_get_cases contexts i).1 [
  | inl f ↦ f.1
  | inr f ↦ let bad : Some old ≡ None = sym at ∙ f.1 in absurd (let no_way : ⊥ = cc in no_way)
]

pub recounted : (contexts : List (Option Bindings)) (i : ℕ) (old new : Option Bindings)
    → slice_get contexts i ≡ Some old
    → binding_count (slice_set contexts i new) + count_in old ≡ binding_count contexts + count_in new
recounted contexts i old new at =
    let here : get_or contexts i old ≡ old = get_or_from_slice_get contexts i old old at in
    let sums = sum_by-set count_in contexts i new old (within contexts i old at) in
    rw here at sums

pub some_of : (contexts : List (Option Bindings)) (i : ℕ) (old : Option Bindings) → slice_get contexts i ≡ Some old
    → count_in old ≤ binding_count contexts
some_of contexts i old at =
    let here : get_or contexts i old ≡ old = get_or_from_slice_get contexts i old old at in
    let some = get_or-le-sum_by count_in contexts i old (within contexts i old at) in
    rw here at some

-- after one change of the bindings of one context
pub counted-set : (contexts : List (Option Bindings)) (i : ℕ) (old new : Option Bindings) (count changed next : ℕ)
    → AreCounted contexts count changed → slice_get contexts i ≡ Some old → next + count_in old ≡ count + count_in new
    → next ≤ 1000000 → changed < 1000000 → AreCounted (slice_set contexts i new) next (changed + 1)
counted-set contexts i old new count changed next h at sums few more = record {
  bindings = omega (arith, recounted contexts i old new at, h.bindings);
  few_bindings = few;
  few_changes = omega arith;
  few_contexts = omega (arith, length-set contexts i new, h.few_contexts);
}

-- and with one context more, without bindings
pub counted-push : (contexts : List (Option Bindings)) (count changed : ℕ) → AreCounted contexts count changed
    → length contexts - 1 < 65536 → AreCounted (contexts ++ Some [] ∷ []) count changed
counted-push contexts count changed h few = record {
  bindings = omega (arith, h.bindings, sum_by-append count_in contexts (Some [] ∷ []));
  few_bindings = h.few_bindings;
  few_changes = h.few_changes;
  few_contexts = omega (arith, length-append contexts (Some [] ∷ []));
}

-- a live context has a place
pub has_place : (contexts : List (Option Bindings)) (n : ℕ) → is_some (bindings_in contexts n) ≡ true
    → (0 < n) × (n - 1 < length contexts)
has_place contexts n live = elim (cases_Bool (nat_lt 0 n)) [
  | inl above ↦ (ltb-true 0 n above, inside (slice_get contexts (n - 1)) refl (rw above at live))
  | inr below ↦ absurd (true≢false (sym live ∙ rw below refl))
]
  where
    inside : (o : Option (Option Bindings)) → slice_get contexts (n - 1) ≡ o
        → is_some (join_options (slice_get contexts (n - 1))) ≡ true
        → n - 1 < length contexts
    inside None e h = absurd (true≢false (sym h ∙ rw e refl))
    inside (Some x) e h = within contexts (n - 1) x e

-- its bindings stand there
pub stands : (contexts : List (Option Bindings)) (n : ℕ) (old : Option Bindings)
    → is_some (bindings_in contexts n) ≡ true
    → old ≡ get_or contexts (n - 1) old → (slice_get contexts (n - 1) ≡ Some old) × (bindings_in contexts n ≡ old)
stands contexts n old live is =
    let p = has_place contexts n live in
    let at = slice_get_read contexts (length contexts) (n - 1) old refl p.1 is in
    let above : nat_lt 0 n ≡ true = lt-ltb 0 n p.0 in
    (at, rw (above, at) refl)

pub byte_of : (b : Bool) → bool_byte b ≡ cond b 1 0
byte_of true = refl
byte_of false = refl

-- there is room for one more, where it is one more
pub few_after : (contexts : List (Option Bindings)) (n : ℕ) (old : Option Bindings) (k : NameComponent)
    (count changed : ℕ)
    (added : Bool) → AreCounted contexts count changed → bindings_in contexts n ≡ old
    → added ≡ not (is_some (looked_up k old))
    → (is_some (looked_up k (bindings_in contexts n)) ≡ true) ⊎ (nat_le 1000000 (binding_count contexts) ≡ false)
    → count + cond added 1 0 ≤ 1000000
few_after contexts n old k count changed added h stand is (inl there) =
    let found : is_some (looked_up k old) ≡ true = rw stand at there in
    let none : added ≡ false = is ∙ ap not found in
    rw none (omega (arith, h.few_bindings))
few_after contexts n old k count changed true h stand is (inr room) = omega
    (arith, h.bindings, leb-false 1000000 (binding_count contexts) room)
few_after contexts n old k count changed false h stand is (inr room) = omega (arith, h.few_bindings)

-- what is bound in a context is bound in a live one
pub bound_live : (contexts : List (Option Bindings)) (n : ℕ) (k : NameComponent)
    → is_some (looked_up k (bindings_in contexts n)) ≡ true → is_some (bindings_in contexts n) ≡ true
bound_live contexts n k h = by (bindings_in contexts n) h
  where
    by : (o : Option Bindings) → is_some (looked_up k o) ≡ true → is_some o ≡ true
    by None g = g
    by (Some bs) g = refl

-- a context without bindings counts none
pub none_in : (contexts : List (Option Bindings)) (n : ℕ) (old : Option Bindings) (bs : Bindings)
    → bindings_in contexts n ≡ old → Some bs ≡ bindings_in contexts n → length bs ≤ 0 → count_in old ≡ 0
none_in contexts n old bs stand is none =
    let same : Some bs ≡ old = is ∙ stand in
    rw (← same) (omega (arith, none))
