-- Replies for which there is always room: system exceptions, truth values, and those of accepted changes.
use Rattle.std.proofs.Common.{◌≡◌, ℕ, ◌+◌, ◌^◌, ◌<◌, ◌≤◌, Bool, true, false, ◌||◌, List, [], ◌∷◌, ◌++◌, length}
use Rattle.std.proofs.Common.{Option, Some, None, Result, Ok, Err, refl, sym, ap, subst, ◌∙◌, arith, true≢false}
use Rattle.std.proofs.Common.{length-append}
use Rattle.std.proofs.lemmas.Bool.{leb-false}
use Rattle.std.specs.Int.{from_bool}
use Rattle.td_cdr.specs.Format.{Piece, ◌then◌}
use Rattle.td_cdr.specs.Sound.{text, ulong}
use Rattle.td_cdr.specs.declared.order.Order.{Order}
use Rattle.td_giop.proofs.Lengths.{written_number_length, written_octets_length}
use Rattle.td_name_ops.specs.declared.outcome.NameOutcome.{NameOutcome}
use Rattle.td_name_ops.specs.declared.outcome.NameOutcome.TheVariants as outcome
use Rattle.td_name_ops.specs.declared.outcome.NameResult.TheVariants as result
use Rattle.td_names.proofs.Changing.{changes_or_keeps}
use Rattle.td_names.proofs.Leading.{own-short}
use Rattle.td_names.specs.Applying.{apply_act, at_place, context_bound_anew, done_where}
use Rattle.td_names.specs.Applying.{next_number, next_reference, unless_full, with_bound_context, with_context}
use Rattle.td_names.specs.Changing.{ChangesStore, change_reply}
use Rattle.td_names.specs.Changing.ChangesStore.{refused as by_refusal, other, accepted}
use Rattle.td_names.specs.Limits.{most_contexts}
use Rattle.td_names.specs.References.{IsAddress, reference_of}
use Rattle.td_names.specs.Stores.{Bindings, Store, bindings_full, bindings_of, bound_in, changes_full, contexts_full}
use Rattle.td_names.specs.Stores.{contexts_made, start}
use Rattle.td_names.specs.Walking.{last_of, place}
use Rattle.td_names.specs.declared.act.NameAct.{NameAct}
use Rattle.td_names.specs.declared.act.NameAct.TheVariants as act
use Rattle.td_names.specs.declared.act.NameAnswer.{NameAnswer}
use Rattle.td_names.specs.declared.act.NameAnswer.TheVariants.{Done}
use Rattle.td_names.specs.declared.act.NameReply.TheVariants.{Object}
use Rattle.td_names.specs.declared.address.Address.{Address}
use Rattle.td_names.specs.declared.component.Bound.{Bound}
use Rattle.td_names.specs.declared.component.NameComponent.{NameComponent}
use Rattle.td_naming.proofs.Accepting.{home_there, refusal_unaccepted}
use Rattle.td_naming.specs.Histories.{after_all, after_change, is_accepted}
use Rattle.td_naming.specs.Views.{NamingActs, View, store_seen}
use Rattle.td_naming.specs.declared.history.NameChange.{NameChange}
use Rattle.td_ops.specs.Outcomes.{system_id, system_piece}
use Rattle.td_ops.specs.declared.outcome.SystemKind.{SystemKind}
use Rattle.td_ops.specs.declared.outcome.SystemKind.TheVariants as kind
use Rattle.td_name_session.specs.Outcomes.{outcome_of, refusal_outcome, system}
use Rattle.td_name_session.specs.Finishing.{AlwaysFits}

-- ---- system exceptions

id-short : (k : SystemKind) → length (system_id k) ≤ 40
id-short kind.Marshal = let e : length (system_id kind.Marshal) ≡ 29 = refl in omega (arith, e)
id-short kind.NoImplement = let e : length (system_id kind.NoImplement) ≡ 34 = refl in omega (arith, e)
id-short kind.BadOperation = let e : length (system_id kind.BadOperation) ≡ 35 = refl in omega (arith, e)
id-short kind.ObjectNotExist = let e : length (system_id kind.ObjectNotExist) ≡ 38 = refl in omega (arith, e)
id-short kind.ImpLimit = let e : length (system_id kind.ImpLimit) ≡ 31 = refl in omega (arith, e)
id-short kind.NoMemory = let e : length (system_id kind.NoMemory) ≡ 31 = refl in omega (arith, e)

-- pieces that are at most so long, wherever they stand
record IsAtMost (n : ℕ) (p : Piece) : Type 0 where
  short : (order : Order) (place : ℕ) → length (p order place) ≤ n

number-short : (v : ℕ) → IsAtMost 7 (ulong.format.writes v)
number-short v = record { short = λ order place. omega (arith, written_number_length 4 order place v) }

text-short : (v : List ℕ) → IsAtMost (8 + length v) (text.format.writes v)
text-short v =
    record {
      short = λ order place. omega (
        arith,
        written_octets_length order place (v ++ 0 ∷ []),
        length-append v (0 ∷ []),
      );
    }

then-short : (m n : ℕ) (p q : Piece) → IsAtMost m p → IsAtMost n q → IsAtMost (m + n) (p then q)
then-short m n p q a b = record {
  short = λ order place.
      let first = a.short order place in
      let second = b.short order (place + length (p order place)) in
      omega (arith, first, second, length-append (p order place) (q order (place + length (p order place))));
}

system-short : (k : SystemKind) (minor completion : ℕ) → IsAtMost ((8 + length (system_id k)) + (7 + 7)) (system_piece k minor completion)
system-short k minor completion =
    then-short (8 + length (system_id k)) (7 + 7) (text.format.writes (system_id k))
    (ulong.format.writes minor then ulong.format.writes completion) (text-short (system_id k))
    (then-short 7 7 (ulong.format.writes minor) (ulong.format.writes completion) (number-short minor)
    (number-short completion))

pub refused_fits : (k : SystemKind) (minor : ℕ) → AlwaysFits (refusal_outcome k minor)
refused_fits k minor = record {
  plain = refl;
  short = λ order. let whole = (system-short k minor 1).short order 24 in omega (arith, whole, id-short k);
}

pub system_fits : (k : SystemKind) → AlwaysFits (system k)
system_fits k = refused_fits k 0

pub content_fits : (k : SystemKind) (o : NameOutcome) → o ≡ system k → AlwaysFits o
content_fits k o e = subst AlwaysFits (sym e) (system_fits k)

-- ---- results

pub nothing_fits : AlwaysFits (outcome.Done result.Nothing)
nothing_fits = record { plain = refl; short = λ order. omega arith }

pub truth_fits : (truth : Bool) → AlwaysFits (outcome.Done (result.Truth truth))
truth_fits truth = record {
  plain = refl;
  short = λ order. omega (arith, written_number_length 1 order 24 (from_bool truth));
}

pub context_fits : (home : Address) (n : ℕ) → IsAddress home → n < 2 ^ 32
    → AlwaysFits (outcome.Done (result.Object (reference_of home n)))
context_fits home n address h = record {
  plain = refl;
  short = λ order. omega (arith, own-short home n order 24 address h);
}

-- ---- accepted changes

-- where a change was made, no limit stood against it
unless_more : (full : Bool) (s t : Store) (r : NameAnswer) → (unless_full full s t r).0.changes ≡ s.changes + 1
    → full ≡ false
unless_more true s t r e = absurd (let no : ⊥ = omega (arith, e) in no)
unless_more false s t r e = refl

or-right : (a b : Bool) → (a || b) ≡ false → b ≡ false
or-right true b e = absurd (true≢false e)
or-right false b e = e

few_made : (s : Store) → contexts_full s ≡ false → next_number s < 2 ^ 32
few_made s e = omega (arith, leb-false most_contexts (contexts_made s) e)

made_here : (s : Store) (c : ℕ) (o : Option Bindings) → (done_where s c o act.NewContext).0.changes ≡ s.changes + 1
    → contexts_full s ≡ false
made_here s c None e = absurd (let no : ⊥ = omega (arith, e) in no)
made_here s c (Some bs) e =
    or-right (changes_full s) (contexts_full s)
    (unless_more (changes_full s || contexts_full s) s (with_context s) (Done (Object (next_reference s))) e)

made_bound : (s : Store) (d : ℕ) (k : NameComponent) (o : Option Bound)
    → (context_bound_anew s d k o).0.changes ≡ s.changes + 1 → contexts_full s ≡ false
made_bound s d k (Some old) e = absurd (let no : ⊥ = omega (arith, e) in no)
made_bound s d k None e =
    or-right (changes_full s || bindings_full s) (contexts_full s)
    (unless_more (changes_full s || bindings_full s || contexts_full s) s (with_bound_context s d k)
    (Done (Object (next_reference s))) e)

made_at : (s : Store) (name : List NameComponent) (p : Result ℕ NameAnswer)
    → (at_place s p (λ d. context_bound_anew s d (last_of name) (bound_in s d (last_of name)))).0.changes ≡ s.changes + 1
    → contexts_full s ≡ false
made_at s name (Ok d) e = made_bound s d (last_of name) (bound_in s d (last_of name)) e
made_at s name (Err r) e = absurd (let no : ⊥ = omega (arith, e) in no)

made_where : (s : Store) (c : ℕ) (name : List NameComponent) (o : Option Bindings)
    → (done_where s c o (act.BindNewContext name)).0.changes ≡ s.changes + 1 → contexts_full s ≡ false
made_where s c name None e = absurd (let no : ⊥ = omega (arith, e) in no)
made_where s c name (Some bs) e = made_at s name (place s c name) e

-- the reply of a change that was made at this store
reply_fits : (s : Store) (c : ℕ) (a : NameAct) → IsAddress s.home → (apply_act s c a).0.changes ≡ s.changes + 1
    → AlwaysFits (outcome_of (Done (change_reply s a)))
reply_fits s c act.NewContext home more =
    context_fits s.home (next_number s) home (few_made s (made_here s c (bindings_of s c) more))
reply_fits s c (act.BindNewContext name) home more =
    context_fits s.home (next_number s) home (few_made s (made_where s c name (bindings_of s c) more))
reply_fits s c (act.Bind name o) home more = nothing_fits
reply_fits s c (act.BindContext name o) home more = nothing_fits
reply_fits s c (act.Rebind name o) home more = nothing_fits
reply_fits s c (act.Resolve name) home more = nothing_fits
reply_fits s c (act.Unbind name) home more = nothing_fits
reply_fits s c act.Destroy home more = nothing_fits
reply_fits s c act.List home more = nothing_fits

answer_fits : (s : Store) (c : ℕ) (a : NameAct) (r : NameAnswer) → IsAddress s.home → (apply_act s c a).1 ≡ r
    → ChangesStore s a r (apply_act s c a).0 → is_accepted a r ≡ true → AlwaysFits (outcome_of r)
answer_fits s c a r home is (by_refusal h e) flag = absurd (true≢false (sym flag ∙ refusal_unaccepted a r h))
answer_fits s c a r home is (other h e) flag =
    let no_ : is_accepted a r ≡ false = rw h refl in absurd (true≢false (sym flag ∙ no_))
answer_fits s c a r home is (accepted h e more) flag =
    subst (λ (x : NameAnswer). AlwaysFits (outcome_of x)) (sym e) (reply_fits s c a home more)

-- ---- where the server listens is never changed

home_after : (s : Store) (h : List NameChange) → (after_all s h).home ≡ s.home
home_after s [] = refl
home_after s (e ∷ es) = home_after (after_change s e) es ∙ home_there s e.context e.act

pub home_seen : (v : View) → (store_seen v).home ≡ v.home
home_seen v = home_after (start v.home) v.history

module _ (others : List NameChange → Type 0) where
  pub accepted_fits : (v u : View) (c : ℕ) (a : NameAct) (r : NameAnswer) → IsAddress v.home → NamingActs others v c a r u
      → is_accepted a r ≡ true → AlwaysFits (outcome_of r)
  accepted_fits v u c a r address h flag =
      let s = store_seen h.seen in
      let home : s.home ≡ v.home = home_seen h.seen ∙ ap (λ (x : View). x.home) h.meanwhile.is in
      answer_fits s c a r (subst IsAddress (sym home) address) (sym h.answer)
      (subst (λ (x : NameAnswer). ChangesStore s a x (apply_act s c a).0) (sym h.answer)
      (changes_or_keeps s (apply_act s c a).0 c a (apply_act s c a).1 refl)) flag
