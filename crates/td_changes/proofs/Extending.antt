-- Histories that grow by a change.
use Rattle.std.proofs.Common.{◌≡◌, ℕ, suc, ◌+◌, List, [], ◌∷◌, ◌++◌, length, take, slice_get}
use Rattle.std.proofs.Common.{Some, None, Err, refl, sym, ap, subst, ◌∙◌, arith}
use Rattle.td_ops.specs.declared.call.Change.{Change}
use Rattle.td_ops.specs.declared.outcome.Outcome.TheVariants.{Done}
use Rattle.td_ops.specs.declared.outcome.Reply.{Reply}
use Rattle.td_changes.specs.Applying.{acceptance, apply, apply_counted, cause_of, comes_to, count_change, is_at_limit}
use Rattle.td_changes.specs.Applying.{with_change}
use Rattle.td_register.proofs.NoCause.{no-first}
use Rattle.td_register.specs.Causes.{Cause, effect_of, limit_if, refusal_outcome, unless, ◌otherwise◌}
use Rattle.td_changes.specs.Histories.{after_all, at, Legal, LegalFrom, add_accepted}
use Rattle.td_register.specs.Entries.{entry}
use Rattle.td_changes.specs.Laws.{ExtendsLegally, applied_after}
use Rattle.td_register.specs.Stores.{Store}
use Rattle.td_changes.specs.declared.bounds.Bounds.{Bounds}
use Rattle.td_register.specs.declared.history.Accepted.{Accepted}
use Rattle.td_register.specs.declared.refusal.Refusal.{Refusal}
use Rattle.td_register.specs.declared.refusal.Refusal.TheVariants.{Raised, NotSupported, Limit}
use Rattle.td_changes.proofs.Refusing.{refused-not_done}

pub after-snoc : (s : Store) (history : List Accepted) (e : Accepted) → after_all s (history ++ e ∷ []) ≡ (apply
    (after_all s history) e.change).store
unfolding after_all
after-snoc s [] e = refl
after-snoc s (x ∷ history) e = after-snoc (apply s x.change).store history e

pub legal-empty : (bounds : Bounds) (s : Store) → Legal bounds s []
unfolding LegalFrom
legal-empty bounds s = tt

legal-snoc : (bounds : Bounds) (count : ℕ) (s : Store) (history : List Accepted) (c : Change) (content : Reply) →
    LegalFrom bounds count s history →
    (apply_counted bounds (count + length history) (after_all s history) c).outcome ≡ Done content →
    LegalFrom bounds count s (history ++ entry c content ∷ [])
unfolding LegalFrom after_all
legal-snoc bounds count s [] c content l h = (
  subst (λ (n : ℕ). (apply_counted bounds n s c).outcome ≡ Done content) (omega
      arith) h,
  tt,
)
legal-snoc bounds count s (x ∷ history) c content l h =
    let n : count + suc (length history) ≡ (count + 1) + length history = omega arith in
    let next = (apply s x.change).store in (
      l.0,
      legal-snoc bounds (count + 1) next history c content l.1 (subst (λ (n : ℕ). (apply_counted bounds n (after_all
          next history) c).outcome ≡ Done content) n h),
    )

pub stands-last : (history : List Accepted) (e : Accepted) → slice_get (history ++ e ∷ []) (length history) ≡ Some e
stands-last [] e = refl
stands-last (x ∷ history) e = stands-last history e

pub noted-refused : (history : List Accepted) (c : Change) (f : Refusal) → add_accepted history c (refusal_outcome f) ≡ history
noted-refused history c (Raised e) = refl
noted-refused history c NotSupported = refl
noted-refused history c Limit = refl

refusal : (bounds : Bounds) (s : Store) (history : List Accepted) (c : Change) (f : Refusal) → Legal bounds s history →
    ExtendsLegally bounds s history c (effect_of (after_all s history) (Err f)) (add_accepted history c (refusal_outcome f))
refusal bounds s history c f l = record {
  legal = subst (Legal bounds s) (sym (noted-refused history c f)) l;
  store = ap (after_all s) (noted-refused history c f);
  stands = λ content h. absurd (refused-not_done f content h);
}

by_cause : (bounds : Bounds) (s : Store) (history : List Accepted) (c : Change) (cause : Cause) →
    (cause_of (after_all s history) c otherwise limit_if (is_at_limit bounds (length history))) ≡ cause →
    Legal bounds s history →
    ExtendsLegally bounds s history c (effect_of (after_all s history) (unless cause (acceptance (after_all s history) c)
    (with_change (after_all s history) c))) (add_accepted history c (effect_of (after_all s history) (unless cause (acceptance
    (after_all s history) c) (with_change (after_all s history) c))).outcome)
unfolding comes_to count_change
by_cause bounds s history c (Some f) is l = refusal bounds s history c f l
by_cause bounds s history c None is l =
    let behind = after_all s history in
    let content = acceptance behind c in
    let none = no-first (cause_of behind c) (limit_if (is_at_limit bounds (length history))) is in
    let came : (apply_counted bounds (length history) behind c).outcome ≡ Done content =
    ap (λ (x : Cause). (effect_of behind (unless x content (with_change behind c))).outcome) is in
    record {
      legal = legal-snoc bounds 0 s history c content l (subst (λ (n : ℕ). (apply_counted bounds n behind
          c).outcome ≡ Done content) (omega arith) came);
      store = after-snoc s history (entry c content)
          ∙ ap (λ (x : Cause). (effect_of behind (unless x content (with_change behind c))).store) none;
      stands = λ reply h. let same : content ≡ reply = cc in stands-last history (entry c content) ∙ ap (λ (t :
          Reply). Some (entry c t)) same;
    }

pub extended : (bounds : Bounds) (s : Store) (history : List Accepted) (c : Change) → Legal bounds s history →
    ExtendsLegally bounds s history c (applied_after bounds s history c) (add_accepted history c (applied_after bounds s history
    c).outcome)
unfolding count_change
extended bounds s history c l =
    by_cause bounds s history c (cause_of (after_all s history) c otherwise limit_if (is_at_limit bounds (length
    history))) refl l

pub taken-all : (history : List Accepted) → take (length history) history ≡ history
taken-all [] = refl
taken-all (x ∷ history) = ap (λ (es : List Accepted). x ∷ es) (taken-all history)

pub at-whole : (s : Store) (history : List Accepted) → at s history (length history) ≡ after_all s history
at-whole s history = ap (after_all s) (taken-all history)

pub at-none : (s : Store) (history : List Accepted) → at s history 0 ≡ s
unfolding after_all
at-none s history = refl
