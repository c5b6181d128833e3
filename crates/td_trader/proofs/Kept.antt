-- What a trader keeps through a change.
use Rattle.std.proofs.Common.{◌≡◌, ◌≤◌, ℕ, Bool, List, [], length, Result, Ok, Err}
use Rattle.std.proofs.Common.{refl, sym}
use Rattle.std.proofs.Common.{ap, subst, ◌∙◌}
use Rattle.td_cdr.specs.declared.memory.Memory.{Memory as OutOfMemory}
use Rattle.td_ops.specs.declared.call.Change.{Change}
use Rattle.td_ops.specs.declared.outcome.Outcome.{Outcome}
use Rattle.td_changes.specs.Applying.{apply_counted}
use Rattle.td_register.specs.Causes.{Effect}
use Rattle.td_changes.specs.Histories.{Legal, after_all, add_accepted}
use Rattle.td_changes.specs.Laws.{ExtendsLegally, applied_after}
use Rattle.td_changes.specs.Numbering.{AreNumbered}
use Rattle.td_trader.specs.PlainTraders.{HasShortReplies, IsValidTrader}
use Rattle.td_changes.specs.Recording.{Records}
use Rattle.td_register.specs.Registers.{last_number}
use Rattle.td_register.specs.Stores.{Store}
use Rattle.td_changes.specs.declared.bounds.Bounds.{Bounds}
use Rattle.td_register.specs.declared.history.Accepted.{Accepted}
use Rattle.td_changes.proofs.Extending.{extended, legal-empty}
use Rattle.td_changes.proofs.Numbered.{numbered}
use Rattle.td_changes.proofs.Steps.{counted_keeps}

-- ---- what is kept

kept-by : (b : Bounds) (opening store after : Store) (h k : List Accepted) (c : Change) (o : Outcome) (a : Effect) →
    a ≡ applied_after b opening h c → a.outcome ≡ o → a.store ≡ after → k ≡ add_accepted h c o →
    ExtendsLegally b opening h c a (add_accepted h c a.outcome) → AreNumbered a.store → IsValidTrader b opening after k
kept-by b opening store after h k c o a is out st e x n =
    let same : add_accepted h c a.outcome ≡ k = ap (add_accepted h c) out ∙ sym e in
    record {
      behind = sym st ∙ (sym x.store ∙ ap (after_all opening) same);
      legal = subst (Legal b opening) same x.legal;
      numbered = subst AreNumbered st n;
    }

pub recorded : (b : Bounds) (opening store after : Store) (h k : List Accepted) (r q : Bool) (c : Change) (o :
    Outcome) → IsValidTrader b opening store h → Records c (apply_counted b (length h) store c) store after h k r q (Ok o) →
    IsValidTrader b opening after k
recorded b opening store after h k r q c o kept rec =
    let a = apply_counted b (length h) store c in
    let e : a ≡ applied_after b opening h c = ap (λ (s : Store). apply_counted b (length h) s c) kept.behind in
    let x : ExtendsLegally b opening h c a (add_accepted h c a.outcome) =
    subst (λ (y : Effect). ExtendsLegally b opening h c y (add_accepted h c y.outcome)) (sym e) (extended b opening h c kept.legal) in
    kept-by b opening store after h k c o a e rec.0 rec.1 rec.2 x (counted_keeps AreNumbered numbered b (length h) store
    c kept.numbered)

pub kept-through : (b : Bounds) (opening store after : Store) (h k : List Accepted) (r q : Bool) (c : Change) (res :
    Result Outcome OutOfMemory) → IsValidTrader b opening store h →
    Records c (apply_counted b (length h) store c) store after h k r q res → IsValidTrader b opening after k
kept-through b opening store after h k r q c (Ok o) kept rec = recorded b opening store after h k r q c o kept rec
kept-through b opening store after h k r q c (Err e) kept rec =
    subst (λ (s : Store). IsValidTrader b opening s k) (sym rec.0) (subst (IsValidTrader b opening store) (sym rec.1) kept)

pub kept-opening : (b : Bounds) (o s : Store) (h : List Accepted) → o ≡ s → h ≡ [] → AreNumbered s → IsValidTrader b o s h
unfolding after_all
kept-opening b o s h e n counted =
    subst (λ (x : Store). IsValidTrader b x s h) (sym e) (subst (IsValidTrader b s s) (sym n) (record {
      behind = refl;
      legal = legal-empty b s;
      numbered = counted;
    }))

pub short-opening : (o s : Store) (stem : List ℕ) → o ≡ s → (stem ≡ s.attributes.request_id_stem) × (length stem ≤ 64)
    → s.last_offer ≤ last_number → HasShortReplies o
short-opening o s stem e h last =
    subst HasShortReplies (sym e)
    (record { stem = subst (λ (x : List ℕ). length x ≤ 64) h.0 h.1; last_offer = last })

-- ---- the trader's value
