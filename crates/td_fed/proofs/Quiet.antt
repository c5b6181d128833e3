-- What a call leaves that changes nothing and marks nothing.
use Rattle.std.proofs.Common.{◌≡◌, ℕ, zero, suc, List, [], ◌∷◌, Some, slice_get, slice_set, refl, sym, ap}
use Rattle.std.proofs.Common.{◌∙◌}
use Rattle.td_cdr.specs.Marks.{Marks}
use Rattle.td_fed.specs.Trails.{IsQuiet, own_at, own_marks_at}
use Rattle.td_register.specs.declared.history.Accepted.{Accepted}
use Rattle.td_trader.specs.Worlds.{LooksAtTrader, Meanwhile, View, Watches, with_view}
use Rattle.td_ops.specs.declared.call.Look.{Look}
use Rattle.td_ops.specs.declared.outcome.Outcome.{Outcome}

own-kept : (w : List View) (k : ℕ) (v u : View) → slice_get w k ≡ Some v → u.own ≡ v.own → (j : ℕ)
    → own_at (slice_set w k u) j ≡ own_at w j
own-kept [] k v u is e j = absurd (let bad : ⊥ = cc in bad)
own-kept (x ∷ w) zero v u is e zero = let same : x ≡ v = cc in e ∙ ap (λ (y : View). y.own) (sym same)
own-kept (x ∷ w) zero v u is e (suc j) = refl
own-kept (x ∷ w) (suc k) v u is e zero = refl
own-kept (x ∷ w) (suc k) v u is e (suc j) = own-kept w k v u is e j

marks-kept : (w : List View) (k : ℕ) (v u : View) → slice_get w k ≡ Some v → u.own_marks ≡ v.own_marks → (j : ℕ)
    → own_marks_at (slice_set w k u) j ≡ own_marks_at w j
marks-kept [] k v u is e j = absurd (let bad : ⊥ = cc in bad)
marks-kept (x ∷ w) zero v u is e zero = let same : x ≡ v = cc in e ∙ ap (λ (y : View). y.own_marks) (sym same)
marks-kept (x ∷ w) zero v u is e (suc j) = refl
marks-kept (x ∷ w) (suc k) v u is e zero = refl
marks-kept (x ∷ w) (suc k) v u is e (suc j) = marks-kept w k v u is e j

module _ (others : List Accepted → Type 0) (later : Marks → Marks → Type 0) (w u : List View) (k : ℕ) where
  seen-quiet : (seen : View) → Meanwhile others later w k seen → u ≡ with_view w k seen → IsQuiet w u
  seen-quiet seen m is = record {
    own = λ j.
        ap (λ (t : List View). own_at t j) is ∙ own-kept w k m.view seen m.is (ap (λ (v : View). v.own) m.seen_is) j;
    own_marks = λ j.
        ap (λ (t : List View). own_marks_at t j) is
        ∙ marks-kept w k m.view seen m.is (ap (λ (v : View). v.own_marks) m.seen_is) j;
  }

  pub quiet-watched : Watches others later w k u → IsQuiet w u
  quiet-watched h = seen-quiet h.seen h.meanwhile h.world

  pub quiet-looked : (l : Look) (a : Outcome × ℕ) → LooksAtTrader others later w k l a u → IsQuiet w u
  quiet-looked l a h = seen-quiet h.seen h.meanwhile h.world
