-- What a servant's trait asks of its relations.
use Rattle.std.proofs.Common.{inl, ℕ, ◌≤◌, Bool, refl, subst, sym, ◌∙◌, arith}
use Rattle.td_cell.specs.Passes.{SameNumbers}
use Rattle.td_cell.specs.declared.pass.View.{View}
use Rattle.td_shared.specs.Serving.{StaysShared, StaysWith}
use Rattle.td_shared.specs.Stages.{SharedStage}

pub least : (n : ℕ) → 0 ≤ n
least n = omega arith

pub stays_same : (full : Bool) (s : SharedStage) → StaysWith full full s s
stays_same full s =
    λ off. subst (λ (b : Bool). StaysShared b s s) (sym off)
    (record { view = inl refl; journal = refl; rest = refl })

pub numbers_same : {B : Type 0} (v : View B) → SameNumbers v v
numbers_same v = record { number = refl; met = refl }

pub numbers_on : {B : Type 0} (u v w : View B) → SameNumbers u v → SameNumbers v w → SameNumbers u w
numbers_on u v w p q = record { number = q.number ∙ p.number; met = q.met ∙ p.met }
