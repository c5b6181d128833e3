-- That a pass is in order can be shown in one way at most, so that a type can keep it.
use Rattle.std.specs.Coded.{Coded-set, coded_ℕ, le_prop, Π_prop, →_prop}
use Rattle.std.specs.Prelude.{ℕ, List}
use mathlib.Core.HLevel.{⊥_prop}
use Rattle.td_cell.specs.declared.pass.View.{View}
use Rattle.td_iter.specs.declared.desk.DeskEntry.{DeskEntry}
use Rattle.td_iter.specs.declared.item.Item.{Item}
use Rattle.td_desk.specs.Sharing.{InOrder, OwnActsAreOrdered}
use Rattle.td_desk.specs.declared.event.Event.{Event}

in_order_here : (h : List Event) (own : List ℕ) → IsProp (OwnActsAreOrdered h own)
in_order_here h own p q = λ i. record {
  within = Π_prop (λ (place : ℕ). →_prop le_prop) p.within q.within i;
  drawn =
      Π_prop (λ (place : ℕ). Π_prop (λ (e : DeskEntry Item). →_prop (→_prop (→_prop ⊥_prop))))
      p.drawn q.drawn i;
  once =
      Π_prop (λ (x : ℕ). Π_prop
      (λ (y : ℕ). Π_prop (λ (e : DeskEntry Item). Π_prop (λ (f : DeskEntry Item).
      →_prop (→_prop (→_prop (→_prop (→_prop (Coded-set coded_ℕ x y))))))))) p.once q.once i;
}

pub in_order_prop : (v : View (List Event)) → IsProp (InOrder v)
in_order_prop v = Π_prop (λ (h : List Event). →_prop (in_order_here h v.own))
