-- What calls of iterators come to can be written: a batch of what is left, or how much that is.
use Rattle.std.proofs.Common.{◌≡◌, ℕ, ◌^◌, ◌<◌, List, take, drop, Option, Some, None, refl, sym, subst, arith}
use Rattle.td_cdr.specs.Sound.{text}
use Rattle.td_cdr.specs.Writing.{Draft}
use Rattle.td_typecode.specs.Formats.{is_nonempty}
use Rattle.td_iter.specs.Desks.{Live}
use Rattle.td_iter.specs.declared.item.Item.{Item}
use Rattle.td_iter.specs.declared.item.Item.TheVariants.{Offers, Ids}
use Rattle.td_objects.specs.declared.interface.Interface.{Interface}
use Rattle.td_ops.specs.declared.call.Call.TheVariants as call
use Rattle.td_ops.specs.declared.call.IterCall.{IterCall}
use Rattle.td_ops.specs.declared.call.IterCall.TheVariants as iter
use Rattle.td_ops.specs.declared.outcome.Outcome.{Outcome}
use Rattle.td_ops.specs.declared.outcome.Outcome.TheVariants.{Done}
use Rattle.td_ops.specs.declared.outcome.Reply.TheVariants as reply
use Rattle.td_servant.specs.Iterating.{IteratorDone, NextOf, gone, left_in}
use Rattle.td_servant.specs.Objects.{iterator_interface}
use Rattle.td_servant.specs.declared.objects.Object.{Object}
use Rattle.td_session_runs_laws.proofs.Desks.{AdmitsLeft, item-writes, removed-writes}
use Rattle.td_session_runs_laws.proofs.Parts.{sequence-behind, sequence-front}
use Rattle.td_session_runs_laws.specs.Spelled.{AdmitsShaped, next_shape, shape_asked}
use Rattle.td_session_runs_laws.specs.Writable.{AdmitsItem, IsWritableDesk}
use Rattle.td_value.specs.Structures.{offer}

-- an object's interface is that of an iterator over what is left
abbrev pub FitsLeft : Option Item → Interface → Type 0
FitsLeft None i = Unit {0}
FitsLeft (Some left) i = i ≡ iterator_interface left

left-counted : (left : Item) → AdmitsItem left → left_in left < 2 ^ 32
left-counted (Offers left) h = h.0
left-counted (Ids left) h = h.0

-- the batch of what is left, and what is left behind it
next-writes : (i : Interface) (n : ℕ) (left : Item) (draft : Draft) (o : Outcome) (after : Item) → AdmitsItem left
    → i ≡ iterator_interface left → NextOf n left draft o after → AdmitsShaped (next_shape i) o × AdmitsItem after
next-writes i n (Offers left) draft o after h fits r =
    let count = r.count in
    let content : AdmitsShaped (next_shape i) (Done (reply.Batch (is_nonempty (drop count left)) (take count left))) =
    subst (λ (x : Interface). AdmitsShaped (next_shape x) (Done (reply.Batch (is_nonempty (drop count left))
    (take count left)))) (sym fits)
    (refl, ((is_nonempty (drop count left), take count left), refl, (tt, sequence-front offer count left h))) in (
      subst (AdmitsShaped (next_shape i)) (sym r.outcome) content,
      subst AdmitsItem (sym r.rest) (sequence-behind offer count left h),
    )
next-writes i n (Ids left) draft o after h fits r =
    let count = r.count in
    let content : AdmitsShaped (next_shape i) (Done (reply.IdBatch (is_nonempty (drop count left)) (take count left))) =
    subst (λ (x : Interface). AdmitsShaped (next_shape x) (Done (reply.IdBatch (is_nonempty (drop count left))
    (take count left)))) (sym fits)
    (refl, ((is_nonempty (drop count left), take count left), refl, (tt, sequence-front text count left h))) in (
      subst (AdmitsShaped (next_shape i)) (sym r.outcome) content,
      subst AdmitsItem (sym r.rest) (sequence-behind text count left h),
    )

module _ (x : Object) (name : List ℕ) (number : ℕ) (d : Live) (draft : Draft) where
  pub call-writes : (left : Option Item) (c : IterCall) (o : Outcome) (e : Live) → IsWritableDesk d
      → AdmitsLeft left → FitsLeft left x.interface → IteratorDone name number left c d draft o e
      → AdmitsShaped (shape_asked x (call.Iter c)) o × IsWritableDesk e
  call-writes None c o e h l fits r =
      let content : AdmitsShaped (shape_asked x (call.Iter c)) gone = (omega arith, omega arith) in (
        subst (AdmitsShaped (shape_asked x (call.Iter c))) (sym r.0) content,
        subst IsWritableDesk (sym r.1) h,
      )
  call-writes (Some left) iter.MaxLeft o e h l fits r =
      let content : AdmitsShaped (shape_asked x (call.Iter iter.MaxLeft)) (Done (reply.Number (left_in left))) =
      (refl, (left_in left, refl, left-counted left l)) in (
        subst (AdmitsShaped (shape_asked x (call.Iter iter.MaxLeft))) (sym r.0) content,
        subst IsWritableDesk (sym r.1) h,
      )
  call-writes (Some left) (iter.NextN n) o e h l fits r =
      let next = next-writes x.interface n left draft o r.0 l fits r.1 in
      (next.0, subst IsWritableDesk (sym r.2) (item-writes name number d r.0 h next.1))
  call-writes (Some left) iter.Destroy o e h l fits r =
      let content : AdmitsShaped (shape_asked x (call.Iter iter.Destroy)) (Done reply.Nothing) = (refl, refl) in (
        subst (AdmitsShaped (shape_asked x (call.Iter iter.Destroy))) (sym r.0) content,
        subst IsWritableDesk (sym r.1) (removed-writes name number d h),
      )
