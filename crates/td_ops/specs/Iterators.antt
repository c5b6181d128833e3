-- The operations of the interface OfferIterator and OfferIdIterator (OMG's Trading Object Service), a row each: name,
-- parameters in the order of their declaration, and the shape of the result.
use Rattle.std.specs.Prelude.{List, [], ◌∷◌, codes, Some, None, refl}
use Rattle.td_cdr.specs.Sound.{bare_arm, ulong}
use Rattle.td_ops.specs.declared.call.Call.TheVariants as call
use Rattle.td_ops.specs.declared.call.IterCall.TheVariants as iter
use Rattle.td_ops.specs.declared.operation.Operation.{Operation}
use Rattle.td_ops.specs.declared.operation.Operation.TheVariants.{Iterator}
use Rattle.td_ops.specs.declared.operation.IteratorOperation.{IteratorOperation}
use Rattle.td_ops.specs.declared.operation.IteratorOperation.TheVariants as iterator
use Rattle.td_ops.specs.declared.shape.Shape.TheVariants as shape
use Rattle.td_ops.specs.Called.{Row, iterator_arm}

abbrev pub iterator_row : IteratorOperation → Row
iterator_row iterator.MaxLeft = record {
  name = codes "max_left";
  body = bare_arm (call.Iter iter.MaxLeft);
  result = shape.Number;
}
iterator_row iterator.NextN = record {
  name = codes "next_n";
  body =
      iterator_arm (Iterator iterator.NextN) (λ p. iter.NextN p)
      (elim [ iter.NextN x ↦ Some x | _ ↦ None ]) (λ _. refl) (λ _. refl) (ulong);
  result = shape.Batch;
}
iterator_row iterator.Destroy = record {
  name = codes "destroy";
  body = bare_arm (call.Iter iter.Destroy);
  result = shape.Nothing;
}

abbrev pub iterator_operations : List Operation
iterator_operations = Iterator iterator.MaxLeft ∷ Iterator iterator.NextN
    ∷ Iterator iterator.Destroy ∷ []
