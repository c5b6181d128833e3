-- A sequence of one value.
use Rattle.std.proofs.Common.{[], ◌∷◌, List, ℕ, ◌++◌, length, Result, Ok, Err, sym, ap, ◌∙◌}
use Rattle.std.proofs.lemmas.List.{append-nil}
use Rattle.td_cdr.specs.Format.{Piece, Puts, row}
use Rattle.td_cdr.specs.Writing.{Draft}

pub puts-one : {E : Type 0} (p : Piece) (old new : Draft) (result : Result (Unit {0}) E) → Puts p old new result
    → Puts (row (p ∷ [])) old new result
puts-one p old new (Ok u) s = record {
  done =
      s.done
      ∙ ap (λ (b : List ℕ). old.bytes ++ b) (sym (append-nil (p old.order (length old.bytes))));
  order = s.order;
  kept = tt;
}
puts-one p old new (Err e) s = record { done = tt; order = s.order; kept = s.kept }
