-- What was written before stays in front.
use Rattle.std.proofs.Common.{◌≡◌, ℕ, ◌+◌, ◌≤◌, List, ◌++◌, length, take, Result, Ok, Err, refl, sym, ap, ◌∙◌, arith}
use Rattle.std.proofs.Common.{length-append, append_assoc}
use Rattle.std.proofs.lemmas.List.{take_at, take-take}
use Rattle.td_cdr.specs.declared.order.Order.{Order}
use Rattle.td_cdr.specs.Writing.{Draft}
use Rattle.td_cdr.specs.Format.{Piece, ◌then◌, Puts}

kept-then : (old mid new p : List ℕ) → mid ≡ old ++ p → take (length mid) new ≡ mid → take (length old) new ≡ old
kept-then old mid new p e k =
    let long : length old ≤ length mid = omega (arith, ap (length {A = ℕ}) e, length-append old p) in
    sym (take-take (length old) (length mid) new long) ∙ ap (take (length old)) (k ∙ e)
    ∙ take_at old p (length old) refl

joined : (p q : Piece) (order mid_order : Order) (old mid new : List ℕ) → mid ≡ old ++ p order (length old)
    → mid_order ≡ order → new ≡ mid ++ q mid_order (length mid) → new ≡ old ++ (p then q) order (length old)
joined p q order mid_order old mid new e o f =
    let len : length mid ≡ length old + length (p order (length old)) =
    ap (length {A = ℕ}) e ∙ length-append old (p order (length old)) in
    f ∙ ap (λ (n : ℕ). mid ++ q mid_order n) len
    ∙ ap (λ (r : Order). mid ++ q r (length old + length (p order (length old)))) o
    ∙ ap (λ (x : List ℕ). x ++ q order (length old + length (p order (length old)))) e
    ∙ append_assoc old (p order (length old)) (q order (length old + length (p order (length old))))

-- one piece was written, and another is put behind it
pub puts-then : {E : Type 0} (p q : Piece) (old mid new : Draft) (result : Result (Unit {0}) E)
    → mid.bytes ≡ old.bytes ++ p old.order (length old.bytes) → mid.order ≡ old.order → Puts q mid new result
    → Puts (p then q) old new result
puts-then p q old mid new (Ok u) e o s = record {
  done = joined p q old.order mid.order old.bytes mid.bytes new.bytes e o s.done;
  order = s.order ∙ o;
  kept = tt;
}
puts-then p q old mid new (Err d) e o s = record {
  done = tt;
  order = s.order ∙ o;
  kept = kept-then old.bytes mid.bytes new.bytes (p old.order (length old.bytes)) e s.kept;
}
