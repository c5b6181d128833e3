-- What is written part by part.
use Rattle.std.proofs.Common.{◌≡◌, ℕ, List, [], ◌∷◌, ◌++◌, length, take, Result, Ok, Err, refl, sym, ap, ◌∙◌, arith}
use Rattle.std.proofs.lemmas.List.{take_all, take_at, append-nil}
use Rattle.td_cdr.specs.declared.order.Order.{Order}
use Rattle.td_cdr.specs.Format.{Piece, none, ◌then◌, Puts, Appends, octets}
use Rattle.td_cdr.specs.Gap.{flag}
use Rattle.td_cdr.specs.Writing.{Draft, Adds}
use Rattle.td_cdr.proofs.Appending.{puts-then}
use Rattle.td_typecode.specs.WritingCodes.{WritesCode, encapsulation_piece}

-- one piece was written, and another behind it
pub writes-then : {E : Type 0} (p q : Piece) (old mid new : Draft) (result : Result (Unit {0}) E)
    → mid.bytes ≡ old.bytes ++ p old.order (length old.bytes) → mid.order ≡ old.order → WritesCode q mid new result
    → WritesCode (p then q) old new result
writes-then {E = E} p q old mid new (Ok u) e o s =
    let second : Puts {E = E} q mid new (Ok u) = record { done = s.done; order = s.order; kept = tt } in
    let whole = puts-then p q old mid new (Ok u) e o second in
    record { done = whole.done; order = whole.order }
writes-then p q old mid new (Err d) e o s = record { done = tt; order = s.order ∙ o }

-- what is appended or else nothing
pub writes-whole : {E : Type 0} (p : Piece) (old new : Draft) (result : Result (Unit {0}) E)
    → Appends p old new result → WritesCode p old new result
writes-whole p old new result s = record { done = s.done; order = s.order }

-- what a call of the writer adds
pub writes-added : {E : Type 0} (p : Piece) (old new : Draft) (result : Result (Unit {0}) E)
    → Adds (p old.order (length old.bytes)) old new result → WritesCode p old new result
writes-added p old new (Ok u) s = record { done = s.done.0; order = s.done.1 }
writes-added p old new (Err d) s = record { done = tt; order = ap (λ (w : Draft). w.order) s.refused.0 }

-- a piece that was written into an encapsulation, and this behind the kind
pub encapsulated : {E : Type 0} (k p : Piece) (order : Order) (start inner old new : Draft)
    (result : Result (Unit {0}) E)
    → start.bytes ≡ flag order ∷ [] → start.order ≡ order → order ≡ old.order
    → inner.bytes ≡ start.bytes ++ p start.order (length start.bytes)
    → Appends (k then octets.writes inner.bytes) old new result → Appends (k then encapsulation_piece p) old new result
encapsulated k p order start inner old new result s o same e a =
    let bytes : inner.bytes ≡ flag order ∷ p order 1 = rw (s, o) at e in
    let inside : inner.bytes ≡ flag old.order ∷ p old.order 1 = rw same at bytes in
    record { done = rw inside at a.done; order = a.order; refused = a.refused }

-- ---- where some may have been written

-- what was there is kept where nothing was written
pub kept-whole : (old new : Draft) → new.bytes ≡ old.bytes → take (length old.bytes) new.bytes ≡ old.bytes
kept-whole old new same = rw same (take_all (length old.bytes) old.bytes (omega arith))

-- where nothing is to be written, nothing is
pub puts-none : {E : Type 0} (w : Draft) → Puts {E = E} none w w (Ok tt)
puts-none w = record { done = sym (append-nil w.bytes); order = refl; kept = tt }

pub puts-whole : {E : Type 0} (p : Piece) (old new : Draft) (result : Result (Unit {0}) E)
    → Appends p old new result → Puts p old new result
puts-whole p old new (Ok u) s = record { done = s.done; order = s.order; kept = tt }
puts-whole p old new (Err d) s = record { done = tt; order = s.order; kept = kept-whole old new s.refused }

pub puts-added : {E : Type 0} (p : Piece) (old new : Draft) (result : Result (Unit {0}) E)
    → Adds (p old.order (length old.bytes)) old new result → Puts p old new result
puts-added p old new (Ok u) s = record { done = s.done.0; order = s.done.1; kept = tt }
puts-added p old new (Err d) s =
    let same = s.refused.0 in
    record {
      done = tt;
      order = ap (λ (w : Draft). w.order) same;
      kept = kept-whole old new (ap (λ (w : Draft). w.bytes) same);
    }

-- ---- what is appended or else nothing

pub appends-two : {E : Type 0} (p q : Piece) (old mid new : Draft)
    → mid.bytes ≡ old.bytes ++ p old.order (length old.bytes) → mid.order ≡ old.order
    → Adds {E = E} (q mid.order (length mid.bytes)) mid new (Ok tt) → Appends {E = E} (p then q) old new (Ok tt)
appends-two p q old mid new e o s =
    let whole = writes-then p q old mid new (Ok tt) e o (writes-added q mid new (Ok tt) s) in
    record { done = whole.done; order = whole.order; refused = tt }

-- what was written of it is cut off
pub appends-none : {E : Type 0} (p : Piece) (old mid last new : Draft) (held : ℕ) (more : List ℕ) (d : E)
    → held ≡ length old.bytes → mid.bytes ≡ old.bytes ++ more → mid.order ≡ old.order → last ≡ mid
    → new ≡ record last { bytes = take held last.bytes } → Appends {E = E} p old new (Err d)
appends-none p old mid last new held more d h e o same cut =
    let front : take held (old.bytes ++ more) ≡ old.bytes = rw h (take_at old.bytes more (length old.bytes) refl) in
    record {
      done = tt;
      order = ap (λ (w : Draft). w.order) cut ∙ ap (λ (w : Draft). w.order) same ∙ o;
      refused =
          ap (λ (w : Draft). w.bytes) cut ∙ ap (λ (w : Draft). take held w.bytes) same ∙ ap (take held) e ∙ front;
    }

pub appends-added : {E : Type 0} (p : Piece) (old new : Draft) (result : Result (Unit {0}) E)
    → Adds (p old.order (length old.bytes)) old new result → Appends p old new result
appends-added p old new (Ok u) s = record { done = s.done.0; order = s.done.1; refused = tt }
appends-added p old new (Err d) s =
    let same = s.refused.0 in
    record {
      done = tt;
      order = ap (λ (w : Draft). w.order) same;
      refused = ap (λ (w : Draft). w.bytes) same;
    }
