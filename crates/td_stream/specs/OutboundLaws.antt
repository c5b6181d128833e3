-- Puts in a row.
use Rattle.std.proofs.Common.{◌≡◌, ℕ, ◌+◌, ◌≤◌, Bool, true, false, List, [], ◌++◌, length, take, refl, sym, ap}
use Rattle.std.proofs.Common.{◌∙◌, subst, append_assoc, append-nil, length-append, arith}
use Rattle.std.proofs.KnownBytes.{Appends-nil, Appends-trans}
use Rattle.std.proofs.Math.Seq.{take-append-add}
use Rattle.std.proofs.lemmas.List.{take-append-le}
use Rattle.std.specs.Io.KnownBytes.{Appends}
use Rattle.td_out.specs.Causes.{Rose}
use Rattle.td_stream.specs.Outbound.{Outbound, SendsBytes, Misses, SendsOrMisses, PutsReply}

sends_none : (a : Outbound) → SendsBytes [] a a
sends_none a = record { sent = []; gave = Appends-nil a.written; rest = sym (append-nil a.held) }

moves_none : (a : Outbound) (b : Bool) → SendsOrMisses b b [] a a
moves_none a true = (Appends-nil a.written, refl)
moves_none a false = sends_none a

-- nothing was put
pub puts-none : (a : Outbound) → PutsReply [] a a
puts-none a = record { moves = moves_none a a.failed; later = omega arith }

sends_then : (a b c : Outbound) (xs ys : List ℕ) → SendsBytes xs a b → SendsBytes ys b c
    → SendsBytes (xs ++ ys) a c
sends_then a b c xs ys p q = record {
  sent = p.sent ++ q.sent;
  gave = Appends-trans a.written b.written c.written p.sent q.sent p.gave q.gave;
  rest =
      append_assoc p.sent q.sent c.held ∙ ap (λ l. p.sent ++ l) q.rest
      ∙ sym (append_assoc p.sent b.held ys) ∙ ap (λ l. l ++ ys) p.rest ∙ append_assoc a.held xs ys;
}

sends_misses : (a b c : Outbound) (xs ys : List ℕ) → SendsBytes xs a b → Misses ys b c
    → a.writes ≤ b.writes → Misses (xs ++ ys) a c
sends_misses a b c xs ys p q later =
    let whole : p.sent ++ (b.held ++ ys) ≡ a.held ++ (xs ++ ys) =
    sym (append_assoc p.sent b.held ys) ∙ ap (λ l. l ++ ys) p.rest ∙ append_assoc a.held xs ys in
    let size : length (p.sent ++ (b.held ++ ys)) ≡ length p.sent + length (b.held ++ ys) =
    length-append p.sent (b.held ++ ys) in
    let front : p.sent ++ take q.sent (b.held ++ ys)
    ≡ take (length p.sent + q.sent) (a.held ++ (xs ++ ys)) =
    sym (take-append-add p.sent (b.held ++ ys) q.sent) ∙ ap (take (length p.sent + q.sent)) whole in
    record {
      sent = length p.sent + q.sent;
      short = let short = q.short in omega (arith, size, ap (length {A = ℕ}) whole);
      gave =
          subst (λ l. Appends a.written c.written l) front
          (Appends-trans a.written b.written c.written p.sent (take q.sent (b.held ++ ys))
          p.gave q.gave);
      rose = let rose : Rose b.writes c.writes = q.rose in let r : Rose a.writes c.writes = omega
          arith in r;
    }

misses_stays : (a b c : Outbound) (xs ys : List ℕ) → Misses xs a b → Appends b.written c.written []
    → c.writes ≡ b.writes → Misses (xs ++ ys) a c
misses_stays a b c xs ys p gave same =
    let longer : a.held ++ (xs ++ ys) ≡ (a.held ++ xs) ++ ys = sym (append_assoc a.held xs ys) in
    let size : length ((a.held ++ xs) ++ ys) ≡ length (a.held ++ xs)
    + length ys = length-append (a.held ++ xs) ys in
    let front : take p.sent (a.held ++ xs) ++ [] ≡ take p.sent (a.held ++ (xs ++ ys)) =
    append-nil (take p.sent (a.held ++ xs))
    ∙ sym (take-append-le p.sent (a.held ++ xs) ys (let short = p.short in omega arith))
    ∙ ap (take p.sent) (sym longer) in
    record {
      sent = p.sent;
      short = let short = p.short in omega (arith, size, ap (length {A = ℕ}) longer);
      gave =
          subst (λ l. Appends a.written c.written l) front
          (Appends-trans a.written b.written c.written (take p.sent (a.held ++ xs)) [] p.gave gave);
      rose = rw same p.rose;
    }

moves_then : (a b c : Outbound) (p q r : Bool) (xs ys : List ℕ) → SendsOrMisses p q xs a b
    → SendsOrMisses q r ys b c → a.writes ≤ b.writes → SendsOrMisses p r (xs ++ ys) a c
moves_then a b c false false false xs ys m n later = sends_then a b c xs ys m n
moves_then a b c false false true xs ys m n later = sends_misses a b c xs ys m n later
moves_then a b c false true true xs ys m n later = misses_stays a b c xs ys m n.0 n.1
moves_then a b c false true false xs ys m n later = absurd n
moves_then a b c true true true xs ys m n later =
    (Appends-trans a.written b.written c.written [] [] m.0 n.0, n.1 ∙ m.1)
moves_then a b c true true false xs ys m n later = absurd n
moves_then a b c true false r xs ys m n later = absurd m

-- one after the other
pub puts-then : (xs ys : List ℕ) (a b c : Outbound) → PutsReply xs a b → PutsReply ys b c
    → PutsReply (xs ++ ys) a c
puts-then xs ys a b c p q = record {
  moves = moves_then a b c a.failed b.failed c.failed xs ys p.moves q.moves p.later;
  later = let l = p.later in let m = q.later in omega arith;
}
