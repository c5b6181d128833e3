-- What one call of a source or a sink and then another moved, for callers that make several.
use Rattle.std.proofs.Common.{ℕ, ◌+◌, ◌≤◌, List, ◌++◌, take, drop, Option, Some, None, sym, ◌∙◌, append_assoc, arith}
use Rattle.std.proofs.Math.Seq.{take-add}
use Rattle.std.specs.Io.KnownBytes.{Consumes, Appends, Keeps}
use Rattle.td_out.specs.Causes.{Rose}

pub Consumes-then : (a b c : Option (List ℕ)) (xs ys : List ℕ) → Consumes a b xs → Consumes b c ys
    → Consumes a c (xs ++ ys)
Consumes-then None b c xs ys p q = tt
Consumes-then (Some u) None c xs ys p q = absurd p
Consumes-then (Some u) (Some v) None xs ys p q = absurd q
Consumes-then (Some u) (Some v) (Some w) xs ys p q = rw (p, q) (sym (append_assoc xs ys w))

pub Appends-then : (a b c : Option (List ℕ)) (xs ys : List ℕ) → Appends a b xs → Appends b c ys → Appends a c (xs ++ ys)
Appends-then None b c xs ys p q = tt
Appends-then (Some u) None c xs ys p q = absurd p
Appends-then (Some u) (Some v) None xs ys p q = absurd q
Appends-then (Some u) (Some v) (Some w) xs ys p q = rw (q, p) (append_assoc u xs ys)

-- the next bytes of a piece, after those that were written
pub Appends-more : (a b c : Option (List ℕ)) (piece : List ℕ) (made n : ℕ) → Appends a b (take made piece)
    → Appends b c (take n (drop made piece)) → Appends a c (take (made + n) piece)
Appends-more a b c piece made n p q = rw take-add (Appends-then a b c _ _ p q)

pub Appends-keeps : (a b c : Option (List ℕ)) (xs : List ℕ) → Appends a b xs → Keeps b c → Appends a c xs
Appends-keeps None b c xs p q = tt
Appends-keeps (Some u) None c xs p q = absurd p
Appends-keeps (Some u) (Some v) None xs p q = absurd q
Appends-keeps (Some u) (Some v) (Some w) xs p q = q ∙ p

-- a count that rose later rose, and one that rose stays so
pub Rose-later : (a b c : ℕ) → a ≤ b → Rose b c → Rose a c
Rose-later a b c p q = omega arith

pub Rose-before : (a b c : ℕ) → Rose a b → b ≤ c → Rose a c
Rose-before a b c p q = omega arith
