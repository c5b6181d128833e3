-- Contexts that are passed over.
use Rattle.std.proofs.Common.{◌≡◌, ℕ, suc, ◌+◌, ◌-◌, ◌<◌, List, ◌∷◌, Ok, Err, refl, sym, ◌∙◌, arith}
use Rattle.td_cdr.specs.Place.{At}
use Rattle.td_cdr.specs.Format.{Format, Read, ◌>>=◌, array_format}
use Rattle.td_giop.specs.Heads.{skip_value}

abbrev behind : {F X : Type 0} → X → Read F (List X) → Read F (X × List X)
behind x s = s >>= λ y. Ok ((x, y.0), y.1)

passed-more : {F X : Type 0} (x : X) (s : Read F (List X))
    → skip_value (behind x s >>= λ p. Ok (p.0.0 ∷ p.0.1, p.1)) ≡ skip_value s
passed-more x (Ok y) = refl
passed-more x (Err e) = refl

-- once one more was passed over, one fewer is left
pub goes_on : {F X : Type 0} (g : Format F X) (count turn : ℕ) (a b : At) (x : X) (total : Read F (Unit {0}))
    → turn < count → g.reads a ≡ Ok (x, b) → skip_value ((array_format g (count - turn)).reads a) ≡ total
    → skip_value ((array_format g (count - (turn + 1))).reads b) ≡ total
goes_on g count turn a b x total lt read so_far =
    let left : count - turn ≡ suc (count - (turn + 1)) = omega arith in
    let one : skip_value ((array_format g (count - turn)).reads a)
    ≡ skip_value ((array_format g (count - (turn + 1))).reads b) =
    rw (left, read) (passed-more x ((array_format g (count - (turn + 1))).reads b)) in
    sym one ∙ so_far
