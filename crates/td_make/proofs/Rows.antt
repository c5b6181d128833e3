-- One row more behind those that stand.
use Rattle.std.proofs.Common.{◌≡◌, ℕ, suc, ◌+◌, List, ◌++◌, Result, Ok, Err, OnOk, append_assoc, refl, sym, ap, subst}
use Rattle.std.proofs.Common.{◌∙◌, arith}
use Rattle.td_make.specs.Generated.{first_offers, first_traders, offer_lines, trader_lines}

-- two pieces, one after the other
pub two-pieces : {A E : Type 0} (start a first b second here next : List ℕ) (r : Result A E) → a ≡ first → b ≡ second
    → here ≡ start ++ a → OnOk r (next ≡ here ++ b) → OnOk r (next ≡ start ++ (first ++ second))
two-pieces start a first b second here next (Ok x) p q put h =
    h
    ∙ (ap (λ (t : List ℕ). t ++ b) put
    ∙ (append_assoc start a b
    ∙ (ap (λ (t : List ℕ). start ++ (t ++ b)) p ∙ ap (λ (t : List ℕ). start ++ (first ++ t)) q)))
two-pieces start a first b second here next (Err e) p q put h = tt

one-more : (start rows text next row all : List ℕ) → text ≡ start ++ rows → next ≡ text ++ row → all ≡ rows ++ row
    → next ≡ start ++ all
one-more start rows text next row all here put is =
    put
    ∙ (ap (λ (x : List ℕ). x ++ row) here
    ∙ (append_assoc start rows row ∙ ap (λ (x : List ℕ). start ++ x) (sym is)))

more-offers : (trader done : ℕ)
    → first_offers trader (done + 1) ≡ first_offers trader done ++ offer_lines trader (done + 1)
more-offers trader done =
    let e : suc done ≡ done + 1 = omega arith in
    subst (λ (n : ℕ). first_offers trader n ≡ first_offers trader done ++ offer_lines trader n) e refl

pub one-offer-more : (trader done : ℕ) (start text next : List ℕ) → text ≡ start ++ first_offers trader done
    → next ≡ text ++ offer_lines trader (done + 1) → next ≡ start ++ first_offers trader (done + 1)
one-offer-more trader done start text next here put =
    one-more start (first_offers trader done) text next (offer_lines trader (done + 1))
    (first_offers trader (done + 1)) here put (more-offers trader done)

more-traders : (count done : ℕ)
    → first_traders count (done + 1) ≡ first_traders count done ++ trader_lines count (done + 1)
more-traders count done =
    let e : suc done ≡ done + 1 = omega arith in
    subst (λ (n : ℕ). first_traders count n ≡ first_traders count done ++ trader_lines count n) e refl

pub one-trader-more : (count done : ℕ) (start text next : List ℕ) → text ≡ start ++ first_traders count done
    → next ≡ text ++ trader_lines count (done + 1) → next ≡ start ++ first_traders count (done + 1)
one-trader-more count done start text next here put =
    one-more start (first_traders count done) text next (trader_lines count (done + 1))
    (first_traders count (done + 1)) here put (more-traders count done)
