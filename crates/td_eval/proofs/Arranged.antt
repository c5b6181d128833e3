-- There is one arrangement, and it has the same offers.
use Rattle.std.proofs.Common.{◌≡◌, ℕ, zero, suc, ◌+◌, ◌-◌, ◌%◌, ◌<◌, List, [], ◌∷◌, length, refl, sym, subst, arith}
use Rattle.std.specs.List.{swap}
use Rattle.std.specs.List.Sorted.{IsPermutation}
use Rattle.std.proofs.lemmas.List.Sorted.{IsPermutation-refl, IsPermutation-swap, IsPermutation-trans}
use Rattle.std.proofs.lemmas.List.Sorted.{length_permutation}
use Rattle.td_lang.specs.declared.expr.Preference.{Preference}
use Rattle.td_lang.specs.declared.expr.Preference.TheVariants as preference
use Rattle.td_value.specs.declared.structures.Offer.{Offer}
use Rattle.td_eval.specs.Ranking.{shuffle_of, IsRanked}

below_place : (n i : ℕ) → n % (suc i + 1) < suc i + 1
below_place n i = omega arith

exchanges : (word : ℕ → ℕ) (k i : ℕ) (offers : List Offer) → i < length offers
    → IsPermutation offers (shuffle_of word k i offers)
exchanges word k zero offers h = IsPermutation-refl offers
exchanges word k (suc i) offers h =
    let other = word k % (suc i + 1) in
    let low : other < length offers = let b = below_place (word k) i in omega arith in
    let one : IsPermutation offers (swap offers (suc i) other) = IsPermutation-swap offers _ (suc i) other h low refl in
    let more : i < length (swap offers (suc i) other) = let l = length_permutation _ _ one in omega arith in
    IsPermutation-trans _ _ _ one (exchanges word (k + 1) i (swap offers (suc i) other) more)

all_exchanges : (word : ℕ → ℕ) (offers : List Offer)
    → IsPermutation offers (shuffle_of word 0 (length offers - 1) offers)
all_exchanges word [] = IsPermutation-refl []
all_exchanges word (o ∷ offers) = exchanges word 0 (length (o ∷ offers) - 1) (o ∷ offers) (omega arith)

same : (xs ys : List Offer) → ys ≡ xs → IsPermutation xs ys
same xs ys h = subst (IsPermutation xs) (sym h) (IsPermutation-refl xs)

pub same_offers : (p : Preference) (word : ℕ → ℕ) (offers ranked : List Offer) → IsRanked p word offers ranked
    → IsPermutation offers ranked
same_offers preference.Empty word offers ranked h = same offers ranked h
same_offers preference.First word offers ranked h = same offers ranked h
same_offers preference.Random word offers ranked h = subst (IsPermutation offers) (sym h) (all_exchanges word offers)
same_offers (preference.Min e) word offers ranked h = h.same_offers
same_offers (preference.Max e) word offers ranked h = h.same_offers
same_offers (preference.With e) word offers ranked h = h.same_offers
