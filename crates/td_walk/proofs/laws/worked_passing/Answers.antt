use Rattle.std.proofs.Common.{◌≡◌, ℕ, Some, refl, sym, ◌∙◌, codes}
use Rattle.td_policy.proofs.ReadBack.{number_back}
use Rattle.td_policy.specs.Values.{number}
use Rattle.td_walk.specs.Passing.{hop_policy, card_policy, number_in}
use Rattle.td_walk.proofs.Held.{held}
use Rattle.td_walk.proofs.laws.worked_passing.Goals as goal

-- a hop count that was written is read back
read : (n : ℕ) → number_in (hop_policy n) ≡ Some n
read n = let h = held number (hop_policy n) (Some n) (number_back (codes "hop_count") n) in h.2 ∙ sym h.1

-- and so is a number of offers
read-card : (n : ℕ) → number_in (card_policy n) ≡ Some n
read-card n = let h = held number (card_policy n) (Some n) (number_back (codes "return_card") n) in h.2 ∙ sym h.1

pub returns : goal.returns
returns c = record {
  over_a_link = refl;
  added = refl;
  renamed = refl;
  wanted = refl;
  fewer_wanted = refl;
  as_stated = refl;
  along_two = refl;
  along_one = refl;
  more_hops = rw (read 2, read 7) refl;
  fewer_hops = rw (read 2, read 1) refl;
  more_offers = rw (read-card 3, read-card 7) refl;
  fewer_offers = rw (read-card 3, read-card 2) refl;
  any_offers = refl;
  others = refl;
}
