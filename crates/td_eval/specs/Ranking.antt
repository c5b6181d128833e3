-- Trading Object Service, "Preferences".
-- In which order offers are wanted.
use Rattle.std.specs.Prelude.{◌≡◌, ℕ, zero, suc, ◌+◌, ◌-◌, ◌%◌, ℤ, pos, ◌*ℤ◌, int_lt, Bool, true, false, if◌then◌else◌}
use Rattle.std.specs.Prelude.{List, length, Option, None, Some}
use Rattle.std.specs.List.{swap}
use Rattle.std.specs.List.Sorted.{IsPermutation, IsSortedBy, IsStableBy}
use Rattle.td_lang.specs.declared.expr.Preference.{Preference}
use Rattle.td_lang.specs.declared.expr.Preference.TheVariants as preference
use Rattle.td_value.specs.declared.structures.Offer.{Offer}
use Rattle.td_eval.specs.declared.simple.Simple.{Simple}
use Rattle.td_eval.specs.declared.simple.Simple.TheVariants.{Number, Truth}
use Rattle.td_eval.specs.Values.{simple_value}

-- a fraction by its numerator and its denominator
abbrev pub Fraction : Type 0
Fraction = ℤ × ℤ

-- a denominator is positive
abbrev pub number_of : Option Simple → Option Fraction
number_of (Some (Number n d)) = if int_lt (pos 0) d then Some (n, d) else None
number_of x = None

-- FALSE below TRUE
abbrev pub truth_of : Option Simple → Option Fraction
truth_of (Some (Truth true)) = Some (pos 1, pos 1)
truth_of (Some (Truth false)) = Some (pos 0, pos 1)
truth_of x = None

-- what ranks an offer, where the preference's expression gives it
unfoldable pub rank_of : Preference → Offer → Option Fraction
rank_of (preference.Min e) o = number_of (simple_value o.properties e)
rank_of (preference.Max e) o = number_of (simple_value o.properties e)
rank_of (preference.With e) o = truth_of (simple_value o.properties e)
rank_of p o = None

-- whether the greater rank comes first
abbrev pub descends : Preference → Bool
descends (preference.Max e) = true
descends (preference.With e) = true
descends p = false

-- a/b is less than c/d where ad is less than cb
abbrev pub is_less : Fraction → Fraction → Bool
is_less x y = int_lt (x.0 *ℤ y.1) (y.0 *ℤ x.1)

-- an offer without a rank comes after those that have one
abbrev pub comes_first : Bool → Option Fraction → Option Fraction → Bool
comes_first false (Some x) (Some y) = is_less x y
comes_first true (Some x) (Some y) = is_less y x
comes_first descending (Some x) None = true
comes_first descending None y = false

abbrev pub goes_before : Preference → Offer → Offer → Bool
goes_before p x y = comes_first (descends p) (rank_of p x) (rank_of p y)

-- in order, and offers of which neither goes before the other as they stood
pub record IsArranged (p : Preference) (offers arranged : List Offer) : Type 0 where
  pub same_offers : IsPermutation offers arranged
  pub in_order : IsSortedBy (goes_before p) arranged
  pub ties_as_they_stood : IsStableBy (goes_before p) offers arranged

-- from a place down to place 1 a word is drawn for each, the first of them of this number, and the offers at the place
-- and at the word's remainder by the place's number, counted from 1, are exchanged
abbrev pub shuffle_of : (ℕ → ℕ) → ℕ → ℕ → List Offer → List Offer
shuffle_of word k zero offers = offers
shuffle_of word k (suc i) offers = shuffle_of word (k + 1) i
    (swap offers (suc i) (word k % (suc i + 1)))

-- how many words a preference draws
abbrev pub draw_count : Preference → ℕ → ℕ
draw_count preference.Random count = count - 1
draw_count p count = 0

-- the arrangement of offers, by the words to come
abbrev pub IsRanked : Preference → (ℕ → ℕ) → List Offer → List Offer → Type 0
IsRanked preference.Empty word offers ranked = ranked ≡ offers
IsRanked preference.First word offers ranked = ranked ≡ offers
IsRanked preference.Random word offers ranked = ranked
    ≡ shuffle_of word 0 (length offers - 1) offers
IsRanked p word offers ranked = IsArranged p offers ranked
