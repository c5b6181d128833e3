-- That offers go before one another by an order, and that a sort by it arranges them.
use Rattle.std.proofs.Common.{◌≡◌, ℕ, suc, ℤ, pos, negsuc, zero, Bool, true, false, int_lt, if◌then◌else◌, Option, Some}
use Rattle.std.proofs.Common.{None, refl}
use Rattle.std.specs.Cmp.{IsStrictWeakOrder}
use Rattle.td_lang.specs.declared.expr.Preference.{Preference}
use Rattle.td_lang.specs.declared.expr.Preference.TheVariants as preference
use Rattle.td_value.specs.declared.structures.Offer.{Offer}
use Rattle.td_eval.specs.declared.simple.Simple.{Simple}
use Rattle.td_eval.specs.declared.simple.Simple.TheVariants.{Number, Text, Truth}
use Rattle.td_eval.specs.Ranking.{Fraction, number_of, truth_of, rank_of, descends, comes_first, goes_before}
use Rattle.td_eval.specs.Values.{simple_value}
use Rattle.td_eval.proofs.Scaling.{IsProper, chains, one_sided}

proper_either : (b : Bool) (n : ℤ) (m : ℕ) → IsProper (if b then Some (n, pos (suc m)) else None)
proper_either true n m = (m, refl)
proper_either false n m = tt

proper_if : (n d : ℤ) → IsProper (if int_lt (pos 0) d then Some (n, d) else None)
proper_if n (pos zero) = tt
proper_if n (pos (suc m)) = proper_either (int_lt (pos 0) (pos (suc m))) n m
proper_if n (negsuc m) = tt

proper_number : (o : Option Simple) → IsProper (number_of o)
proper_number None = tt
proper_number (Some (Number n d)) = proper_if n d
proper_number (Some (Text t)) = tt
proper_number (Some (Truth p)) = tt

proper_truth : (o : Option Simple) → IsProper (truth_of o)
proper_truth None = tt
proper_truth (Some (Number n d)) = tt
proper_truth (Some (Text t)) = tt
proper_truth (Some (Truth true)) = (0, refl)
proper_truth (Some (Truth false)) = (0, refl)

proper : (p : Preference) (o : Offer) → IsProper (rank_of p o)
unfolding rank_of
proper preference.Empty o = tt
proper preference.First o = tt
proper preference.Random o = tt
proper (preference.Min e) o = proper_number (simple_value o.properties e)
proper (preference.Max e) o = proper_number (simple_value o.properties e)
proper (preference.With e) o = proper_truth (simple_value o.properties e)

one_way : (descending : Bool) (x y : Option Fraction) → comes_first descending x y ≡ true
    → comes_first descending y x ≡ false
one_way false (Some x) (Some y) h = one_sided x y h
one_way true (Some x) (Some y) h = one_sided y x h
one_way false (Some x) None h = refl
one_way true (Some x) None h = refl
one_way false None y h = absurd (cc)
one_way true None y h = absurd (cc)

chain : (descending : Bool) (x y z : Option Fraction) → IsProper x → IsProper y → IsProper z
    → comes_first descending x y ≡ false → comes_first descending y z ≡ false → comes_first descending x z ≡ false
chain false None y z p q r h k = refl
chain true None y z p q r h k = refl
chain false (Some x) None z p q r h k = absurd (cc)
chain true (Some x) None z p q r h k = absurd (cc)
chain false (Some x) (Some y) None p q r h k = absurd (cc)
chain true (Some x) (Some y) None p q r h k = absurd (cc)
chain false (Some x) (Some y) (Some z) p q r h k = chains x y z p.0 q.0 r.0 p.1 q.1 r.1 h k
chain true (Some x) (Some y) (Some z) p q r h k = chains z y x r.0 q.0 p.0 r.1 q.1 p.1 k h

pub orders : (p : Preference) → IsStrictWeakOrder (goes_before p)
orders p = record {
  one_way = λ x y h. one_way (descends p) (rank_of p x) (rank_of p y) h;
  chain =
      λ x y z h k. chain (descends p) (rank_of p x) (rank_of p y) (rank_of p z) (proper p x) (proper p y) (proper p z) h
      k;
}
