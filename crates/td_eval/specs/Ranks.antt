-- What ranks an offer, as the code holds it.
use Rattle.td_eval.specs.declared.ranking.Key.{Key}
use Rattle.td_eval.specs.Ranking.{Fraction}

abbrev pub pair : Key → Fraction
pair r = (r.numerator, r.denominator)
