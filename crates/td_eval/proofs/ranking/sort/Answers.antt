use Rattle.std.proofs.Common.{◌≡◌, rules}
use Rattle.std.proofs.lemmas.Fn.{always_returns_same}
use Rattle.std.specs.Ordering.{is_lt}
use Rattle.td_eval.specs.Ranking.{goes_before}
use Rattle.td_eval.proofs.Ordered.{orders}
use Rattle.td_eval.proofs.ranking.sort.Goals as goal

pub returns : goal.returns
returns c =
    let p = c.args.preference.now in
    record {
      same_offers = c.sort_by.ensures.permutation;
      in_order =
          c.in_ok-sort_by.ensures.sorted (goes_before p) (orders p)
          (always_returns_same _ (λ a r. is_lt r ≡ goes_before p a.0.now a.1.0.now) _ (λ a r f' k. search rules));
      ties_as_they_stood =
          c.in_ok-sort_by.ensures.stable (goes_before p) (orders p)
          (always_returns_same _ (λ a r. is_lt r ≡ goes_before p a.0.now a.1.0.now) _ (λ a r f' k. search rules));
    }
