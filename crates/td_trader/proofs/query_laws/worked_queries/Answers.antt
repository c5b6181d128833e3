use Rattle.std.proofs.Common.{[], ◌∷◌, codes, refl}
use Rattle.td_lang.specs.Lexing.{number_at, token_at}
use Rattle.td_changes.specs.Applying.{comes_to}
use Rattle.td_changes.specs.Examples.{printer}
use Rattle.td_trader.specs.Queries.{refusal}
use Rattle.td_trader.specs.QueryExamples.{asks, path}
use Rattle.td_types.specs.Calls.{mask_type as mask}
use Rattle.td_trader.proofs.Worked.{cause_by, judged-path}
use Rattle.td_trader.proofs.query_laws.worked_queries.Goals as goal

pub returns-clause-masked : goal.returns-clause-masked
unfolding refusal comes_to mask
returns-clause-masked c = refl

pub returns-clause-illegal : goal.returns-clause-illegal
unfolding refusal
returns-clause-illegal c = refl

pub returns-clause-unknown : goal.returns-clause-unknown
unfolding refusal
returns-clause-unknown c = refl

pub returns-clause-constraint : goal.returns-clause-constraint
unfolding refusal token_at number_at
returns-clause-constraint c = refl

pub returns-clause-policy : goal.returns-clause-policy
unfolding refusal
returns-clause-policy c = refl

pub returns-clause-taken : goal.returns-clause-taken
unfolding cause_by
returns-clause-taken c = judged-path 2 (asks printer [] (path (codes "b") ∷ []) (codes "Cost" ∷ [])) (codes "b") refl

pub returns-clause-desired : goal.returns-clause-desired
unfolding cause_by
returns-clause-desired c = judged-path 3 (asks printer [] (path (codes "c") ∷ []) (codes "2x" ∷ [])) (codes "c") refl

pub returns-clause-start : goal.returns-clause-start
unfolding cause_by
returns-clause-start c = judged-path 3 (asks printer [] (path (codes "c") ∷ []) (codes "Cost" ∷ [])) (codes "c") refl

pub returns-clause-limit : goal.returns-clause-limit
unfolding cause_by
returns-clause-limit c = judged-path 3 (asks printer [] (path (codes "b") ∷ []) (codes "Cost" ∷ [])) (codes "b") refl
