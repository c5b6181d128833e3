-- A worked query by what its policies state.
use Rattle.std.proofs.Common.{◌≡◌, ℕ, List, [], ◌∷◌, Some, Result, Ok, codes, refl, ap, ◌∙◌, nat_le, arith}
use Rattle.std.specs.Result.{result_unwrap_or}
use Rattle.td_ops.specs.declared.call.Query.{Query}
use Rattle.td_policy.proofs.ReadBack.{alone, texts_back}
use Rattle.td_policy.specs.Stated.{nothing, stated}
use Rattle.td_policy.specs.Values.{texts}
use Rattle.td_policy.specs.declared.fault.PolicyFault.{PolicyFault}
use Rattle.td_policy.specs.declared.stated.Stated.{Stated}
use Rattle.td_register.specs.Causes.{Cause, with_cause, limit_if, ◌otherwise◌}
use Rattle.td_register.specs.Named.{type_found}
use Rattle.td_trader.specs.Queries.{desired_cause, first_name, preferred_in, refusal, start_cause, unless_fault}
use Rattle.td_trader.specs.QueryExamples.{refusal_of_query, path, printers, three}
use Rattle.td_register.specs.Registers.{asked_in, no_more}

-- why the query is refused whose policies state this
unfoldable pub cause_by : (count : ℕ) → Query → Result Stated PolicyFault → Cause
cause_by count q r =
    with_cause (type_found printers.types.types q.service_type) no_more
    otherwise (with_cause (asked_in q.constraint) no_more
    otherwise with_cause (preferred_in q.preference) no_more
    otherwise with_cause (unless_fault r) no_more)
    otherwise desired_cause q.desired
    otherwise start_cause printers.links q.policies (first_name (result_unwrap_or r nothing))
    otherwise limit_if (nat_le three.begins count)

path_stated : (name : List ℕ) → stated (path name ∷ []) ≡ Ok (record nothing { start = Some (name ∷ []) })
path_stated name =
    alone (texts 64) (λ x s. record s { start = x }) (path name) (name ∷ []) refl
    (texts_back (codes "starting_trader") (name ∷ []) 64 (omega arith))

-- with a path of one name
pub judged-path : (count : ℕ) (q : Query) (name : List ℕ) → q.policies ≡ path name ∷ []
    → refusal_of_query count q ≡ cause_by count q (Ok (record nothing { start = Some (name ∷ []) }))
unfolding refusal cause_by
judged-path count q name is = ap (cause_by count q) (ap stated is ∙ path_stated name)
