-- The parameters of a query.
use Rattle.std.specs.Prelude.{ℕ, List, [], ◌∷◌, Option, Some}
use Rattle.td_ior.specs.Keys.{◌>>=◌}
use Rattle.td_ops.specs.declared.call.Query.{Query}
use Rattle.td_cli_args.specs.Wishes.{AskedQuery}
use Rattle.td_value.specs.declared.structures.Policy.{Policy}
use Rattle.td_value.specs.declared.unions.SpecifiedProps.{SpecifiedProps}
use Rattle.td_value.specs.declared.unions.SpecifiedProps.TheVariants as props
use Rattle.td_cli_request.specs.Given.{how_many_in}
use Rattle.td_cli_request.specs.Policies.{policies_in}

-- the properties of these names, or all where there is no name
abbrev pub desired_of : List (List ℕ) → SpecifiedProps
desired_of [] = props.All
desired_of (name ∷ names) = props.Some (name ∷ names)

abbrev pub query_with : AskedQuery → ℕ → List Policy → Query
query_with q how_many policies = record {
  service_type = q.service;
  constraint = q.constraint;
  preference = q.preference;
  policies = policies;
  desired = desired_of q.names;
  how_many = how_many;
}

abbrev pub query_in : AskedQuery → Option Query
query_in q = do
  how_many ← how_many_in q.how_many
  policies ← policies_in q
  Some (query_with q how_many policies)
