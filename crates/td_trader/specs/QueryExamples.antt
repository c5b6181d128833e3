-- Worked examples: queries at a trader with the type Printer and a link `b`, at which three marks may be made.
use Rattle.std.specs.Prelude.{ℕ, true, List, [], ◌∷◌, codes}
use Rattle.td_ior.specs.Nil.{nil}
use Rattle.td_ops.specs.declared.call.Query.{Query}
use Rattle.td_policy.specs.Values.{policy, texts, truth as a_truth}
use Rattle.td_value.specs.declared.enumerations.FollowOption.TheVariants.{IfNoLocal, Always}
use Rattle.td_value.specs.declared.structures.Policy.{Policy}
use Rattle.td_value.specs.declared.unions.SpecifiedProps.TheVariants as desired
use Rattle.td_store.specs.declared.record.LinkRecord.{LinkRecord}
use Rattle.td_register.specs.Causes.{Cause}
use Rattle.td_changes.specs.Examples.{opening}
use Rattle.td_trader.specs.Queries.{refusal}
use Rattle.td_register.specs.Stores.{Store}
use Rattle.td_changes.specs.declared.bounds.Bounds.{Bounds}

abbrev pub three : Bounds
three = record { ring = 2; changes = 1000000; begins = 3 }

abbrev pub link_b : LinkRecord
link_b = record {
  name = codes "b";
  target = nil;
  register = nil;
  def_pass_on = IfNoLocal;
  limiting = Always;
}

abbrev pub printers : Store
printers = record opening { links = link_b ∷ [] }

-- a query for offers of a type, with these policies and these desired names
abbrev pub asks : (type_name constraint : List ℕ) → List Policy → List (List ℕ) → Query
asks type_name constraint policies names = record {
  service_type = type_name;
  constraint = constraint;
  preference = [];
  policies = policies;
  desired = desired.Some names;
  how_many = 10;
}

-- starting_trader, with this one name
abbrev pub path : List ℕ → Policy
path name = policy (texts 64) (codes "starting_trader") (name ∷ [])

-- a policy whose name is none
abbrev pub bad_name_policy : Policy
bad_name_policy = policy a_truth (codes "2x") true

abbrev pub refusal_of_query : (count : ℕ) → Query → Cause
refusal_of_query count q = refusal three count printers q
