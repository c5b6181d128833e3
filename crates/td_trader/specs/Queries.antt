-- Whether a query is taken, and what it states (OMG's Trading Object Service, "Lookup Interface", query and its
-- exceptions, and "Policies").
use Rattle.std.specs.Prelude.{◌≡◌, ℕ, nat_le, List, [], ◌∷◌, find, slice_get, codes, Option, None, Some, option_map}
use Rattle.std.specs.Prelude.{option_and_then, Result, Ok, Err}
use Rattle.std.specs.Result.{result_unwrap_or}
use Rattle.std.specs.Str.{bytes_eq}
use Rattle.td_exceptions.specs.declared.exception.UserException.TheVariants as user
use Rattle.td_lang.specs.Constraints.{constraint_of}
use Rattle.td_lang.specs.Preferences.{preference_of}
use Rattle.td_lang.specs.declared.expr.Constraint.TheVariants as constraint
use Rattle.td_lang.specs.declared.expr.Preference.{Preference}
use Rattle.td_lang.specs.declared.expr.Preference.TheVariants as preference
use Rattle.td_lang.specs.declared.fault.LangFault.{LangFault}
use Rattle.td_ops.specs.declared.call.Query.{Query}
use Rattle.td_policy.specs.Stated.{nothing, stated}
use Rattle.td_policy.specs.declared.fault.PolicyFault.{PolicyFault}
use Rattle.td_policy.specs.declared.fault.PolicyFault.TheVariants as fault
use Rattle.td_policy.specs.declared.stated.Stated.{Stated}
use Rattle.td_value.specs.declared.structures.Policy.{Policy}
use Rattle.td_value.specs.declared.unions.SpecifiedProps.{SpecifiedProps}
use Rattle.td_value.specs.declared.unions.SpecifiedProps.TheVariants as desired
use Rattle.td_store.specs.LinkLists.{link_of}
use Rattle.td_store.specs.declared.record.LinkRecord.{LinkRecord}
use Rattle.td_register.specs.Causes.{Cause, OrRefusal, raise, with_cause, limit_if, ◌otherwise◌}
use Rattle.td_register.specs.Named.{type_found}
use Rattle.td_register.specs.Properties.{name_cause}
use Rattle.td_register.specs.Registers.{asked_in, no_more}
use Rattle.td_register.specs.Stores.{Store}
use Rattle.td_changes.specs.declared.bounds.Bounds.{Bounds}
use Rattle.td_trader.specs.declared.query.Parts.{Parts}
use Rattle.td_register.specs.declared.refusal.Refusal.{Refusal}
use Rattle.td_register.specs.declared.refusal.Refusal.TheVariants.{Raised, Limit}

-- ---- its texts and policies

abbrev pub preference_found : List ℕ → Result Preference LangFault → OrRefusal Preference
preference_found text (Ok p) = Ok p
preference_found text (Err f) = raise (user.IllegalPreference text)

-- the preference of a text
abbrev pub preferred_in : List ℕ → OrRefusal Preference
preferred_in text = preference_found text (preference_of text)

-- As they are defined, policies come to no lack of memory (law `policies_never_run_out_of_memory` of td_policy), so
-- the last line is never met.
abbrev pub policy_refusal : PolicyFault → Refusal
policy_refusal (fault.DuplicatePolicyName name) = Raised (user.DuplicatePolicyName name)
policy_refusal (fault.IllegalPolicyName name) = Raised (user.IllegalPolicyName name)
policy_refusal (fault.PolicyTypeMismatch policy) = Raised (user.PolicyTypeMismatch policy)
policy_refusal (fault.InvalidPolicyValue policy) = Raised (user.InvalidPolicyValue policy)
policy_refusal fault.Memory = Limit

abbrev pub unless_fault : Result Stated PolicyFault → OrRefusal Stated
unless_fault (Ok s) = Ok s
unless_fault (Err f) = Err (policy_refusal f)

-- what the policies state
abbrev pub stated_in : List Policy → OrRefusal Stated
stated_in policies = unless_fault (stated policies)

-- What a query says by its texts and its policies. A query is refused where one of these says nothing; this part is
-- empty then.
abbrev pub parts_of : Query → Parts
parts_of q = record {
  constraint = result_unwrap_or (constraint_of q.constraint) constraint.Empty;
  preference = result_unwrap_or (preference_of q.preference) preference.Empty;
  stated = result_unwrap_or (stated q.policies) nothing;
}

-- a text or a policy that says nothing
abbrev pub parts_cause : Query → Cause
parts_cause q =
    with_cause (asked_in q.constraint) no_more
    otherwise with_cause (preferred_in q.preference) no_more
    otherwise with_cause (stated_in q.policies) no_more

-- ---- the properties that it asks for

abbrev pub names_cause : (before : List (List ℕ)) → List (List ℕ) → Cause
names_cause before [] = None
names_cause before (name ∷ names) = name_cause before name otherwise names_cause (name ∷ before)
    names

abbrev pub desired_cause : SpecifiedProps → Cause
desired_cause desired.None = None
desired_cause (desired.Some names) = names_cause [] names
desired_cause desired.All = None

-- ---- where it starts

-- the first name of starting_trader, where this is stated and has one
abbrev pub first_name : Stated → Option (List ℕ)
first_name s = option_and_then (λ names. slice_get names 0) s.start

-- the link over which a query goes on that starts at another trader
abbrev pub path_link : List LinkRecord → Stated → Option LinkRecord
path_link links s = option_and_then (link_of links) (first_name s)

-- starting_trader, as it is stated
abbrev pub start_policy : List Policy → Option Policy
start_policy policies = find (λ p. bytes_eq p.name (codes "starting_trader")) policies

-- Where no link has the first name, the policy may not stand there.
abbrev pub link_cause : List Policy → Option LinkRecord → Cause
link_cause policies (Some l) = None
link_cause policies None = option_map (λ p. Raised (user.InvalidPolicyValue p))
    (start_policy policies)

abbrev pub start_cause : List LinkRecord → List Policy → (first : Option (List ℕ)) → Cause
start_cause links policies None = None
start_cause links policies (Some name) = link_cause policies (link_of links name)

-- ---- all together

-- what else is at fault with a query whose policies state this
abbrev pub others_cause : Bounds → (count : ℕ) → List LinkRecord → Query → Stated → Cause
others_cause bounds count links q s =
    desired_cause q.desired
    otherwise start_cause links q.policies (first_name s)
    otherwise limit_if (nat_le bounds.begins count)

-- why a query is refused at a trader that made so many marks, if it is: the first cause in this order
unfoldable pub refusal : Bounds → (count : ℕ) → Store → Query → Cause
refusal bounds count s q =
    with_cause (type_found s.types.types q.service_type) no_more
    otherwise parts_cause q
    otherwise others_cause bounds count s.links q (parts_of q).stated

-- ---- what holds of a query that is taken

-- the policies of a query that isn't refused can be read
abbrev pub TakenQueriesAreRead : Type 0
TakenQueriesAreRead =
    (bounds : Bounds) (count : ℕ) (s : Store) (q : Query) → refusal bounds count s q ≡ None
    → stated q.policies ≡ Ok (parts_of q).stated

-- ---- what holds of a path

-- starting_trader is refused as it is stated
pub record RefusesStart (policies : List Policy) (cause : Cause) : Type 0 where
  pub policy : Policy
  pub stated_so : start_policy policies ≡ Some policy
  pub refused : cause ≡ Some (Raised (user.InvalidPolicyValue policy))

-- a path whose first name no link has is refused
abbrev pub UnknownStartsAreRefused : Type 0
UnknownStartsAreRefused =
    (links : List LinkRecord) (policies : List Policy) (s : Stated) (name : List ℕ)
    → stated policies ≡ Ok s → first_name s ≡ Some name → link_of links name ≡ None
    → RefusesStart policies (start_cause links policies (first_name s))
