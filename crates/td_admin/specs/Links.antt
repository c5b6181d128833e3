-- Links to other traders (OMG's Trading Object Service, interface Link).
use Rattle.std.specs.Prelude.{ℕ, nat_le, nat_lt, Bool, true, not, is_some, if◌then◌else◌, List, [], ◌∷◌, ◌++◌, length}
use Rattle.std.specs.Prelude.{map, Option, None, Some}
use Rattle.td_cdr.specs.Names.{word_name}
use Rattle.td_typecode.specs.declared.reference.Ior.{Ior}
use Rattle.td_exceptions.specs.declared.exception.UserException.TheVariants.{IllegalLinkName, UnknownLinkName}
use Rattle.td_exceptions.specs.declared.exception.UserException.TheVariants.{DuplicateLinkName, InvalidLookupRef}
use Rattle.td_exceptions.specs.declared.exception.UserException.TheVariants.{DefaultFollowTooPermissive}
use Rattle.td_exceptions.specs.declared.exception.UserException.TheVariants.{LimitingFollowTooPermissive}
use Rattle.td_ior.specs.Profiles.{iiop_of}
use Rattle.td_value.specs.Enumerations.{follow_option_number}
use Rattle.td_value.specs.declared.enumerations.FollowOption.{FollowOption}
use Rattle.td_ops.specs.declared.outcome.Outcome.{Outcome}
use Rattle.td_ops.specs.declared.outcome.Outcome.TheVariants.{Done}
use Rattle.td_ops.specs.declared.outcome.Reply.TheVariants as reply
use Rattle.td_store.specs.LinkLists.{link_of, without_link, with_follow_rules, most_links}
use Rattle.td_store.specs.Stores.{link_info_of}
use Rattle.td_store.specs.declared.record.LinkRecord.{LinkRecord}
use Rattle.td_register.specs.Causes.{Cause, OrRefusal, raise, raise_if, limit_if, ◌otherwise◌, there, with_cause, tells}
use Rattle.td_register.specs.Stores.{Store}

-- the link of a name
abbrev pub link_named : List LinkRecord → List ℕ → OrRefusal LinkRecord
link_named links name = if word_name name then there (link_of links name)
    (UnknownLinkName name) else raise (IllegalLinkName name)

-- the first rule permits more than the second
abbrev pub permits_more : FollowOption → FollowOption → Bool
permits_more a b = nat_lt (follow_option_number b) (follow_option_number a)

-- A link's default may not permit more than its limiting rule, nor that more than the trader's maximum.
abbrev pub rules_cause : (maximum def_pass_on limiting : FollowOption) → Cause
rules_cause maximum def_pass_on limiting =
    raise_if (permits_more def_pass_on limiting) (DefaultFollowTooPermissive def_pass_on limiting)
    otherwise raise_if (permits_more limiting maximum)
    (LimitingFollowTooPermissive limiting maximum)

-- ---- add_link

abbrev pub name_cause : List LinkRecord → List ℕ → Cause
name_cause links name =
    raise_if (not (word_name name)) (IllegalLinkName name)
    otherwise raise_if (is_some (link_of links name)) (DuplicateLinkName name)

-- The target is no Lookup that can be reached, or its Register isn't known.
abbrev pub target_cause : Ior → Option Ior → Cause
target_cause target None = raise_if true (InvalidLookupRef target)
target_cause target (Some register) = raise_if (not (is_some (iiop_of target)))
    (InvalidLookupRef target)

abbrev pub add_link_cause : Store → (name : List ℕ) → Ior → (def_pass_on limiting : FollowOption)
    → Option Ior → Cause
add_link_cause s name target def_pass_on limiting register =
    name_cause s.links name
    otherwise target_cause target register
    otherwise rules_cause s.attributes.max_link_follow_policy def_pass_on limiting
    otherwise limit_if (nat_le most_links (length s.links))

-- the link with this register; none is added without one
abbrev pub new_links : (name : List ℕ) → Ior → (def_pass_on limiting : FollowOption) → Option Ior
    → List LinkRecord
new_links name target def_pass_on limiting None = []
new_links name target def_pass_on limiting (Some register) =
    record {
      name = name;
      target = target;
      register = register;
      def_pass_on = def_pass_on;
      limiting = limiting;
    } ∷ []

abbrev pub with_link : Store → (name : List ℕ) → Ior → (def_pass_on limiting : FollowOption)
    → Option Ior → Store
with_link s name target def_pass_on limiting register =
    record s { links = s.links ++ new_links name target def_pass_on limiting register }

-- ---- remove_link

abbrev pub remove_link_cause : Store → List ℕ → Cause
remove_link_cause s name = with_cause (link_named s.links name) (λ l. None)

abbrev pub without_named : Store → List ℕ → Store
without_named s name = record s { links = without_link name s.links }

-- ---- modify_link

abbrev pub modify_link_cause : Store → List ℕ → (def_pass_on limiting : FollowOption) → Cause
modify_link_cause s name def_pass_on limiting =
    with_cause (link_named s.links name)
    (λ l. rules_cause s.attributes.max_link_follow_policy def_pass_on limiting)

abbrev pub with_rules : Store → List ℕ → (def_pass_on limiting : FollowOption) → Store
with_rules s name def_pass_on limiting =
    record s { links = map (with_follow_rules name def_pass_on limiting) s.links }

-- ---- describe_link, list_links

unfoldable pub describe_link : Store → List ℕ → Outcome
describe_link s name = tells (link_named s.links name) (λ l. reply.Link (link_info_of l))

unfoldable pub list_links : Store → Outcome
list_links s = Done (reply.Names (map (λ l. l.name) s.links))
