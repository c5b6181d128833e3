-- What the functions behind a new link answer.
use Rattle.std.specs.Prelude.{◌≡◌, ℕ, ◌<◌, ◌≤◌, List, [], ◌∷◌, ◌++◌, length, Option, None, Result, Ok, Err}
use Rattle.td_typecode.specs.declared.reference.Ior.{Ior}
use Rattle.td_store.specs.LinkLists.{link_of, most_links}
use Rattle.td_store.specs.declared.record.LinkRecord.{LinkRecord}
use Rattle.td_value.specs.declared.enumerations.FollowOption.{FollowOption}
use Rattle.td_register.specs.Causes.{Cause, ◌otherwise◌}
use Rattle.td_register.specs.Judged.{IsMet}
use Rattle.td_admin.specs.Links.{name_cause, new_links, rules_cause, target_cause}
use Rattle.td_register.specs.Stores.{Store}
use Rattle.td_register.specs.declared.refusal.Fault.{Fault}
use Rattle.td_register.specs.declared.refusal.Fault.TheVariants.{Refused, Memory}
use Rattle.td_register.specs.declared.refusal.Refusal.TheVariants.{Limit}

-- what may be at fault with a new link besides the number of links
abbrev pub link_cause : Store → (name : List ℕ) → Ior → (def_pass_on limiting : FollowOption)
    → Option Ior → Cause
link_cause s name target def_pass_on limiting register =
    name_cause s.links name
    otherwise target_cause target register
    otherwise rules_cause s.attributes.max_link_follow_policy def_pass_on limiting

-- the link, of a new name; or what is at fault
abbrev pub IsNewLink : Store → (name : List ℕ) → Ior → (def_pass_on limiting : FollowOption)
    → Option Ior → Result LinkRecord Fault → Type 0
IsNewLink s name target def_pass_on limiting register (Ok l) =
    (link_cause s name target def_pass_on limiting register ≡ None)
    × (link_of s.links l.name ≡ None)
    × (new_links name target def_pass_on limiting register ≡ l ∷ [])
IsNewLink s name target def_pass_on limiting register (Err f) =
    IsMet (link_cause s name target def_pass_on limiting register) f

-- The link came last; or there are as many links as may be, or memory ran out, and nothing changed.
abbrev pub IsLinked : {X : Type 0} → LinkRecord → (old new : Store) → Result X Fault → Type 0
IsLinked l old new (Ok x) = (length old.links < most_links)
    × (new ≡ record old { links = old.links ++ l ∷ [] })
IsLinked l old new (Err (Refused f)) = (most_links ≤ length old.links) × (f ≡ Limit) × (new ≡ old)
IsLinked l old new (Err Memory) = new ≡ old
