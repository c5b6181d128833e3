-- Links as a list in the order of adding.
use Rattle.std.specs.Prelude.{ℕ, Bool, not, if◌then◌else◌, List, find, filter, Option}
use Rattle.std.specs.Str.{bytes_eq}
use Rattle.td_value.specs.declared.enumerations.FollowOption.{FollowOption}
use Rattle.td_store.specs.declared.record.LinkRecord.{LinkRecord}

abbrev pub is_linked : List ℕ → LinkRecord → Bool
is_linked name l = bytes_eq l.name name

-- the link of a name
abbrev pub link_of : List LinkRecord → List ℕ → Option LinkRecord
link_of links name = find (is_linked name) links

-- the links of other names
abbrev pub without_link : List ℕ → List LinkRecord → List LinkRecord
without_link name links = filter (λ l. not (is_linked name l)) links

-- the link in its place, with other rules, if it has the name
abbrev pub with_follow_rules : List ℕ → (def_pass_on limiting : FollowOption) → LinkRecord
    → LinkRecord
with_follow_rules name def_pass_on limiting l =
    if is_linked name l then record l { def_pass_on = def_pass_on; limiting = limiting } else l

abbrev pub most_links : ℕ
most_links = 1024
