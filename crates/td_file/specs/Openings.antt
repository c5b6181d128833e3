-- The traders with which a file opens: each has a new trader's store, changed by the trader's entries in order.
use Rattle.std.specs.Prelude.{ℕ, ◌^◌, Bool, false, not, List, [], ◌∷◌, if◌then◌else◌, map, Option, Some}
use Rattle.std.specs.Prelude.{None, Result, Ok, Err}
use Rattle.std.specs.List.{IsDistinct, list_any}
use Rattle.std.specs.Str.{bytes_eq}
use Rattle.td_cdr.specs.Reading.{◌>>=◌}
use Rattle.td_changes.specs.Applying.{apply}
use Rattle.td_changes.specs.Histories.{is_done}
use Rattle.td_changes.specs.declared.bounds.Bounds.{Bounds}
use Rattle.td_lines.specs.Steps.{refusal}
use Rattle.td_lines.specs.declared.cause.LineCause.TheVariants.{Name, Rejected}
use Rattle.td_lines.specs.declared.entry.FileEntry.{FileEntry}
use Rattle.td_lines.specs.declared.entry.FileEntry.TheVariants as entry
use Rattle.td_lines.specs.declared.entry.Numbered.{Numbered}
use Rattle.td_lines.specs.declared.entry.Refused.{Refused}
use Rattle.td_lines.specs.declared.entry.TraderScript.{TraderScript}
use Rattle.td_objects.specs.References.{lookup_reference, register_reference, trader_references}
use Rattle.td_ops.specs.declared.call.Change.{Change}
use Rattle.td_ops.specs.declared.call.Change.TheVariants.{AddLink}
use Rattle.td_policy.specs.Attributes.{default_attributes}
use Rattle.td_register.specs.Causes.{Effect}
use Rattle.td_register.specs.Stores.{Store}
use Rattle.td_trader.specs.PlainTraders.{PlainTrader, new_trader}
use Rattle.td_types.specs.Repository.{InterfaceBases}
use Rattle.td_value.specs.declared.enumerations.FollowOption.{FollowOption}
use Rattle.td_walk.specs.declared.trace.Address.{Address}

-- ---- the entries of one trader

-- A new trader's store: no types but the declared interfaces, no offers, no links, and the attributes as they are where
-- nothing is set.
unfoldable pub new_store : Address → (name : List ℕ) → InterfaceBases → Store
new_store home name interfaces = record {
  types = record { types = []; interfaces = interfaces; last = 0 };
  offers = [];
  links = [];
  attributes = default_attributes name (trader_references home name);
  last_offer = 0;
}

-- A trader of the file is linked by its Lookup, with its own Register.
abbrev pub link_to : Address → (name trader : List ℕ) → (def_pass_on limiting : FollowOption)
    → Change
link_to home name trader def_pass_on limiting =
    AddLink name (lookup_reference home trader) def_pass_on limiting
    (Some (register_reference home trader))

-- the change that an entry asks for
abbrev pub change_of : Address → FileEntry → Change
change_of home (entry.Change c) = c
change_of home (entry.Link name trader def_pass_on limiting) = link_to home name trader def_pass_on
    limiting

-- the store behind the entry of line n, where the operation doesn't refuse it
abbrev pub apply_entry : ℕ → Effect → Result Store Refused
apply_entry n a = if is_done a.outcome then Ok a.store else Err (refusal n Rejected)

-- the store behind an entry
abbrev pub behind : Address → Store → Numbered → Result Store Refused
behind home s one = apply_entry one.line (apply s (change_of home one.entry))

-- the store behind these entries, or the first of them that is refused
abbrev pub store_after : Address → Store → List Numbered → Result Store Refused
store_after home s [] = Ok s
store_after home s (one ∷ others) = behind home s one >>= λ more. store_after home more others

-- ---- traders

abbrev pub bounds : Bounds
bounds = record { ring = 4096; changes = 1000000; begins = 2 ^ 40 }

-- the store with which a trader opens
abbrev pub opening_store : Address → TraderScript → Result Store Refused
opening_store home t = store_after home (new_store home t.name t.interfaces) t.entries

-- a trader in its opening store, with an empty history and no marks
abbrev pub trader_of : Address → TraderScript → Result PlainTrader Refused
trader_of home t = opening_store home t >>= λ s. Ok (new_trader t.name s bounds)

-- these traders, or the first of their entries that is refused
abbrev pub all_traders : Address → List TraderScript → Result (List PlainTrader) Refused
all_traders home [] = Ok []
all_traders home (t ∷ ts) =
    trader_of home t >>= λ first. all_traders home ts >>= λ others. Ok (first ∷ others)

abbrev pub names_in : List TraderScript → List (List ℕ)
names_in ts = map (λ (t : TraderScript). t.name) ts

-- no two have one name
abbrev pub HaveDistinctNames : List TraderScript → Type 0
HaveDistinctNames ts = IsDistinct bytes_eq (names_in ts)

-- ---- links to traders that the file doesn't have

abbrev pub is_known : List ℕ → List TraderScript → Bool
is_known name traders = list_any (λ (t : TraderScript). bytes_eq name t.name) traders

abbrev pub is_missing : List TraderScript → FileEntry → Bool
is_missing all (entry.Change c) = false
is_missing all (entry.Link name trader def_pass_on limiting) = not (is_known trader all)

-- the first line of these entries that links to a missing trader
abbrev pub missing_among : (all : List TraderScript) → List Numbered → Option ℕ
missing_among all [] = None
missing_among all (one ∷ others) = if is_missing all one.entry then Some one.line else missing_among
    all others

abbrev pub or_later : Option ℕ → Option ℕ → Option ℕ
or_later (Some n) later = Some n
or_later None later = later

-- the first line of these traders that does
abbrev pub missing_in : (all : List TraderScript) → List TraderScript → Option ℕ
missing_in all [] = None
missing_in all (t ∷ ts) = or_later (missing_among all t.entries) (missing_in all ts)

-- ---- what is tried once all entries are done

-- The entry that its own lines refuse stands behind all others that were told; a link to a missing trader is refused
-- last.
abbrev pub later_refusal : Option Refused → Option ℕ → Option Refused
later_refusal (Some refused) missing = Some refused
later_refusal None (Some n) = Some (refusal n Name)
later_refusal None None = None
