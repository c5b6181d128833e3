-- What a generated file says.
use Rattle.std.specs.Prelude.{◌≡◌, ℕ, zero, suc, ◌≤◌, List, [], ◌∷◌, ◌++◌, codes, map, Some, None}
use Rattle.td_typecode.specs.declared.code.TypeCode.TheVariants as code
use Rattle.td_typecode.specs.declared.code.Value.TheVariants as value
use Rattle.td_typecode.specs.declared.reference.Ior.{Ior}
use Rattle.td_ior.specs.Profiles.{made_reference}
use Rattle.td_lines.specs.Scripts.{script_of}
use Rattle.td_lines.specs.declared.entry.FileEntry.{FileEntry}
use Rattle.td_lines.specs.declared.entry.FileEntry.TheVariants as entry
use Rattle.td_lines.specs.declared.entry.Home.{Home}
use Rattle.td_lines.specs.declared.entry.Numbered.{Numbered}
use Rattle.td_lines.specs.declared.entry.Script.{Script}
use Rattle.td_lines.specs.declared.entry.TraderScript.{TraderScript}
use Rattle.td_make.specs.Generated.{chord_after, cost, generated_file, next_after, offer_type}
use Rattle.td_ops.specs.declared.call.Change.TheVariants as change
use Rattle.td_forms.specs.Counted.{label_number}
use Rattle.td_value.specs.declared.enumerations.FollowOption.TheVariants.{Always}
use Rattle.td_value.specs.declared.enumerations.PropertyMode.TheVariants.{Mandatory}
use Rattle.td_value.specs.declared.structures.PropStruct.{PropStruct}
use Rattle.td_value.specs.declared.structures.Property.{Property}

abbrev pub name_of : (trader : ℕ) → List ℕ
name_of trader = label_number (codes "T") trader

-- the names of the first so many traders
abbrev pub first_names : ℕ → List (List ℕ)
first_names zero = []
first_names (suc done) = first_names done ++ name_of (suc done) ∷ []

abbrev pub local_host : Home
local_host = record { host = codes "127.0.0.1"; port = 2809; minor = 0 }

-- ---- what is asked of a trader

-- a type with a cost, and a subtype of it
abbrev pub cost_demanded : PropStruct
cost_demanded = record { name = codes "Cost"; value_type = code.ULong; mode = Mandatory }

abbrev pub type_entries : List FileEntry
type_entries =
    entry.Change (change.AddType (codes "Base") [] (cost_demanded ∷ []) [])
    ∷ entry.Change (change.AddType (codes "Sub") [] [] (codes "Base" ∷ []))
    ∷ []

-- an offer's object and what it costs
abbrev pub item : (trader number : ℕ) → Ior
item trader number =
    made_reference (codes "IDL:Item:1.0")
    (codes "h") 9 (label_number (label_number [] trader ++ codes ".") number) 0

abbrev pub cost_property : (amount : ℕ) → Property
cost_property amount = record {
  name = codes "Cost";
  value = record { code = code.ULong; value = value.ULong amount };
}

abbrev pub offer_entry : (trader number : ℕ) → FileEntry
offer_entry trader number =
    entry.Change (change.Export (item trader number) (offer_type number)
    (cost_property (cost trader number) ∷ []))

-- the first so many offers
abbrev pub offer_entries : (trader count : ℕ) → List FileEntry
offer_entries trader zero = []
offer_entries trader (suc done) = offer_entries trader done ++ offer_entry trader (suc done) ∷ []

-- its types and its ten offers
abbrev pub head_entries : (trader : ℕ) → List FileEntry
head_entries trader = type_entries ++ offer_entries trader 10

abbrev pub link_entry : (name : List ℕ) → (trader : ℕ) → FileEntry
link_entry name trader = entry.Link name (name_of trader) Always Always

-- its links in a ring of so many
abbrev pub link_entries : (count trader : ℕ) → List FileEntry
link_entries count trader =
    link_entry (codes "next") (next_after count trader)
    ∷ link_entry (codes "chord") (chord_after count trader)
    ∷ []

-- A trader with all that is asked of it, but for the numbers of the lines.
pub record PlainScript : Type 0 where
  pub name : List ℕ
  pub interfaces : List (List ℕ × List (List ℕ))
  pub entries : List FileEntry

abbrev pub entries_in : List Numbered → List FileEntry
entries_in entries = map (λ (one : Numbered). one.entry) entries

abbrev pub plain_script : TraderScript → PlainScript
plain_script t = record { name = t.name; interfaces = t.interfaces; entries = entries_in t.entries }

abbrev pub ring_trader : (count trader : ℕ) → PlainScript
ring_trader count trader = record {
  name = name_of trader;
  interfaces = [];
  entries = head_entries trader ++ link_entries count trader;
}

-- the first so many traders of a ring
abbrev pub ring_traders : (count done : ℕ) → List PlainScript
ring_traders count zero = []
ring_traders count (suc done) = ring_traders count done ++ ring_trader count (suc done) ∷ []

-- ---- the whole file

-- so many traders at this address, of whom this is asked, and no line that is refused
pub record SaysRing (count : ℕ) (s : Script) : Type 0 where
  pub read : s.refused ≡ None
  pub home : s.home ≡ Some local_host
  pub names : map (λ (t : TraderScript). t.name) s.traders ≡ first_names count
  pub traders : map plain_script s.traders ≡ ring_traders count count

abbrev pub GeneratedAreRead : Type 0
GeneratedAreRead = (count : ℕ) → 1 ≤ count → count ≤ 64
    → SaysRing count (script_of (generated_file count))
