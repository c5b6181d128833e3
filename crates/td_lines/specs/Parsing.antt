-- What the lines of a file tell of a change: its references, its values and its TypeCodes have a spelling. Its names
-- may be any words (CORBA, chapter on General Inter-ORB Protocol, "CDR Transfer Syntax").
use Rattle.std.specs.Prelude.{ℕ, ◌≤◌, ◌<◌, ◌^◌, List, [], ◌≡◌, length, Option, None, Some}
use Rattle.std.specs.List.{AllByRecursion}
use Rattle.td_cdr.specs.Sound.{text, ulong}
use Rattle.td_cdr.specs.declared.order.Order.{Order}
use Rattle.td_typecode.specs.Outermost.{type_code}
use Rattle.td_typecode.specs.References.{reference}
use Rattle.td_typecode.specs.Values.{any_value}
use Rattle.td_typecode.specs.declared.code.Any.{Any}
use Rattle.td_typecode.specs.declared.reference.Ior.{Ior}
use Rattle.td_lines.specs.declared.entry.FileEntry.{FileEntry}
use Rattle.td_lines.specs.declared.entry.FileEntry.TheVariants as entry
use Rattle.td_lines.specs.declared.entry.Numbered.{Numbered}
use Rattle.td_lines.specs.declared.entry.TraderScript.{TraderScript}
use Rattle.td_ops.specs.declared.call.Change.{Change}
use Rattle.td_ops.specs.declared.call.Change.TheVariants as change
use Rattle.td_value.specs.declared.structures.PropStruct.{PropStruct}
use Rattle.td_value.specs.declared.structures.Property.{Property}

-- A value has a spelling unless it has more items than a count can say; wherever it stands it has no fewer bytes than
-- items.
pub record IsParsedValue (v : Any) : Type 0 where
  pub items : ℕ
  pub long : (order : Order) (place : ℕ) → items ≤ length (any_value.format.writes v order place)
  pub admitted : items < 2 ^ 32 → any_value.format.admits v

abbrev pub AreParsedProperties : List Property → Type 0
AreParsedProperties ps = AllByRecursion (λ (p : Property). IsParsedValue p.value) ps

abbrev pub AreParsedTypes : List PropStruct → Type 0
AreParsedTypes ps = AllByRecursion (λ (p : PropStruct). type_code.format.admits p.value_type) ps

abbrev pub IsParsedRegister : Option Ior → Type 0
IsParsedRegister None = Unit {0}
IsParsedRegister (Some r) = reference.format.admits r

pub record IsParsedOffer (object : Ior) (ps : List Property) : Type 0 where
  pub target : reference.format.admits object
  pub properties : AreParsedProperties ps

-- of the changes that lines ask for
abbrev pub IsParsedChange : Change → Type 0
IsParsedChange (change.Export object service_type ps) = IsParsedOffer object ps
IsParsedChange (change.ExportProxy target service_type ps if_match_all recipe policies) =
    IsParsedOffer target ps × text.format.admits recipe × (policies ≡ [])
IsParsedChange (change.AddLink name target def_pass_on limiting register) =
    reference.format.admits target × IsParsedRegister register
IsParsedChange (change.AddType name if_name props supers) = text.format.admits if_name
    × AreParsedTypes props
IsParsedChange (change.SetNumber attribute value) = ulong.format.admits value
IsParsedChange (change.SetTruth attribute value) = Unit {0}
IsParsedChange (change.SetFollow attribute value) = Unit {0}
IsParsedChange (change.SetRequestIdStem value) = Unit {0}
IsParsedChange other = ⊥

-- of the entries that lines make
abbrev pub IsParsedEntry : FileEntry → Type 0
IsParsedEntry (entry.Change c) = IsParsedChange c
IsParsedEntry (entry.Link name trader def_pass_on limiting) = Unit {0}

abbrev pub AreParsedEntries : List Numbered → Type 0
AreParsedEntries es = AllByRecursion (λ (n : Numbered). IsParsedEntry n.entry) es

abbrev pub AreParsedScripts : List TraderScript → Type 0
AreParsedScripts ts = AllByRecursion (λ (t : TraderScript). AreParsedEntries t.entries) ts
