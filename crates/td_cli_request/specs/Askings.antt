-- What the words ask an object for (OMG's Trading Object Service, interfaces Lookup, Register, Link and
-- ServiceTypeRepository).
use Rattle.std.specs.Prelude.{ℕ, List, [], Option, Some}
use Rattle.td_forms.specs.Words.{rule_named}
use Rattle.td_ior.specs.Keys.{◌>>=◌}
use Rattle.td_ior.specs.Texts.{reference_in}
use Rattle.td_ops.specs.declared.call.Call.{Call}
use Rattle.td_ops.specs.declared.call.Change.{Change}
use Rattle.td_ops.specs.declared.call.Call.TheVariants.{Change as Changing, Look as Looking, AddLink as Linking}
use Rattle.td_ops.specs.declared.call.Change.TheVariants as change
use Rattle.td_ops.specs.declared.call.Look.TheVariants as look
use Rattle.td_cli_args.specs.Wishes.{CommandWords, AskedQuery, AskedExport, AskedLink, AskedType}
use Rattle.td_cli_args.specs.Wishes.{query, export, withdraw, describe, link, links, types, addtype}
use Rattle.td_value.specs.declared.unions.SpecifiedServiceTypes.TheVariants as which
use Rattle.td_cli_request.specs.Forms.{target_in}
use Rattle.td_cli_request.specs.Properties.{properties_behind}
use Rattle.td_cli_request.specs.Queries.{query_in}
use Rattle.td_cli_request.specs.Types.{items_behind, nothing_yet}
use Rattle.td_cli_request.specs.declared.making.Asking.{Asking}
use Rattle.td_cli_request.specs.declared.making.Asking.TheVariants as asking

-- a call of the object that a word spells
abbrev pub call_of_word : List ℕ → Call → Option Asking
call_of_word reference c = target_in reference >>= λ target. Some (asking.Call target c)

abbrev pub by_query : AskedQuery → Option Asking
by_query q = do
  parameters ← query_in q
  target ← target_in q.reference
  Some (asking.Query target parameters)

abbrev pub export_in : AskedExport → Option Change
export_in e = do
  object ← reference_in e.object
  properties ← properties_behind [] e.properties
  Some (change.Export object e.service properties)

abbrev pub by_export : AskedExport → Option Asking
by_export e = export_in e >>= λ c. call_of_word e.reference (Changing c)

abbrev pub by_withdraw : (reference id : List ℕ) → Option Asking
by_withdraw reference id = call_of_word reference (Changing (change.Withdraw id))

abbrev pub by_describe : (reference id : List ℕ) → Option Asking
by_describe reference id = call_of_word reference (Looking (look.Describe id))

abbrev pub by_link : AskedLink → Option Asking
by_link l = do
  def ← rule_named l.def_pass_on
  limit ← rule_named l.limiting
  other ← reference_in l.target
  call_of_word l.reference (Linking (record {
    name = l.name;
    target = other;
    def_pass_on = def;
    limiting = limit;
  }))

abbrev pub by_links : (reference : List ℕ) → Option Asking
by_links reference = call_of_word reference (Looking look.ListLinks)

-- those of all incarnations
abbrev pub by_types : (reference : List ℕ) → Option Asking
by_types reference = call_of_word reference (Looking (look.ListTypes which.All))

abbrev pub by_addtype : AskedType → Option Asking
by_addtype t = do
  items ← items_behind nothing_yet t.items
  call_of_word t.reference (Changing (change.AddType t.name t.interface items.props items.supers))

abbrev pub asking_of : CommandWords → Option Asking
asking_of (query q) = by_query q
asking_of (export e) = by_export e
asking_of (withdraw reference id) = by_withdraw reference id
asking_of (describe reference id) = by_describe reference id
asking_of (link l) = by_link l
asking_of (links reference) = by_links reference
asking_of (types reference) = by_types reference
asking_of (addtype t) = by_addtype t
