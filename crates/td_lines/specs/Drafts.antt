-- What the lines so far say.
use Rattle.std.specs.Prelude.{◌≡◌, ℕ, nat_eq, Bool, false, not, [], ◌∷◌, ◌++◌, length, Option, Some, None, Result}
use Rattle.std.specs.Prelude.{Ok, Err}
use Rattle.td_ops.specs.declared.call.Change.{Change}
use Rattle.td_ops.specs.declared.call.Change.TheVariants as change
use Rattle.td_lines.specs.declared.cause.LineCause.{LineCause}
use Rattle.td_lines.specs.declared.cause.Misfit.{Misfit}
use Rattle.td_lines.specs.declared.cause.Misfit.TheVariants.{Is, Memory}
use Rattle.td_lines.specs.declared.draft.ScriptDraft.{ScriptDraft}
use Rattle.td_lines.specs.declared.draft.Open.{Open}
use Rattle.td_lines.specs.declared.draft.Open.TheVariants as opened
use Rattle.td_lines.specs.declared.draft.OpenOffer.{OpenOffer}
use Rattle.td_lines.specs.declared.draft.OpenType.{OpenType}
use Rattle.td_lines.specs.declared.draft.ProxyWords.{ProxyWords}
use Rattle.td_lines.specs.declared.entry.FileEntry.{FileEntry}
use Rattle.td_lines.specs.declared.entry.FileEntry.TheVariants as entry
use Rattle.td_lines.specs.declared.entry.Numbered.{Numbered}
use Rattle.td_lines.specs.declared.keyword.DetailKeyword.{DetailKeyword}
use Rattle.td_lines.specs.declared.keyword.DetailKeyword.TheVariants as part

abbrev pub nothing_yet : ScriptDraft
nothing_yet = record {
  home = None;
  seed = None;
  iiop = false;
  names = [];
  finished = [];
  name = [];
  interfaces = [];
  typed = false;
  entries = [];
  above = opened.Nothing;
}

abbrev pub has_trader : ScriptDraft → Bool
has_trader d = not (nat_eq (length d.names) 0)

abbrev pub with_line : ℕ → FileEntry → Numbered
with_line n e = record { line = n; entry = e }

abbrev pub with_entry : ScriptDraft → ℕ → FileEntry → ScriptDraft
with_entry d n e = record d { entries = d.entries ++ with_line n e ∷ [] }

-- ---- the entry to which more lines may belong

abbrev pub type_line : Open → Option ℕ
type_line (opened.Type t) = Some t.line
type_line (opened.Offer o) = None
type_line opened.Nothing = None

abbrev pub offer_line : Open → Option ℕ
offer_line (opened.Offer o) = Some o.line
offer_line (opened.Type t) = None
offer_line opened.Nothing = None

-- the first line of the entry to which a line belongs: `prop` to a type, `with` and `dynamic` to an offer
abbrev pub line_above : Open → DetailKeyword → Option ℕ
line_above o part.Prop = type_line o
line_above o part.With = offer_line o
line_above o part.Dynamic = offer_line o

-- the change that a type, and the one that an offer asks for
abbrev pub type_change : OpenType → Change
type_change t = change.AddType t.name t.if_name t.props t.supers

abbrev pub offer_change : OpenOffer → Option ProxyWords → Change
offer_change o None = change.Export o.reference o.service_type o.properties
offer_change o (Some p) = change.ExportProxy o.reference o.service_type o.properties p.if_match_all
    p.recipe []

-- no more line belongs to the entry above
abbrev pub closed_with : ScriptDraft → Open → ScriptDraft
closed_with d opened.Nothing = d
closed_with d (opened.Type t) = with_entry d t.line (entry.Change (type_change t))
closed_with d (opened.Offer o) = with_entry d o.line (entry.Change (offer_change o o.proxy))

abbrev pub close_entry : ScriptDraft → ScriptDraft
close_entry d = closed_with (record d { above = opened.Nothing }) d.above

-- ---- what a call that takes a line answers, and what the draft is then: as before where the line is refused

abbrev pub UpdatesDraft : Result ScriptDraft LineCause → (old new : ScriptDraft)
    → Result (Unit {0}) Misfit → Type 0
UpdatesDraft content old new (Ok _) = content ≡ Ok new
UpdatesDraft content old new (Err (Is cause)) = (content ≡ Err cause) × (new ≡ old)
UpdatesDraft content old new (Err Memory) = Unit {0}
