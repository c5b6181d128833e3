-- Lines of types: `type`, and the `prop` lines that belong to it.
use Rattle.std.specs.Prelude.{ℕ, true, not, is_some, List, [], ◌∷◌, ◌++◌, codes, if◌then◌else◌, Result, Ok, Err}
use Rattle.std.specs.Str.{bytes_eq}
use Rattle.td_cdr.specs.Reading.{◌>>=◌}
use Rattle.td_cdr.specs.Text.{has_nul}
use Rattle.td_value.specs.declared.structures.PropStruct.{PropStruct}
use Rattle.td_lines.specs.Causes.{or_cause, refused_if}
use Rattle.td_lines.specs.Drafts.{has_trader, type_line}
use Rattle.td_lines.specs.Properties.{parse_prop}
use Rattle.td_lines.specs.Words.{cut_word, three_words, words}
use Rattle.td_lines.specs.declared.cause.LineCause.{LineCause}
use Rattle.td_lines.specs.declared.cause.LineCause.TheVariants as cause
use Rattle.td_lines.specs.declared.draft.ScriptDraft.{ScriptDraft}
use Rattle.td_lines.specs.declared.draft.Open.{Open}
use Rattle.td_lines.specs.declared.draft.Open.TheVariants as opened
use Rattle.td_lines.specs.declared.draft.OpenType.{OpenType}

-- `-` stands for the empty text
abbrev pub if_name_of : List ℕ → List ℕ
if_name_of word = if bytes_eq word (codes "-") then [] else word

abbrev pub new_type : ℕ → (name if_word supers : List ℕ) → OpenType
new_type n name if_word supers = record {
  line = n;
  name = name;
  if_name = if_name_of if_word;
  supers = words supers;
  props = [];
}

abbrev pub with_new_type : ScriptDraft → OpenType → ScriptDraft
with_new_type d t = record d { typed = true; above = opened.Type t }

-- `type NAME IFID SUPER ..`; its properties may follow
unfoldable pub with_type : ScriptDraft → ℕ → List ℕ → Result ScriptDraft LineCause
with_type d n line = do
  name ← or_cause cause.Words (cut_word line)
  if_name ← or_cause cause.Words (cut_word name.1)
  refused_if (not (has_trader d)) cause.Place
      (refused_if (has_nul if_name.0) cause.Name
      (Ok (with_new_type d (new_type n name.0 if_name.0 if_name.1))))

-- one property more of the type above
abbrev pub with_added_prop : ScriptDraft → Open → PropStruct → Result ScriptDraft LineCause
with_added_prop d (opened.Type t) p = Ok
    (record d { above = opened.Type (record t { props = t.props ++ p ∷ [] }) })
with_added_prop d (opened.Offer o) p = Err cause.Place
with_added_prop d opened.Nothing p = Err cause.Place

-- `prop MODE VALUETYPE NAME`, behind its type or another property of it
unfoldable pub with_prop : ScriptDraft → List ℕ → Result ScriptDraft LineCause
with_prop d line = do
  said ← or_cause cause.Words (three_words line)
  refused_if (not (is_some (type_line d.above))) cause.Place
      (parse_prop said.0 said.1 said.2 >>= λ p. with_added_prop d d.above p)
