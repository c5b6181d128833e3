-- Lines of links.
use Rattle.std.specs.Prelude.{ℕ, not, List, Option, Some, None, Result, Ok}
use Rattle.td_cdr.specs.Reading.{◌>>=◌}
use Rattle.td_typecode.specs.declared.reference.Ior.{Ior}
use Rattle.td_forms.specs.Words.{rule_named}
use Rattle.td_ops.specs.declared.call.Change.TheVariants as change
use Rattle.td_value.specs.declared.enumerations.FollowOption.{FollowOption}
use Rattle.td_lines.specs.Causes.{or_cause, refused_if}
use Rattle.td_lines.specs.Drafts.{has_trader, with_entry}
use Rattle.td_lines.specs.References.{parse_reference, parse_register}
use Rattle.td_lines.specs.Words.{five_words, four_words}
use Rattle.td_lines.specs.declared.cause.LineCause.{LineCause}
use Rattle.td_lines.specs.declared.cause.LineCause.TheVariants as cause
use Rattle.td_lines.specs.declared.draft.ScriptDraft.{ScriptDraft}
use Rattle.td_lines.specs.declared.entry.FileEntry.{FileEntry}
use Rattle.td_lines.specs.declared.entry.FileEntry.TheVariants as entry

-- DEF LIMIT
abbrev pub parse_rules : (def_pass_on limiting : List ℕ)
    → Result (FollowOption × FollowOption) LineCause
parse_rules def_pass_on limiting = do
  first ← or_cause cause.Name (rule_named def_pass_on)
  second ← or_cause cause.Name (rule_named limiting)
  Ok (first, second)

-- REF REGISTER
abbrev pub parse_ends : (target register : List ℕ) → Result (Ior × Option Ior) LineCause
parse_ends target register = do
  known ← parse_reference target
  found ← parse_register register
  Ok (known, found)

abbrev pub inside_link : (name trader : List ℕ) → (def_pass_on limiting : FollowOption) → FileEntry
inside_link name trader def_pass_on limiting = entry.Link name trader def_pass_on limiting

abbrev pub outside_link : List ℕ → Ior → Option Ior → (def_pass_on limiting : FollowOption)
    → FileEntry
outside_link name target register def_pass_on limiting =
    entry.Change (change.AddLink name target def_pass_on limiting register)

-- `link NAME REF REGISTER DEF LIMIT`: to an outside Lookup, with its Register
unfoldable pub with_outside : ScriptDraft → ℕ → List ℕ → Result ScriptDraft LineCause
with_outside d n line = do
  said ← or_cause cause.Words (five_words line)
  refused_if (not (has_trader d)) cause.Place
      (parse_ends said.1 said.2 >>= λ ends.
      parse_rules said.3 said.4 >>= λ rules.
      Ok (with_entry d n (outside_link said.0 ends.0 ends.1 rules.0 rules.1)))

-- `link NAME TRADER DEF LIMIT`: to a trader of the file, which may come later
abbrev pub with_inside : ScriptDraft → ℕ → List ℕ → Option (List ℕ × List ℕ × List ℕ × List ℕ)
    → Result ScriptDraft LineCause
with_inside d n line None = with_outside d n line
with_inside d n line (Some said) =
    refused_if (not (has_trader d)) cause.Place
    (parse_rules said.2 said.3 >>= λ rules.
    Ok (with_entry d n (inside_link said.0 said.1 rules.0 rules.1)))

-- a link of either kind, by the number of its words
unfoldable pub with_link : ScriptDraft → ℕ → List ℕ → Result ScriptDraft LineCause
with_link d n line = with_inside d n line (four_words line)
