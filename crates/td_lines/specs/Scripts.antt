-- What the lines of a whole file say.
use Rattle.std.specs.Prelude.{ℕ, ◌+◌, is_some, List, [], ◌∷◌, replicate, if◌then◌else◌, Option, Some, None}
use Rattle.std.specs.Str.Lines.{lines}
use Rattle.td_lines.specs.Drafts.{close_entry, nothing_yet}
use Rattle.td_lines.specs.Heads.{finish_trader}
use Rattle.td_lines.specs.Steps.{LineStep, goes, stops, refusal, with_line}
use Rattle.td_lines.specs.declared.cause.LineCause.TheVariants.{Place}
use Rattle.td_lines.specs.declared.draft.ScriptDraft.{ScriptDraft}
use Rattle.td_lines.specs.declared.entry.Refused.{Refused}
use Rattle.td_lines.specs.declared.entry.Script.{Script}

-- without a seed there are 32 zeros
abbrev pub seed_or_zeros : Option (List ℕ) → List ℕ
seed_or_zeros (Some seed) = seed
seed_or_zeros None = replicate 32 0

-- what was said by whole entries, and the refused one
abbrev pub script : ScriptDraft → Option Refused → Script
script d refused = record {
  home = d.home;
  seed = seed_or_zeros d.seed;
  traders = (finish_trader d).finished;
  refused = refused;
}

-- a file of no line but skipped ones lacks its address
abbrev pub whole : ScriptDraft → Script
whole d = if is_some d.home then script d None else script d (Some (refusal 1 Place))

abbrev pub script_of_draft : ScriptDraft → Script
script_of_draft d = whole (close_entry d)

-- what the lines behind say, where one went well
abbrev pub go_on : LineStep → (ScriptDraft → Script) → Script
go_on (goes d) f = f d
go_on (stops d refused) f = script d (Some refused)

-- what the lines that are left say, behind n lines that said this
abbrev pub rest_of_file : ℕ → ScriptDraft → List (List ℕ) → Script
rest_of_file n d [] = script_of_draft d
rest_of_file n d (line ∷ rest) = go_on (with_line d (n + 1) line)
    (λ more. rest_of_file (n + 1) more rest)

unfoldable pub script_of : List ℕ → Script
script_of text = rest_of_file 0 nothing_yet (lines text)
