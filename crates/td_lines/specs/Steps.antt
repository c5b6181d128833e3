-- What a line makes of what was said above it.
use Rattle.std.specs.Prelude.{◌≡◌, ℕ, List, if◌then◌else◌, Option, Some, None, Result, Ok, Err}
use Rattle.td_lines.specs.Drafts.{close_entry, line_above}
use Rattle.td_lines.specs.Heads.{with_address, with_iiop, with_interface, with_seed, with_set, with_stem, with_trader}
use Rattle.td_lines.specs.Keywords.{begin_of}
use Rattle.td_lines.specs.Linked.{with_link}
use Rattle.td_lines.specs.Offered.{with_dynamic, with_offer, with_proxy, with_value}
use Rattle.td_lines.specs.Typed.{with_prop, with_type}
use Rattle.td_lines.specs.Words.{is_skipped}
use Rattle.td_lines.specs.declared.cause.LineCause.{LineCause}
use Rattle.td_lines.specs.declared.cause.LineCause.TheVariants as cause
use Rattle.td_lines.specs.declared.cause.Misfit.{Misfit}
use Rattle.td_lines.specs.declared.cause.Misfit.TheVariants as misfit
use Rattle.td_lines.specs.declared.draft.ScriptDraft.{ScriptDraft}
use Rattle.td_lines.specs.declared.entry.Refused.{Refused}
use Rattle.td_lines.specs.declared.keyword.EntryHead.{EntryHead}
use Rattle.td_lines.specs.declared.keyword.EntryHead.TheVariants as head
use Rattle.td_lines.specs.declared.keyword.Keyword.{Keyword}
use Rattle.td_lines.specs.declared.keyword.Keyword.TheVariants.{Begins, Belongs}
use Rattle.td_lines.specs.declared.keyword.DetailKeyword.{DetailKeyword}
use Rattle.td_lines.specs.declared.keyword.DetailKeyword.TheVariants as part
use Rattle.td_lines.specs.declared.parts.ParseStop.{ParseStop}
use Rattle.td_lines.specs.declared.parts.ParseStop.TheVariants.{At, Memory}

-- a line that begins an entry, by its first word and what stands behind it
abbrev pub with_head : ScriptDraft → ℕ → EntryHead → List ℕ → Result ScriptDraft LineCause
with_head d n head.Address line = with_address d line
with_head d n head.Seed line = with_seed d line
with_head d n head.Iiop line = with_iiop d line
with_head d n head.Trader line = with_trader d line
with_head d n head.Stem line = with_stem d n line
with_head d n head.Set line = with_set d n line
with_head d n head.Interface line = with_interface d line
with_head d n head.Type line = with_type d n line
with_head d n head.Offer line = with_offer d n line
with_head d n head.Proxy line = with_proxy d n line
with_head d n head.Link line = with_link d n line

-- a line that belongs to the entry above
abbrev pub with_part : ScriptDraft → DetailKeyword → List ℕ → Result ScriptDraft LineCause
with_part d part.Prop line = with_prop d line
with_part d part.With line = with_value d line
with_part d part.Dynamic line = with_dynamic d line

-- ---- the line of the refusal

-- what is said with one line more; or what was said by whole entries, and the refusal of the next one
pub data LineStep : Type 0 where
  goes : ScriptDraft → LineStep
  stops : ScriptDraft → Refused → LineStep

abbrev pub refusal : ℕ → LineCause → Refused
refusal n cause = record { line = n; cause = cause }

-- a line of the entry whose first line is n
abbrev pub step : ScriptDraft → ℕ → Result ScriptDraft LineCause → LineStep
step d n (Ok more) = goes more
step d n (Err cause) = stops d (refusal n cause)

-- a line that begins an entry ends the one above
unfoldable pub with_begin : ScriptDraft → ℕ → EntryHead → List ℕ → LineStep
with_begin d n h line = step (close_entry d) n (with_head (close_entry d) n h line)

-- a line that belongs to no entry is one of its own, which has no place
unfoldable pub with_alone : ScriptDraft → ℕ → DetailKeyword → List ℕ → LineStep
with_alone d n p line = step (close_entry d) n (with_part (close_entry d) p line)

-- a line that belongs to the entry above, if there is one
abbrev pub with_belonging : ScriptDraft → ℕ → DetailKeyword → List ℕ → Option ℕ → LineStep
with_belonging d n p line (Some first) = step d first (with_part d p line)
with_belonging d n p line None = with_alone d n p line

-- a line whose first word is none of those known
abbrev pub with_unknown : ScriptDraft → ℕ → LineStep
with_unknown d n = stops (close_entry d) (refusal n cause.Words)

abbrev pub with_keyword : ScriptDraft → ℕ → Option (Keyword × List ℕ) → LineStep
with_keyword d n None = with_unknown d n
with_keyword d n (Some (Begins h, line)) = with_begin d n h line
with_keyword d n (Some (Belongs p, line)) = with_belonging d n p line (line_above d.above p)

-- line n; empty lines and comments say nothing
unfoldable pub with_line : ScriptDraft → ℕ → List ℕ → LineStep
with_line d n line = if is_skipped line then goes d else with_keyword d n (begin_of line)

-- ---- what calls answer

abbrev pub at : ℕ → Result (Unit {0}) Misfit → Result (Unit {0}) ParseStop
at n (Ok _) = Ok tt
at n (Err (misfit.Is cause)) = Err (At (refusal n cause))
at n (Err misfit.Memory) = Err Memory

abbrev pub Steps : LineStep → ScriptDraft → Result (Unit {0}) ParseStop → Type 0
Steps content new (Ok _) = content ≡ goes new
Steps content new (Err (At refused)) = content ≡ stops new refused
Steps content new (Err Memory) = Unit {0}
