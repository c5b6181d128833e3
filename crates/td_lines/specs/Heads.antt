-- Lines that begin an entry of one line. Each is judged in this order: the number of its words, its place, and then its
-- words from left to right.
use Rattle.std.specs.Prelude.{ℕ, nat_le, Bool, false, true, not, ◌||◌, List, [], ◌∷◌, ◌++◌, length, if◌then◌else◌, Some}
use Rattle.std.specs.Prelude.{is_some, Result, Ok}
use Rattle.std.specs.List.{list_any}
use Rattle.std.specs.Option.{option_map}
use Rattle.std.specs.Str.{bytes_eq}
use Rattle.td_cdr.specs.Names.{trader_name}
use Rattle.td_cdr.specs.Reading.{◌>>=◌}
use Rattle.td_cdr.specs.Text.{has_nul}
use Rattle.td_ior.specs.Number.{number_below}
use Rattle.td_ops.specs.declared.call.Change.TheVariants as change
use Rattle.td_lines.specs.Causes.{or_cause, refused_if}
use Rattle.td_lines.specs.Drafts.{has_trader, with_entry}
use Rattle.td_lines.specs.Homes.{parse_home, with_minor}
use Rattle.td_lines.specs.Octets.{parse_octets, parse_seed}
use Rattle.td_lines.specs.Settings.{parse_setting}
use Rattle.td_lines.specs.Words.{cut_word, one_word, two_words, words}
use Rattle.td_lines.specs.declared.cause.LineCause.{LineCause}
use Rattle.td_lines.specs.declared.cause.LineCause.TheVariants as cause
use Rattle.td_lines.specs.declared.draft.ScriptDraft.{ScriptDraft}
use Rattle.td_lines.specs.declared.entry.FileEntry.TheVariants as entry
use Rattle.td_lines.specs.declared.entry.TraderScript.{TraderScript}

-- `address HOST PORT`, once; no other line may stand above it
unfoldable pub with_address : ScriptDraft → List ℕ → Result ScriptDraft LineCause
with_address d line = do
  said ← or_cause cause.Words (two_words line)
  refused_if (is_some d.home) cause.Twice
      (parse_home said.0 said.1 >>= λ home. Ok (record d { home = Some home }))

-- `seed HEX`, once, behind the address and before the line `iiop` and the first trader
unfoldable pub with_seed : ScriptDraft → List ℕ → Result ScriptDraft LineCause
with_seed d line = do
  said ← or_cause cause.Words (one_word line)
  refused_if (not (is_some d.home) || has_trader d || d.iiop) cause.Place
      (refused_if (is_some d.seed) cause.Twice
      (parse_seed said >>= λ seed. Ok (record d { seed = Some seed })))

-- the server's references have this minor version
abbrev pub with_version : ScriptDraft → ℕ → ScriptDraft
with_version d minor = record d { home = option_map (with_minor minor) d.home; iiop = true }

-- `iiop MINOR`, once, behind the address and before the first trader: the minor version of IIOP in the server's
-- references, 0 or 1
unfoldable pub with_iiop : ScriptDraft → List ℕ → Result ScriptDraft LineCause
with_iiop d line = do
  said ← or_cause cause.Words (one_word line)
  refused_if (not (is_some d.home) || has_trader d) cause.Place
      (refused_if d.iiop cause.Twice
      (or_cause cause.Number (number_below 2 said) >>= λ minor. Ok (with_version d minor)))

-- what was said of the last trader
abbrev pub last_trader : ScriptDraft → TraderScript
last_trader d = record { name = d.name; interfaces = d.interfaces; entries = d.entries }

-- nothing more is said of the last trader, if there is one
abbrev pub finish_trader : ScriptDraft → ScriptDraft
finish_trader d =
    if has_trader d
    then record d {
      finished = d.finished ++ last_trader d ∷ [];
      name = [];
      interfaces = [];
      entries = [];
    }
    else d

-- a trader, of whom nothing was said yet
abbrev pub opened_trader : ScriptDraft → List ℕ → ScriptDraft
opened_trader d name = record d { names = d.names ++ name ∷ []; name = name; typed = false }

-- `trader NAME`, at most 64, no two of one name
unfoldable pub with_trader : ScriptDraft → List ℕ → Result ScriptDraft LineCause
with_trader d line = do
  said ← or_cause cause.Words (one_word line)
  refused_if (not (is_some d.home) || nat_le 64 (length d.names)) cause.Place
      (refused_if (not (trader_name said)) cause.Name
      (refused_if (list_any (bytes_eq said) d.names) cause.Twice
      (Ok (opened_trader (finish_trader d) said))))

-- `stem HEX`
unfoldable pub with_stem : ScriptDraft → ℕ → List ℕ → Result ScriptDraft LineCause
with_stem d n line = do
  said ← or_cause cause.Words (one_word line)
  refused_if (not (has_trader d)) cause.Place
      (parse_octets said >>= λ stem.
      Ok (with_entry d n (entry.Change (change.SetRequestIdStem stem))))

-- `set ATTRIBUTE VALUE`
unfoldable pub with_set : ScriptDraft → ℕ → List ℕ → Result ScriptDraft LineCause
with_set d n line = do
  said ← or_cause cause.Words (two_words line)
  refused_if (not (has_trader d)) cause.Place
      (parse_setting said.0 said.1 >>= λ set. Ok (with_entry d n (entry.Change set)))

abbrev pub is_declared : List ℕ → List (List ℕ × List (List ℕ)) → Bool
is_declared id interfaces = list_any (λ one. bytes_eq id one.0) interfaces

abbrev pub with_declared : ScriptDraft → List ℕ → List (List ℕ) → ScriptDraft
with_declared d id bases = record d { interfaces = d.interfaces ++ (id, bases) ∷ [] }

-- `interface ID BASE ..`, before the trader's first type, each ID once
unfoldable pub with_interface : ScriptDraft → List ℕ → Result ScriptDraft LineCause
with_interface d line = do
  said ← or_cause cause.Words (cut_word line)
  refused_if (not (has_trader d) || d.typed) cause.Place
      (refused_if (has_nul said.0) cause.Name
      (refused_if (is_declared said.0 d.interfaces) cause.Twice
      (refused_if (list_any has_nul (words said.1)) cause.Name
      (Ok (with_declared d said.0 (words said.1))))))
