-- What the words ask an object for, or why they are refused.
use Rattle.std.specs.Prelude.{◌≡◌, ◌⊎◌, true, false, List, [], if◌then◌else◌, MatchResult, Option, Some, None, Result}
use Rattle.std.specs.Prelude.{Ok, Err, ⊤}
use Rattle.std.specs.List.{list_any}
use Rattle.clap.specs.Words.{IsAmong, Text, kind_of}
use Rattle.td_cli_request.specs.Askings.{asking_of}
use Rattle.td_cli_request.specs.declared.making.Asking.{Asking}
use Rattle.td_cdr.specs.Text.{has_nul}
use Rattle.td_ior.specs.Keys.{◌>>=◌}
use Rattle.td_cli_args.specs.Answers.{asked_of, is_taken, refusals}
use Rattle.td_cli_args.specs.declared.parsing.Refusal.{Refusal}
use Rattle.td_cli_args.specs.declared.parsing.Refusal.TheVariants as refusal

-- what clap reads of the words, each of it in its form; a word with a NUL is in none
unfoldable pub asking_in : List Text → Option Asking
asking_in words = if list_any has_nul words then None else (asked_of words >>= asking_of)

-- clap refuses them, by one of the kinds that it gives at these words; or a word isn't in its form, and either one has
-- a NUL or clap has no kind to refuse them by
abbrev pub IsRefusedWords : List Text → Refusal → Type 0
IsRefusedWords words refusal.Memory = ⊤
IsRefusedWords words (refusal.Words e) = (is_taken words ≡ false)
    × IsAmong (kind_of e) (refusals words)
IsRefusedWords words refusal.Form =
    (asking_in words ≡ None) × ((list_any has_nul words ≡ true) ⊎ (refusals words ≡ []))

-- what the words ask for, or why they are refused
abbrev pub ParsesWords : List Text → Result Asking Refusal → Type 0
ParsesWords words r = MatchResult r (λ asking. asking_in words ≡ Some asking) (IsRefusedWords words)

-- what is made of words that clap reads: a refusal by their form exactly where there is nothing that they ask for
abbrev pub Makes : Option Asking → Result Asking Refusal → Type 0
Makes content (Ok asking) = content ≡ Some asking
Makes content (Err refusal.Memory) = ⊤
Makes content (Err (refusal.Words e)) = ⊥
Makes content (Err refusal.Form) = content ≡ None
