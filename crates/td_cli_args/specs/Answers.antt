-- What the words come to: what they ask for, or why they are refused.
use Rattle.std.specs.Prelude.{◌≡◌, Bool, false, List, [], Option, Some, None, ⊤, MatchResult, Result}
use Rattle.clap.specs.Words.{Text, takes, subcommand_of, fault_of, IsAmong, Kinds, kind_of}
use Rattle.td_cli_args.specs.Tool.{tool_app}
use Rattle.td_cli_args.specs.Matches.{read_matches}
use Rattle.td_cli_args.specs.Wishes.{CommandWords, asked_by}
use Rattle.td_cli_args.specs.declared.wanted.Wanted.{Wanted}
use Rattle.td_cli_args.specs.declared.parsing.Refusal.{Refusal}
use Rattle.td_cli_args.specs.declared.parsing.Refusal.TheVariants as refusal

-- what clap reads of the words
unfoldable pub asked_of : List Text → Option CommandWords
asked_of words = read_matches (subcommand_of tool_app words)

-- clap takes the words
unfoldable pub is_taken : List Text → Bool
is_taken words = takes tool_app words

-- the kinds of its refusal
unfoldable pub refusals : List Text → Kinds
refusals words = fault_of tool_app words

-- why the words are refused: clap refuses them, by one of the kinds that it gives at these words; or it has no kind to
-- refuse them by, and they ask for nothing
abbrev pub IsRefusal : List Text → Refusal → Type 0
IsRefusal words refusal.Memory = ⊤
IsRefusal words (refusal.Words e) = (is_taken words ≡ false) × IsAmong (kind_of e) (refusals words)
IsRefusal words refusal.Form = (asked_of words ≡ None) × (refusals words ≡ [])

-- clap has no kind to refuse the words by where they ask for something
abbrev pub IsParseOfWords : List Text → Result Wanted Refusal → Type 0
IsParseOfWords words r =
    MatchResult r (λ w. (asked_of words ≡ Some (asked_by w)) × (refusals words ≡ []))
    (IsRefusal words)
