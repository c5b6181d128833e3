-- The law on the documented words.
use Rattle.std.proofs.Common.{◌≡◌, ◌≤◌, true, codes, length, List, ◌∷◌, ◌++◌, Some, ℕ, arith}
use Rattle.std.proofs.lemmas.List.{length-append}
use Rattle.clap.specs.Lexer.{usize_max}
use Rattle.clap.specs.Words.{Text, subcommand_of, takes}
use Rattle.td_cli_args.specs.Answers.{asked_of, is_taken}
use Rattle.td_cli_args.specs.Forms.{SpellsWords, of_query, of_usage, option_words}
use Rattle.td_cli_args.specs.Matches.{read_matches}
use Rattle.td_cli_args.specs.Tool.{tool_app}
use Rattle.td_cli_args.specs.Wishes.{CommandWords}
use Rattle.td_cli_args.proofs.Few.{usage_words}
use Rattle.td_cli_args.proofs.Query.{query_words}

shorter : (xs ys : List Text) (a b c d q : Text) (n : ℕ) → length (q ∷ (xs ++ (a ∷ b ∷ c ∷ d ∷ ys))) ≤ n
    → length ys ≤ n
shorter xs ys a b c d q n e = omega (arith, e, length-append xs (a ∷ b ∷ c ∷ d ∷ ys))

behind : (xs ys : List Text) (q : Text) (n : ℕ) → length (q ∷ (xs ++ ys)) ≤ n → length ys ≤ n
behind xs ys q n e = omega (arith, e, length-append xs ys)

pub reads_closed : (words : List Text) (asked : CommandWords) → SpellsWords words asked → length words ≤ usize_max
    → (takes tool_app words ≡ true) × (read_matches (subcommand_of tool_app words) ≡ Some asked)
reads_closed words asked (of_query cs a b c d names apart plain pa pb pc pd pn) short =
    query_words cs a b c d names apart plain pa pb pc pd pn
    (shorter (option_words cs) names a b c d (codes "query") usize_max short)
reads_closed words asked (of_usage u ws more x among count takes plain plains asks) short =
    usage_words u ws more x among count takes plain plains (behind ws more u.name usize_max short) asks

pub reads : (words : List Text) (asked : CommandWords) → SpellsWords words asked → length words ≤ usize_max
    → (is_taken words ≡ true) × (asked_of words ≡ Some asked)
unfolding is_taken asked_of
reads words asked spells short = reads_closed words asked spells short
