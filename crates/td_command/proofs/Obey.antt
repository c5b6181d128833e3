-- From what a number of traders comes to, to the command that names it.
use Rattle.std.proofs.Common.{◌≡◌, ℕ, false, List, Option, Some, None, option_map, sym, ap, subst, ◌∙◌}
use Rattle.td_make.specs.Generated.{generated_file}
use Rattle.td_stream.specs.Outside.{Outside}
use Rattle.td_command.specs.Commands.{Command, Drill, Make, command_by, command_in, command_of, is_pipe}
use Rattle.td_command.specs.Commands.{two_words, verb_named}
use Rattle.td_command.specs.Printing.{DrillsWith, IsUnread, PrintsOrNoMemory, PrintsOf, sink_of}
use Rattle.td_command.specs.Runs.{IsUnasked, Obeys, WordsBySeeding, Shelves}
use Rattle.td_command.specs.declared.ended.Ended.{Ended}
use Rattle.td_command.specs.declared.ended.Ended.TheVariants.{Usage}
use Rattle.td_command.specs.declared.verb.Verb.{Verb}

pub by_make : (found : Option ℕ) (count : ℕ) (texts : Shelves) (seeded : WordsBySeeding) (ended : Ended)
    (before after : Outside) → found ≡ Some count
    → PrintsOrNoMemory (λ text. text ≡ generated_file count) ended (sink_of before) (sink_of after) → IsUnasked texts
    → IsUnread before after → Obeys (option_map Make found) texts seeded ended before after
by_make found count texts seeded ended before after is prints unasked unread =
    subst (λ (o : Option ℕ). Obeys (option_map Make o) texts seeded ended before after) (sym is)
    (prints, unasked, unread)

pub by_drill : (found : Option ℕ) (count : ℕ) (texts : Shelves) (seeded : WordsBySeeding) (ended : Ended)
    (before after : Outside) → found ≡ Some count
    → PrintsOf (DrillsWith seeded) (generated_file count) ended (sink_of before) (sink_of after) → IsUnasked texts
    → IsUnread before after → Obeys (option_map Drill found) texts seeded ended before after
by_drill found count texts seeded ended before after is prints unasked unread =
    subst (λ (o : Option ℕ). Obeys (option_map Drill o) texts seeded ended before after) (sym is)
    (prints, unasked, unread)

pub by_none : (command : ℕ → Command) (found : Option ℕ) (texts : Shelves) (seeded : WordsBySeeding) (ended : Ended)
    (before after : Outside) → found ≡ None → ended ≡ Usage → IsUnasked texts → after ≡ before
    → Obeys (option_map command found) texts seeded ended before after
by_none command found texts seeded ended before after is usage unasked same =
    subst (λ (o : Option ℕ). Obeys (option_map command o) texts seeded ended before after) (sym is)
    (usage, unasked, same)

-- the verb is read from the first of two words
pub by_words : (words : List (List ℕ)) (word operand read : List ℕ) (found : Option Verb) (texts : Shelves)
    (seeded : WordsBySeeding) (ended : Ended) (before after : Outside) → Some (word, operand) ≡ two_words words
    → found ≡ verb_named read → read ≡ word → Obeys (command_by found operand) texts seeded ended before after
    → Obeys (command_of words) texts seeded ended before after
by_words words word operand read found texts seeded ended before after are is same obeys =
    subst (λ (o : Option (List ℕ × List ℕ)). Obeys (command_in o) texts seeded ended before after) are
    (subst (λ (v : Option Verb). Obeys (command_by v operand) texts seeded ended before after)
    (is ∙ ap verb_named same) obeys)

-- words that serve no session are those whose verb serves none
pub not_pipe : (words : List (List ℕ)) (word operand read : List ℕ) (found : Option Verb)
    → Some (word, operand) ≡ two_words words → found ≡ verb_named read → read ≡ word
    → is_pipe (command_of words) ≡ false → is_pipe (command_by found operand) ≡ false
not_pipe words word operand read found are is same h =
    ap (λ (v : Option Verb). is_pipe (command_by v operand)) (is ∙ ap verb_named same)
    ∙ (ap (λ (o : Option (List ℕ × List ℕ)). is_pipe (command_in o)) are ∙ h)
