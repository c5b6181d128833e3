use Rattle.std.proofs.Common.{◌≡◌, ◌++◌, length}
use Rattle.td_lines.specs.Words.{words}
use Rattle.td_lines.proofs.words.words_of.Given as goal

abbrev pub decreases-words : goal.decreases-words
decreases-words l = length l.rest

-- the words so far and those that are left
abbrev pub invariant-words : goal.invariant-words
invariant-words l = l.found ++ words l.rest ≡ words l.line
