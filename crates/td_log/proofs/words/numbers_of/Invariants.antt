use Rattle.std.proofs.Common.{◌≡◌, length}
use Rattle.td_log.specs.Words.{numbers_of}
use Rattle.td_log.proofs.Numbers.{behind}
use Rattle.td_log.proofs.words.numbers_of.Given as goal

abbrev pub decreases-words : goal.decreases-words
decreases-words l = length l.rest

-- the numbers so far, and those that are left
abbrev pub invariant-words : goal.invariant-words
invariant-words l = behind l.numbers (numbers_of l.rest) ≡ numbers_of l.text
