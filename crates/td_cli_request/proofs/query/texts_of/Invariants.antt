use Rattle.std.proofs.Common.{◌≡◌, map, take}
use Rattle.td_cli_request.proofs.query.texts_of.Given as goal

-- the texts of the words that were gone over
abbrev pub invariant-loop-word : goal.invariant-loop-word
invariant-loop-word l = l.texts ≡ map (λ w. w.now) (take l.word-index l.words)
