use Rattle.std.proofs.Common.{◌≡◌, [], drop, map}
use Rattle.td_cli_request.specs.Properties.{properties_behind}
use Rattle.td_cli_request.proofs.properties.parse_properties.Given as goal

-- the words that are left make of the properties so far what all words make of none
abbrev pub invariant-loop-word : goal.invariant-loop-word
invariant-loop-word l =
    properties_behind l.properties (map (λ w. w.now) (drop l.word-index l.words))
    ≡ properties_behind [] (map (λ w. w.now) l.words)
