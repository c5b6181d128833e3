use Rattle.std.proofs.Common.{◌≡◌, drop, map}
use Rattle.td_cli_request.specs.Types.{items_behind, nothing_yet}
use Rattle.td_cli_request.proofs.types.parse_items.Given as goal

-- the words that are left make of the items so far what all words make of none
abbrev pub invariant-loop-word : goal.invariant-loop-word
invariant-loop-word l =
    items_behind l.items (map (λ w. w.now) (drop l.word-index l.words))
    ≡ items_behind nothing_yet (map (λ w. w.now) l.words)
