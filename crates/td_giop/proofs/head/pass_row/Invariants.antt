use Rattle.std.proofs.Common.{◌≡◌, ◌-◌}
use Rattle.td_cdr.specs.Format.{array_format}
use Rattle.td_giop.specs.Heads.{context, skip_value}
use Rattle.td_giop.proofs.head.pass_row.Given as goal

-- what is left to pass over from here is all that there was from the beginning
abbrev pub invariant-loop-turn : goal.invariant-loop-turn
invariant-loop-turn l =
    skip_value ((array_format context.format (l.count - l.turn)).reads l.r)
    ≡ skip_value ((array_format context.format l.count).reads l.initial.r)
