use Rattle.std.proofs.Common.{◌≡◌, false, drop, map}
use Rattle.clap.specs.Words.{app_of, new_app}
use Rattle.clap.specs.declared.builder.command.Command.TheViews.{out-Command}
use Rattle.td_cli_args.specs.Tool.{with_words}
use Rattle.td_cli_args.proofs.command.placed.Given as goal

-- with the words that are left it is what it becomes with all
abbrev pub invariant-loop-word : goal.invariant-loop-word
invariant-loop-word l =
    (with_words (app_of l.command) (map (λ w. w.id.now) (drop l.word-index l.word-items))
    ≡ with_words (new_app l.usage.name.now) (map (λ w. w.id.now) l.usage.places.now))
    × ((out-Command l.command).has_globals ≡ false)
