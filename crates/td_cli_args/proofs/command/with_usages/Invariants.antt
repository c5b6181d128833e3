use Rattle.std.proofs.Common.{◌≡◌, false, drop, map}
use Rattle.clap.specs.Words.{app_of}
use Rattle.clap.specs.declared.builder.command.Command.TheViews.{out-Command}
use Rattle.td_cli_args.specs.Tool.{usage_in, with_apps}
use Rattle.td_cli_args.proofs.command.with_usages.Given as goal

-- with the subcommands that are left it is what it becomes with all
abbrev pub invariant-loop-usage : goal.invariant-loop-usage
invariant-loop-usage l =
    (with_apps (app_of l.command) (map usage_in (drop l.usage-index l.usages))
    ≡ with_apps (app_of l.initial.command) (map usage_in l.usages))
    × ((out-Command l.command).has_globals ≡ false)
