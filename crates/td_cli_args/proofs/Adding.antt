-- A command to which an argument or a subcommand is added, and one that is named otherwise.
use Rattle.std.proofs.Common.{◌≡◌, ◌∙◌, ◌||◌, ◌+◌, ◌<◌, add-one, ap, ap₂, refl, subst, false, drop, drop-cons, get_or, length}
use Rattle.std.proofs.Common.{map, suc, ℕ, List}
use Rattle.clap.specs.Words.{AddsArg, AddsSubcommand, App, Rule, app_of, rule_of, with_rule, with_subcommand}
use Rattle.clap.specs.Simple.{app_of_fields}
use Rattle.clap.specs.declared.builder.arg.Arg.{Arg}
use Rattle.clap.specs.declared.builder.command.Command.{Command}
use Rattle.clap.specs.declared.builder.command.Command.TheOpen.{Command-F}
use Rattle.clap.specs.declared.builder.command.Command.TheViews.{out-Command}
use Rattle.td_cli_args.specs.Tool.{IsCommand, usage_in, with_apps}
use Rattle.td_cli_args.specs.declared.usages.Usage.{Usage}

pub added : (old : Command) (arg : Arg) (new : Command) (a : App) (r : Rule) → AddsArg old arg new
    → IsCommand a old → rule_of arg ≡ r → arg.global ≡ false
    → IsCommand (with_rule a r) new
added old arg new a r adds is rule local = record {
  app = adds.shape local ∙ ap₂ with_rule is.app rule;
  local = adds.globals ∙ ap₂ (λ x y. x || y) is.local local;
}

pub entered : (old sub new : Command) (a b : App) → AddsSubcommand old sub new → IsCommand a old
    → IsCommand b sub → IsCommand (with_subcommand a b.top) new
entered old sub new a b adds is below = record {
  app = adds.shape below.local ∙ ap₂ with_subcommand is.app (ap (λ (x : App). x.top) below.app);
  local = adds.globals ∙ ap₂ (λ x y. x || y) is.local below.local;
}

-- a name for the usage is no part of what a parse reads
pub same_fields : (old new : Command) (a : App)
    → out-Command new ≡ record (out-Command old) { bin_name = (out-Command new).bin_name } → IsCommand a old
    → IsCommand a new
same_fields old new a same is = record {
  app = ap (λ (f : Command-F Command). app_of_fields f) same ∙ is.app;
  local = ap (λ (f : Command-F Command). f.has_globals) same ∙ is.local;
}

-- ---- the first of the subcommands that are left

-- with these it becomes that, and it has no global argument
abbrev pub Becomes : List App → Command → App → Type 0
Becomes bs c a = (with_apps (app_of c) bs ≡ a) × ((out-Command c).has_globals ≡ false)

pub becomes : (old sub new : Command) (us : List Usage) (i : ℕ) (d : Usage) (a : App) → i < length us
    → AddsSubcommand old sub new → IsCommand (usage_in (get_or us i d)) sub
    → Becomes (map usage_in (drop i us)) old a → Becomes (map usage_in (drop (i + 1) us)) new a
becomes old sub new us i d a h adds below e =
    let one = usage_in (get_or us i d) in
    let left = subst (λ (t : List Usage). Becomes (map usage_in t) old a) (drop-cons us i d h) e in
    let next = entered old sub new (app_of old) one adds (record { app = refl; local = left.1 }) below in
    rw add-one
    (ap (λ (x : App). with_apps x (map usage_in (drop (suc i) us))) next.app ∙ left.0, next.local)
