-- From what a number of traders comes to, to the command that names it.
use Rattle.std.proofs.Common.{◌≡◌, ℕ, Option, Some, None, option_map, sym, subst}
use Rattle.td_command.specs.Printing.{SinkSeen}
use Rattle.td_command.specs.Shelves.{Shelves}
use Rattle.td_make.specs.Generated.{generated_file}
use Rattle.td_audit_run.specs.Audits.{IsUnasked, Obeys, SaysLog}
use Rattle.td_audit_run.specs.Commands.{Log}
use Rattle.td_audit_run.specs.Printing.{PrintsOf}
use Rattle.td_audit_run.specs.declared.audited.Audited.{Audited}
use Rattle.td_audit_run.specs.declared.audited.Audited.TheVariants.{Usage}

pub by_count : (found : Option ℕ) (count : ℕ) (texts : Shelves) (ended : Audited) (before after : SinkSeen)
    → found ≡ Some count → PrintsOf SaysLog (generated_file count) ended before after → IsUnasked texts
    → Obeys (option_map Log found) texts ended before after
by_count found count texts ended before after is prints unasked =
    subst (λ (o : Option ℕ). Obeys (option_map Log o) texts ended before after) (sym is) (prints, unasked)

pub by_none : (found : Option ℕ) (texts : Shelves) (ended : Audited) (before after : SinkSeen) → found ≡ None
    → ended ≡ Usage → IsUnasked texts → after ≡ before → Obeys (option_map Log found) texts ended before after
by_none found texts ended before after is usage unasked same =
    subst (λ (o : Option ℕ). Obeys (option_map Log o) texts ended before after) (sym is) (usage, unasked, same)
