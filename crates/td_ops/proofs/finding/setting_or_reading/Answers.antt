use Rattle.std.proofs.Common.{Option, ap, sym, ◌∙◌}
use Rattle.td_cdr.specs.Format.{value_named}
use Rattle.td_ops.specs.declared.operation.Operation.{Operation}
use Rattle.td_ops.specs.Operations.{name_of, setting_operations, admin_readings}
use Rattle.td_ops.proofs.Named.{or_named, value_named_append}
use Rattle.td_ops.proofs.finding.setting_or_reading.Goals as goal

pub returns-in-Some : goal.returns-in-Some
returns-in-Some c =
    ap (λ (o : Option Operation). or_named o (value_named name_of admin_readings c.args.name.now)) c.in-Some.ensures
    ∙ sym (value_named_append name_of setting_operations admin_readings c.args.name.now)
