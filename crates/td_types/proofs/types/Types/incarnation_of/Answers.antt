use Rattle.std.proofs.Common.{None, Some, sym, ◌∙◌}
use Rattle.td_types.proofs.Names.{incarnation_so}
use Rattle.td_types.proofs.types.Types.incarnation_of.Goals as goal

pub returns-in_err-entry : goal.returns-in_err-entry
returns-in_err-entry c =
    rw (← c.self.view_is) (c.from_residual.ensures
    ∙ sym (incarnation_so c.self.inside.entries c.args.name.now None c.in_err-entry.ensures))

pub returns : goal.returns
returns c =
    rw (← c.self.view_is) (sym
    (incarnation_so c.self.inside.entries c.args.name.now (Some c.in_ok-entry.entry.now) c.in_ok-entry.ensures))
