use Rattle.std.proofs.Common.{None, Some, refl}
use Rattle.td_types.specs.Kept.{entry_type}
use Rattle.td_types.proofs.Names.{named_so}
use Rattle.td_types.proofs.types.Types.interface_of.Goals as goal

pub returns-in_err-entry : goal.returns-in_err-entry
returns-in_err-entry c =
    rw (c.from_residual.ensures, ← c.self.view_is)
    (named_so c.self.inside.entries c.args.name.now None c.in_err-entry.ensures)

pub returns : goal.returns
returns c =
    rw (← c.self.view_is) (
      entry_type c.in_ok-entry.entry.now,
      named_so c.self.inside.entries c.args.name.now (Some c.in_ok-entry.entry.now) c.in_ok-entry.ensures,
      refl,
    )
