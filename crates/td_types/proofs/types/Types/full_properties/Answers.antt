use Rattle.td_types.proofs.Names.{no_properties, its_properties}
use Rattle.td_types.proofs.types.Types.full_properties.Goals as goal

pub returns-in-None : goal.returns-in-None
returns-in-None c = rw (← c.self.view_is) (no_properties c.self.inside.entries c.args.name.now c.in-None.ensures)

pub returns-in-Some : goal.returns-in-Some
returns-in-Some c =
    rw (← c.self.view_is, c.as_slice.ensures)
    (its_properties c.self.inside.entries c.args.name.now c.in-Some.entry.now c.self.invariant.kept
    c.in-Some.ensures)
