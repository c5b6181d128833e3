use Rattle.std.proofs.Common.{sym, ◌∙◌}
use Rattle.td_types.proofs.Chained.{no_entry, below_conforms}
use Rattle.td_types.proofs.conforming.entry_conforms.Goals as goal

pub returns-in-None : goal.returns-in-None
returns-in-None c = no_entry c.args.entries.now c.args.sub.now c.args.base.now (sym c.in-None.ensures)

pub returns-in-Some : goal.returns-in-Some
returns-in-Some c =
    c.is_below.ensures ∙ below_conforms c.args.entries.now c.args.sub.now c.args.base.now c.in-Some.entry.now c.requires
    (sym c.in-Some.ensures)
