use Rattle.std.proofs.Common.{◌≡◌, drop}
use Rattle.td_types.specs.Removing.{sub_entry}
use Rattle.td_types.proofs.removing.sub_entry.Given as goal

abbrev pub invariant-loop-entry : goal.invariant-loop-entry
invariant-loop-entry l = sub_entry (drop l.entry-index l.entries) l.name ≡ sub_entry l.entries l.name
