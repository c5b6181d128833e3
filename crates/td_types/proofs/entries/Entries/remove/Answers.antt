use Rattle.std.proofs.Common.{ap, ◌∙◌}
use Rattle.std.specs.Map.{values_of}
use Rattle.td_types.proofs.ByName.{Pairs, removed, names_removed}
use Rattle.td_types.proofs.entries.Entries.remove.Goals as goal

pub invariant_of-self : goal.invariant_of-self
invariant_of-self c = record {
  names =
      rw c.shift_remove.ensures.entries
      (names_removed c.self.inside.named.entries c.args.name.now c.self.invariant.names);
  unique = c.shift_remove.ensures.unique;
}

pub returns : goal.returns
returns c =
    rw (← c.self.view_is) (ap (λ (es : Pairs). values_of es) c.shift_remove.ensures.entries
    ∙ removed c.self.inside.named.entries c.args.name.now c.self.invariant.names c.self.invariant.unique)
