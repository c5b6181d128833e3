use Rattle.std.proofs.Common.{ap, ◌∙◌}
use Rattle.std.specs.Map.{values_of}
use Rattle.td_store.proofs.Linked.{Pairs, found, removed, names_removed}
use Rattle.td_store.proofs.links.Links.remove.Goals as goal

pub invariant_of-self : goal.invariant_of-self
invariant_of-self c = record {
  names =
      rw c.shift_remove.ensures.entries
      (names_removed c.self.inside.named.entries c.as_slice.result.now c.self.invariant.names);
  unique = c.shift_remove.ensures.unique;
}

pub returns-clause-value : goal.returns-clause-value
returns-clause-value c =
    rw (← c.self.view_is, ← c.as_slice.ensures)
    (c.shift_remove.ensures.value ∙ found c.self.inside.named.entries c.as_slice.result.now c.self.invariant.names)

pub returns-clause-others : goal.returns-clause-others
returns-clause-others c =
    rw (← c.self.view_is, ← c.as_slice.ensures) (ap (λ (es : Pairs). values_of es) c.shift_remove.ensures.entries
    ∙ removed c.self.inside.named.entries c.as_slice.result.now c.self.invariant.names c.self.invariant.unique)
