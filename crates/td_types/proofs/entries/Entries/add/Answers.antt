use Rattle.std.proofs.Common.{ap, ◌∙◌}
use Rattle.std.specs.Map.{values_of}
use Rattle.indexmap.proofs.CallerLemmas.{insert_entry-new}
use Rattle.td_types.specs.NamedEntries.{same_key}
use Rattle.td_types.proofs.ByName.{Pairs, is_new, names_push, values_push}
use Rattle.td_types.proofs.entries.Entries.add.Goals as goal

pub invariant_of-self : goal.invariant_of-self
invariant_of-self c =
    let absent =
    is_new c.self.inside.named.entries c.args.entry.service_type.name c.in_ok-name.name c.self.invariant.names
    c.in_ok-name.ensures (rw (← c.self.view_is) at c.requires) in
    let entries =
    c.in-Ok.ensures.entries ∙ insert_entry-new same_key c.self.inside.named c.in_ok-name.name c.args.entry absent in
    record {
      names =
          rw entries (names_push c.self.inside.named.entries c.in_ok-name.name c.args.entry c.self.invariant.names
          c.in_ok-name.ensures);
      unique = c.insert.ensures.unique;
    }

pub returns-in-Ok-clause-added : goal.returns-in-Ok-clause-added
returns-in-Ok-clause-added c =
    let absent =
    is_new c.self.inside.named.entries c.args.entry.service_type.name c.in_ok-name.name c.self.invariant.names
    c.in_ok-name.ensures (rw (← c.self.view_is) at c.requires) in
    let entries =
    c.in-Ok.ensures.entries ∙ insert_entry-new same_key c.self.inside.named c.in_ok-name.name c.args.entry absent in
    rw (← c.self.view_is) (ap (λ (es : Pairs). values_of es) entries
    ∙ values_push c.self.inside.named.entries c.in_ok-name.name c.args.entry)
