use Rattle.std.proofs.Common.{ap, ◌∙◌}
use Rattle.std.specs.Map.{values_of}
use Rattle.indexmap.proofs.CallerLemmas.{insert_entry-new}
use Rattle.td_store.specs.LinkNames.{same_key}
use Rattle.td_store.proofs.Linked.{Pairs, is_new, names_push, values_push}
use Rattle.td_store.proofs.links.Links.insert.Goals as goal

pub invariant_of-self : goal.invariant_of-self
invariant_of-self c =
    let absent =
    is_new c.self.inside.named.entries c.args.link.name c.in_ok-name.name c.self.invariant.names
    (c.in_ok-name.ensures ∙ c.get.ensures) (rw (← c.self.view_is) at c.requires.fresh) in
    let entries =
    c.in-Ok.ensures.entries ∙ insert_entry-new same_key c.self.inside.named c.in_ok-name.name c.args.link absent in
    record {
      names =
          rw entries (names_push c.self.inside.named.entries c.in_ok-name.name c.args.link c.self.invariant.names
          (c.in_ok-name.ensures ∙ c.get.ensures));
      unique = c.insert.ensures.unique;
    }

pub returns-in-Ok-clause-added : goal.returns-in-Ok-clause-added
returns-in-Ok-clause-added c =
    let absent =
    is_new c.self.inside.named.entries c.args.link.name c.in_ok-name.name c.self.invariant.names
    (c.in_ok-name.ensures ∙ c.get.ensures) (rw (← c.self.view_is) at c.requires.fresh) in
    let entries =
    c.in-Ok.ensures.entries ∙ insert_entry-new same_key c.self.inside.named c.in_ok-name.name c.args.link absent in
    rw (← c.self.view_is) (ap (λ (es : Pairs). values_of es) entries
    ∙ values_push c.self.inside.named.entries c.in_ok-name.name c.args.link)
