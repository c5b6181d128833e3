use Rattle.td_names.proofs.Walks.{held_if}
use Rattle.td_names.proofs.store.NameStore.place.Goals as goal

pub returns-clause-live : goal.returns-clause-live
returns-clause-live c =
    held_if c.args.self.now c.args.context c.args.name.now c.in_ok-place.place c.requires c.in_ok-place.ensures
