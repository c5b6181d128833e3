use Rattle.td_store.proofs.Linking.{next-in}
use Rattle.td_store.proofs.rings.Rings.after.Goals as goal

pub returns-clause-within : goal.returns-clause-within
returns-clause-within c =
    next-in c.args.self.now.joints.items c.args.self.now.linked c.args.joint c.index.result.now c.requires.there
    c.index.ensures
