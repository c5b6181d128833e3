use Rattle.std.proofs.Common.{arith}
use Rattle.td_objects.proofs.Sizes.{ids_if_small}
use Rattle.td_objects.proofs.references.iterator_reference.Goals as goal

pub returns-clause-small : goal.returns-clause-small
returns-clause-small c =
    ids_if_small c.args.home.now c.args.name.now c.args.number c.own_reference.result c.requires.home c.requires.name
    (omega arith) c.own_reference.ensures
