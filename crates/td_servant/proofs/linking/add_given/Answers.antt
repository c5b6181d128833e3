use Rattle.std.proofs.Common.{inl, refl}
use Rattle.td_servant.proofs.linking.add_given.Goals as goal
use Rattle.td_servant.specs.Linking.{link_change, register_given}
use Rattle.td_servant.proofs.Admitted.{register_admitted}

pub returns-in-Err-clause-linked : goal.returns-in-Err-clause-linked
returns-in-Err-clause-linked g c =
    c.asked_without_memory.ensures.content (g.T.Traders.world c.args.traders.now)
    (link_change c.args.call (register_given c.args.gave)) (inl refl)

pub add_as-requires-clause-admitted : goal.add_as-requires-clause-admitted
add_as-requires-clause-admitted g c =
    c.link_change.ensures.admitted c.requires.admitted
    (register_admitted c.args.gave c.in-Ok.register c.in-Ok.ensures c.requires.given)
