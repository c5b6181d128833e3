use Rattle.std.proofs.Common.{subst, sym}
use Rattle.std.specs.Prelude.{IfSome}
use Rattle.td_peers.specs.Scripts.{AreAllowed, IsAllowed}
use Rattle.td_peers.proofs.Smallness.{entry_small, rest_small}
use Rattle.td_peers.proofs.mem_peers.MemPeers.take.Goals as goal

pub invariant_of-self : goal.invariant_of-self
invariant_of-self c = (
  subst AreAllowed (sym c.take_entry.ensures.rest)
      (rest_small c.self.inside.script.items c.args.place c.self.invariant.0),
  c.self.invariant.1,
)

pub returns-clause-small : goal.returns-clause-small
returns-clause-small c =
    subst (λ e. IfSome e IsAllowed) (sym c.take_entry.ensures.entry)
    (entry_small c.self.inside.script.items c.args.place c.self.invariant.0)
