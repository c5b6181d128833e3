use Rattle.td_types.proofs.Chained.{chain_iff}
use Rattle.td_types.proofs.types.Types.conforms.Goals as goal

pub returns-clause-chain : goal.returns-clause-chain
returns-clause-chain c =
    rw (← c.self.view_is) (chain_iff c.self.inside.entries c.args.sub.now c.as_slice.result.now c.args.base.now
    c.as_slice-2.result.now c.entry_conforms.result c.self.invariant.valid.founded c.as_slice.ensures
    c.as_slice-2.ensures c.entry_conforms.ensures)
