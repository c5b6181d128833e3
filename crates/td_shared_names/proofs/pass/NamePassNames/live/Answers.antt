use Rattle.td_cell.specs.Passes.{knowledge}
use Rattle.td_shared_names.proofs.Seen.{looks}
use Rattle.td_shared_names.proofs.pass.NamePassNames.live.Goals as goal

pub unreachable-requires : goal.unreachable-requires
unreachable-requires g c = c.in-Called.ensures.turned.act

pub returns-clause-live : goal.returns-clause-live
returns-clause-live g c =
    let p = c.args.self.now.pass in
    let q = c.turn.new.self.pass in
    looks (knowledge p) (knowledge q) p.knows q.knows c.args.context c.in-Live.live c.in-Live.ensures.turned
