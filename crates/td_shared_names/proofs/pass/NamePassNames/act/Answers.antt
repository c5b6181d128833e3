use Rattle.td_cell.specs.Passes.{knowledge}
use Rattle.td_shared_names.proofs.Seen.{acts_err, acts_ok}
use Rattle.td_shared_names.proofs.pass.NamePassNames.act.Goals as goal

pub unreachable-requires : goal.unreachable-requires
unreachable-requires g c = c.in-Live.ensures.turned.act

pub returns-clause-ok : goal.returns-clause-ok
returns-clause-ok g c =
    let p = c.args.self.now.pass in
    let q = c.turn.new.self.pass in
    acts_ok (knowledge p) (knowledge q) p.knows q.knows c.args.context c.args.act c.in-Called.answer
    c.in-Called.ensures.turned

pub returns-clause-err : goal.returns-clause-err
returns-clause-err g c =
    let p = c.args.self.now.pass in
    let q = c.turn.new.self.pass in
    acts_err (knowledge p) (knowledge q) p.knows q.knows c.args.context c.args.act c.in-Called.answer
    c.in-Called.ensures.turned
