use Rattle.td_name_session.proofs.Invoking.{cut_lists}
use Rattle.td_name_session.proofs.listing.list.Goals as goal

pub returns-in-Done-Bindings-clause-ok : goal.returns-in-Done-Bindings-clause-ok
returns-in-Done-Bindings-clause-ok g c =
    let there = c.in-Done-Bindings in
    cut_lists g.N.Names.others c.args.context c.args.how_many c.args.w.now (g.N.Names.view c.args.names.now)
    (g.N.Names.view c.act.new.self) c.args.iterators.now there.bindings c.in_ok-reference.reference
    c.cut.new.iterators c.cut.new.w c.cut.result (rw (there.is, there.field-0-is) at c.in_ok-other.ensures.ok)
    (rw (c.home.ensures.home, c.next_number.ensures) at c.in_ok-reference.ensures.made) c.cut.ensures.ok
