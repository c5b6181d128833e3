use Rattle.td_name_sessions.proofs.Served.{served}
use Rattle.td_name_sessions.proofs.session.serve_visitor.Goals as goal

pub returns-clause-serves : goal.returns-clause-serves
returns-clause-serves g c =
    served g.N.Names.others (g.N.Names.view c.args.names.now) c.args.room.now.desk _ _ _ _ _ c.requires.new.desk
    c.serve_names.ensures.serves c.serve_names.ensures.complete
