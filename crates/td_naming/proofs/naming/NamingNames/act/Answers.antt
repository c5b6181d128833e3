use Rattle.td_naming.proofs.Remembering.{meanwhile}
use Rattle.td_naming.proofs.naming.NamingNames.act.Goals as goal

pub returns-clause-err : goal.returns-clause-err
returns-clause-err c = meanwhile c.args.self.now c.act.new.self c.act.result c.act.ensures.err
