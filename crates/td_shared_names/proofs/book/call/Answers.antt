use Rattle.td_shared_names.proofs.Called.{called}
use Rattle.td_shared_names.proofs.book.call.Goals as goal

pub returns : goal.returns
returns c =
    called c.args.naming.now c.act.new.self c.args.context c.args.act c.act.result c.act.ensures.ok c.act.ensures.err
