use Rattle.td_file.proofs.Rows.{apart}
use Rattle.td_file.proofs.Whole.{opens_at, refuses_at}
use Rattle.td_file.proofs.reading.open_at.Goals as goal

pub open_unless-requires : goal.open_unless-requires
open_unless-requires c = apart c.args.home c.args.content c.in-Ok.traders c.in-Ok.ensures c.requires.distinct

pub returns-in-Ok : goal.returns-in-Ok
returns-in-Ok c =
    opens_at c.args.home c.args.seed c.args.content c.args.refused c.later_refusal-later.result c.in-Ok.traders
    c.open_unless.result c.in-Ok.ensures (cc) c.open_unless.ensures

pub returns-in-Err : goal.returns-in-Err
returns-in-Err c =
    refuses_at c.args.home c.args.seed c.args.content c.args.refused c.in-Err.fault c.in-Err.ensures
