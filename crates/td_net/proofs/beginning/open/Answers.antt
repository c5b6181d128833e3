use Rattle.td_net.proofs.Becoming.{opens}
use Rattle.td_net.proofs.beginning.open.Goals as goal

pub returns-clause-becomes : goal.returns-clause-becomes
returns-clause-becomes c =
    opens c.go_on.result c.args.group.now.traders.items c.args.group.now.home c.args.visits.now.calls.items
    c.args.visits.now.words c.args.call c.in_ok-frame.frame c.args.local c.new-2.result
    c.go_on.new.visits.calls.items c.go_on.new.visits.words.drawn c.in_ok-frame.ensures c.new-2.ensures
    c.go_on.ensures.becomes
