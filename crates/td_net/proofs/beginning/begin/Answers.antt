use Rattle.td_net.proofs.Becoming.{err_then, ok_then}
use Rattle.td_net.proofs.Delivering.{delivers, leaves-begun}
use Rattle.td_net.proofs.beginning.begin.Goals as goal

pub returns-clause-begins : goal.returns-clause-begins
returns-clause-begins c k t is at stands =
    ok_then c.go_on_from.result c.go_on_from.ensures.becomes
    (delivers c.args.group.now.traders.items c.args.group.now.home c.args.visits.now.calls.items c.args.clock
    c.args.call c.args.target c.in_ok-begin.begin c.begin.new.self c.deliver.new.self
    (record {
      asked = c.index-2.result.now;
      asked_is = c.index-2.ensures;
      written = c.index_mut-2.result.now;
      written_is = c.index_mut-2.ensures.value;
      seen = c.index.result.now;
      seen_is = c.index.ensures;
      trader = c.index_mut.result.now;
      trader_is = c.index_mut.ensures.value;
      snapshot = c.of-seen.result;
      shows = c.of-seen.ensures;
      begun = c.in_ok-begin.ensures.begin;
      behind = c.in_ok-begin.ensures.after;
      delivered_so = c.deliver.ensures;
    }) k t is at stands c.args.visits.now.words c.go_on_from.new.visits.words
    c.go_on_from.new.visits.calls.items c.go_on_from.ensures.words)

pub returns-clause-err : goal.returns-clause-err
returns-clause-err c k t is at sent stands =
    err_then c.go_on_from.result c.go_on_from.ensures.kept
    (leaves-begun c.args.group.now.traders.items c.args.group.now.home c.args.visits.now.calls.items c.args.clock
    c.args.call c.args.target c.in_ok-begin.begin c.begin.new.self c.deliver.new.self
    (record {
      asked = c.index-2.result.now;
      asked_is = c.index-2.ensures;
      written = c.index_mut-2.result.now;
      written_is = c.index_mut-2.ensures.value;
      seen = c.index.result.now;
      seen_is = c.index.ensures;
      trader = c.index_mut.result.now;
      trader_is = c.index_mut.ensures.value;
      snapshot = c.of-seen.result;
      shows = c.of-seen.ensures;
      begun = c.in_ok-begin.ensures.begin;
      behind = c.in_ok-begin.ensures.after;
      delivered_so = c.deliver.ensures;
    }) k t is at stands c.args.visits.now.words c.go_on_from.new.visits.words
    c.go_on_from.new.visits.calls.items sent)
