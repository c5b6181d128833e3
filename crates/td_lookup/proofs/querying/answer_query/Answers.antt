use Rattle.std.proofs.Common.{sym, subst}
use Rattle.td_cdr.specs.Names.{IsTraderName}
use Rattle.td_lookup.proofs.Limited.{visited_limits}
use Rattle.td_lookup.proofs.Moved.{still_named, still_within}
use Rattle.td_lookup.proofs.Queried.{query_back, parse_query}
use Rattle.td_lookup.proofs.Small.{visited_small}
use Rattle.td_lookup.proofs.querying.answer_query.Goals as goal
use Rattle.td_lookup.specs.Scenes.{scene}
use Rattle.td_servant.specs.Linking.{peers_seen}
use Rattle.td_query_walk.proofs.Counting.{counted-up}

pub name-requires : goal.name-requires
name-requires g c =
    still_within g.T.Traders.others g.T.Traders.later _ _ c.args.asked.trader c.visit-visited.ensures.goes
    c.requires.named.within

pub tell_visit-content-requires-clause-name : goal.tell_visit-content-requires-clause-name
tell_visit-content-requires-clause-name g c =
    subst IsTraderName (sym c.name.ensures)
    (still_named g.T.Traders.others g.T.Traders.later _ _ c.args.asked.trader c.visit-visited.ensures.goes c.requires.named)

pub tell_visit-content-requires-clause-limits : goal.tell_visit-content-requires-clause-limits
tell_visit-content-requires-clause-limits g c =
    visited_limits g.T.Traders.others g.T.Traders.later c.args.asked.home.now _ _ c.args.asked.trader c.args.asked.query.now _ _
    c.visit-visited.result c.visit-visited.ensures.visited

pub tell_visit-content-requires-clause-small : goal.tell_visit-content-requires-clause-small
tell_visit-content-requires-clause-small g c =
    rw c.get.ensures
    (visited_small g.T.Traders.others g.T.Traders.later c.args.asked.home.now _ _ c.args.asked.trader c.args.asked.query.now _ _
    c.visit-visited.result c.visit-visited.ensures.visited)

pub returns-clause-content : goal.returns-clause-content
returns-clause-content g c = λ x at.
    let s =
    scene (g.T.Traders.world c.args.traders.now) c.args.desk.now
    (peers_seen (g.P.Peers.calls c.args.peers.now) (g.P.Peers.faults c.args.peers.now))
    (g.W.Words.word c.args.words.now) in
    let t =
    scene (g.T.Traders.world c.visit-visited.new.traders) c.tell_visit-content.new.desk
    (peers_seen (g.P.Peers.calls c.visit-visited.new.peers) (g.P.Peers.faults c.visit-visited.new.peers))
    (g.W.Words.word c.visit-visited.new.words) in
    parse_query g.T.Traders.others g.T.Traders.later c.args.asked.home.now x c.args.asked.trader c.args.asked.query.now s t
    c.visit-visited.new.trace at c.args.w.now c.tell_visit-content.new.w c.tell_visit-content.result
    c.visit-visited.result c.new.result c.name.result.now c.walk_answer.result
    (record {
      came = c.visit-visited.ensures.visited;
      so_far = c.visit-visited.ensures.so_far;
      seen = c.visit-visited.ensures.shown;
      goes = c.visit-visited.ensures.goes;
      draws = c.visit-visited.ensures.draws;
      faults = c.visit-visited.ensures.faults;
    }) c.new.ensures c.name.ensures (rw c.get.ensures at c.tell_visit-content.ensures.content)
    c.tell_visit-content.ensures.err c.walk_answer.ensures

pub returns-clause-if_no_memory : goal.returns-clause-if_no_memory
returns-clause-if_no_memory g c = λ x at.
    let s =
    scene (g.T.Traders.world c.args.traders.now) c.args.desk.now
    (peers_seen (g.P.Peers.calls c.args.peers.now) (g.P.Peers.faults c.args.peers.now))
    (g.W.Words.word c.args.words.now) in
    let t =
    scene (g.T.Traders.world c.visit-visited.new.traders) c.tell_visit-content.new.desk
    (peers_seen (g.P.Peers.calls c.visit-visited.new.peers) (g.P.Peers.faults c.visit-visited.new.peers))
    (g.W.Words.word c.visit-visited.new.words) in
    query_back g.T.Traders.others g.T.Traders.later c.args.asked.home.now x c.args.asked.trader c.args.asked.query.now s t
    c.visit-visited.new.trace at c.args.w.now c.tell_visit-content.new.w c.tell_visit-content.result
    c.visit-visited.result c.new.result c.walk_answer.result
    (record {
      came = c.visit-visited.ensures.visited;
      so_far = c.visit-visited.ensures.so_far;
      seen = c.visit-visited.ensures.shown;
      goes = c.visit-visited.ensures.goes;
      draws = c.visit-visited.ensures.draws;
      faults = c.visit-visited.ensures.faults;
    }) c.new.ensures c.tell_visit-content.ensures.unwritten c.tell_visit-content.ensures.err c.walk_answer.ensures

pub returns-clause-faults : goal.returns-clause-faults
returns-clause-faults g c = counted-up _ _ _ _ c.visit-visited.ensures.faults
