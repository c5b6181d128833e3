use Rattle.std.proofs.Common.{refl}
use Rattle.td_lookup.specs.Scenes.{scene}
use Rattle.td_servant.specs.Linking.{peers_seen}
use Rattle.td_trader.proofs.ReadAdmitted.{read_admitted}
use Rattle.td_dispatch.proofs.ObjectCalls.{is_a_invokes, iterator_invokes, non_existent_invokes}
use Rattle.td_dispatch.proofs.TraderCalls.{change_invokes, link_invokes, look_invokes}
use Rattle.td_dispatch.proofs.VisitCalls.{names_perform, query_invokes}
use Rattle.td_dispatch.proofs.backend_ref.BackendRefBackend.answer_call.Goals as goal

pub answer_change-requires-clause-admitted : goal.answer_change-requires-clause-admitted
answer_change-requires-clause-admitted g c =
    read_admitted c.in-Change.c (rw c.in-Change.is at c.requires.servable.1)

pub returns-in-Change-clause-invokes : goal.returns-in-Change-clause-invokes
returns-in-Change-clause-invokes g c =
    rw c.in-Change.is
    (change_invokes g.T.Traders.others g.T.Traders.later (g.T.Traders.world c.args.self.now.traders.now)
    (g.T.Traders.world c.answer_change.new.traders) c.args.home.now c.args.object c.in-Change.c c.args.w.now c.args.w.now
    c.args.desk.now _ _ c.answer_change.result c.or_no_memory.result c.requires.servable.0.within
    c.answer_change.ensures.ok c.answer_change.ensures.if_no_memory c.answer_change.ensures.err c.or_no_memory.ensures)

pub returns-in-Look-clause-invokes : goal.returns-in-Look-clause-invokes
returns-in-Look-clause-invokes g c =
    rw c.in-Look.is
    (look_invokes g.T.Traders.others g.T.Traders.later (g.T.Traders.world c.args.self.now.traders.now)
    (g.T.Traders.world c.answer_look-content.new.traders) c.args.home.now c.args.object c.in-Look.look c.args.w.now
    c.answer_look-content.new.w c.args.desk.now c.answer_look-content.new.desk _ _ c.answer_look-content.result
    c.or_no_memory-in-Look.result c.requires.servable.0.within c.answer_look-content.ensures.watches
    c.answer_look-content.ensures.ok c.answer_look-content.ensures.if_no_memory c.answer_look-content.ensures.err
    c.answer_look-content.ensures.order c.or_no_memory-in-Look.ensures)

pub returns-in-AddLink-clause-invokes : goal.returns-in-AddLink-clause-invokes
returns-in-AddLink-clause-invokes g c =
    let b = c.args.self.now in
    rw c.in-AddLink.is
    (link_invokes g.T.Traders.others g.T.Traders.later (g.T.Traders.world b.traders.now)
    (g.T.Traders.world c.answer_add_link.new.traders) c.args.home.now c.args.object c.in-AddLink.link
    (peers_seen (g.P.Peers.calls b.peers.now) (g.P.Peers.faults b.peers.now))
    (peers_seen (g.P.Peers.calls c.answer_add_link.new.peers) (g.P.Peers.faults c.answer_add_link.new.peers))
    c.args.desk.now _ c.args.w.now c.args.w.now c.answer_add_link.result c.or_no_memory-in-AddLink.result
    c.requires.servable.0.within c.answer_add_link.ensures.ok c.answer_add_link.ensures.if_no_memory
    c.answer_add_link.ensures.err c.answer_add_link.ensures.unasked c.answer_add_link.ensures.faults
    c.or_no_memory-in-AddLink.ensures)

pub returns-in-Iter-clause-invokes : goal.returns-in-Iter-clause-invokes
returns-in-Iter-clause-invokes g c =
    rw c.in-Iter.is
    (iterator_invokes g.T.Traders.others g.T.Traders.later c.args.home.now c.args.object
    (g.T.Traders.world c.args.self.now.traders.now) c.in-Iter.iter c.args.w.now c.answer_iterator.new.w
    c.args.desk.now c.answer_iterator.new.desk _ _ c.name-name.result.now c.number_in-number.result
    c.answer_iterator.result c.or_no_memory-in-Iter.result c.requires.servable.0.within c.name-name.ensures
    c.number_in-number.ensures c.answer_iterator.ensures.ok c.answer_iterator.ensures.if_no_memory
    c.answer_iterator.ensures.err c.answer_iterator.ensures.order c.or_no_memory-in-Iter.ensures)

pub returns-in-IsA-clause-invokes : goal.returns-in-IsA-clause-invokes
returns-in-IsA-clause-invokes g c =
    rw c.in-IsA.is
    (is_a_invokes g.T.Traders.others g.T.Traders.later c.args.home.now c.args.object c.in-IsA.id c.args.w.now c.args.w.now _
    c.answer_is_a.result (rw c.as_slice.ensures at c.answer_is_a.ensures))

pub returns-in-NonExistent-clause-invokes : goal.returns-in-NonExistent-clause-invokes
returns-in-NonExistent-clause-invokes g c =
    rw c.in-NonExistent.is
    (non_existent_invokes g.T.Traders.others g.T.Traders.later c.args.home.now c.args.object c.args.w.now c.args.w.now _
    c.answer_non_existent.result c.answer_non_existent.ensures)

pub returns-in-Query-clause-invokes : goal.returns-in-Query-clause-invokes
returns-in-Query-clause-invokes g c =
    let b = c.args.self.now in
    let after = c.answer_query-content.new in
    rw c.in-Query.is
    (query_invokes g.T.Traders.others g.T.Traders.later c.args.home.now c.args.object
    (scene (g.T.Traders.world b.traders.now) c.args.desk.now
    (peers_seen (g.P.Peers.calls b.peers.now) (g.P.Peers.faults b.peers.now)) (g.W.Words.word b.words.now))
    (scene (g.T.Traders.world after.traders) after.desk
    (peers_seen (g.P.Peers.calls after.peers) (g.P.Peers.faults after.peers)) (g.W.Words.word after.words))
    c.in-Query.query c.args.w.now after.w c.answer_query-content.result c.requires.servable.0.within
    (c.answer_query-content.ensures.content c.args.object refl)
    (c.answer_query-content.ensures.if_no_memory c.args.object refl)
    c.answer_query-content.ensures.order)

pub returns-in-Resolve-clause-invokes : goal.returns-in-Resolve-clause-invokes
returns-in-Resolve-clause-invokes g c =
    let b = c.args.self.now in
    let after = c.answer_resolve.new in
    let words = g.W.Words.word b.words.now in
    let d = c.args.desk.now in
    rw c.in-Resolve.is
    (names_perform g.T.Traders.others g.T.Traders.later c.args.home.now c.args.object
    (scene (g.T.Traders.world b.traders.now) d
    (peers_seen (g.P.Peers.calls b.peers.now) (g.P.Peers.faults b.peers.now)) words)
    (scene (g.T.Traders.world after.traders) d
    (peers_seen (g.P.Peers.calls after.peers) (g.P.Peers.faults after.peers)) words)
    c.in-Resolve.names c.args.w.now c.args.w.now c.answer_resolve.result c.requires.servable.0.within
    (c.answer_resolve.ensures.content c.args.object d words refl)
    (c.answer_resolve.ensures.if_no_memory c.args.object d words refl))
