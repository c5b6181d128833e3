use Rattle.std.proofs.Common.{◌≡◌, ℕ, length, Some, OnOk, ap, subst, ◌∙◌}
use Rattle.td_net.specs.Worlds.{visit_at}
use Rattle.td_net.specs.declared.event.Event.TheVariants as event
use Rattle.td_ops.specs.declared.call.Query.{Query}
use Rattle.td_audit.proofs.Going.{asks-by, follows-ends}
use Rattle.td_audit.specs.Following.{FollowsTo, PutsReply}
use Rattle.td_audit.specs.Making.{AcceptsEvent}
use Rattle.td_audit.proofs.making.ask_trader.Goals as goal

pub returns-clause-asks : goal.returns-clause-asks
returns-clause-asks c =
    let home = c.args.home.now in
    let name = c.args.name.now in
    let w = c.args.net.now in
    let u = c.take.new.net in
    let x = c.follow.new.net in
    let asked = c.put_ask.new.text.items in
    let content = c.follow.new.text.items in
    let new = c.put_reply.new.text.items in
    let accepts = subst (λ (q : Query). AcceptsEvent w (event.Ask c.args.trader q) u)
    (c.in_ok-query.ensures ∙ c.in_ok-drill_query.ensures) c.in_ok-take.ensures.accepts in
    let f : FollowsTo (length w.calls) u asked content x =
    subst (λ (k : ℕ). FollowsTo k u asked content x) c.calls-call.ensures c.in_ok-follow.ensures.follows in
    let ends : visit_at x.calls c.calls-call.result ≡ Some f.visit =
    ap (visit_at x.calls) c.calls-call.ensures ∙ follows-ends f.follows in
    let p =
    subst (λ (k : ℕ). OnOk c.put_reply.result (PutsReply home name k f.visit content new)) c.calls-call.ensures
    (c.put_reply.ensures f.visit ends) in
    asks-by home c.args.trader name w u x c.args.text.now.items asked content new c.put_reply.result
    c.in_ok-put_ask.ensures.content c.in_ok-put_ask.ensures.octets accepts f p
