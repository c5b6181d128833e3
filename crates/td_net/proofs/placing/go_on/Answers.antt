use Rattle.std.proofs.Common.{◌<◌, ◌∙◌, ap, subst, sym, Some}
use Rattle.td_net.proofs.Becoming.{as-settled, still-there, waits-for-call, waits-for-value}
use Rattle.td_net.proofs.placing.go_on.Goals as goal
use Rattle.td_net.specs.Worlds.{after, sent, visit_progress}
use Rattle.td_net.specs.declared.call.Call.{Call}
use Rattle.td_net.specs.declared.advancing.Pending.TheVariants.{SubQuery, Value}

pub index_mut-requires-in-SubQuery : goal.index_mut-requires-in-SubQuery
index_mut-requires-in-SubQuery c =
    subst (λ z. c.args.call < z) (sym c.open.new.calls.ok.0)
    (still-there c.args.visits.now.calls.items c.open.new.calls.items c.args.call
    (λ (k : Call). sent c.in-SubQuery.target c.in-SubQuery.query k.root (Some c.args.call)) c.requires
    c.in_ok-sub-in-SubQuery.ensures.opened)

pub returns-in-Value-clause-becomes : goal.returns-in-Value-clause-becomes
returns-in-Value-clause-becomes c k w is group visits =
    as-settled w c.args.call k c.args.frame.local c.args.frame.answers c.args.steps c.advance.new.frame.answers
    c.advance.new.steps Value c.args.group.now.traders.items c.args.group.now.home _
    (ap (visit_progress c.advance.new.frame.answers c.advance.new.steps) (sym c.in-Value.is) ∙ c.in_ok-advance.ensures.settled)
    group
    (waits-for-value c.args.visits.now.calls.items c.args.call c.args.visits.now.words c.args.frame.local
    c.advance.new.frame c.advance.new.steps c.index_mut.result.now c.stand.new.self c.advance.ensures.local
    c.index_mut.ensures.value c.stand.ensures k w is visits)

pub returns-in_ok-sub-in-SubQuery-clause-becomes :
    goal.returns-in_ok-sub-in-SubQuery-clause-becomes
returns-in_ok-sub-in-SubQuery-clause-becomes c k w is group visits =
    as-settled w c.args.call k c.args.frame.local c.args.frame.answers c.args.steps c.advance.new.frame.answers
    c.advance.new.steps (SubQuery c.in-SubQuery.target c.in-SubQuery.query) c.args.group.now.traders.items
    c.args.group.now.home _
    (ap (visit_progress c.advance.new.frame.answers c.advance.new.steps) (sym c.in-SubQuery.is)
    ∙ c.in_ok-advance.ensures.settled) group
    (waits-for-call c.args.visits.now.calls.items c.open.new.calls.items c.args.call c.args.visits.now.words
    c.args.frame.local c.advance.new.frame c.advance.new.steps c.in-SubQuery.target c.in_ok-sub-in-SubQuery.sub
    c.in-SubQuery.query c.index_mut-in-SubQuery.result.now c.stand-in-SubQuery.new.self c.advance.ensures.local
    c.in_ok-sub-in-SubQuery.ensures.number c.in_ok-sub-in-SubQuery.ensures.opened
    c.index_mut-in-SubQuery.ensures.value c.stand-in-SubQuery.ensures k w is visits)
