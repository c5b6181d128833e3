use Rattle.std.proofs.Common.{◌≡◌, ◌∙◌, ◌-◌, ◌<◌, length, refl, subst, sym}
use Rattle.td_net.proofs.Halting.{at-local, begin, done-at, falls, goes, stops}
use Rattle.td_net.proofs.advancing.advance.Goals as goal
use Rattle.td_net.specs.Worlds.{IsDoneAt, inside}
use Rattle.td_store.specs.declared.local.Local.{Local}
use Rattle.td_query_walk.specs.Reach.{turns_of}

pub loop-pending-init : goal.loop-pending-init
loop-pending-init c = (
  refl,
  begin (inside c.args.group.now.traders.items c.args.group.now.home) c.args.frame.now.local
      c.args.frame.now.answers c.args.steps.now,
)

pub returns-in-Some-clause-settled : goal.returns-in-Some-clause-settled
returns-in-Some-clause-settled c =
    let i = inside c.args.group.now.traders.items c.args.group.now.home in
    stops i c.args.frame.now.local c.args.frame.now.answers c.args.steps.now c.loop-pending.frame.answers
    c.loop-pending.steps c.advance_once.new.frame.answers c.advance_once.new.steps c.in-Some.pending
    c.loop-pending.invariant.1
    (at-local i c.args.frame.now.local c.loop-pending.frame.local c.loop-pending.frame.answers c.loop-pending.steps
    c.advance_once.new.frame.answers c.advance_once.new.steps _ _ c.loop-pending.invariant.0 c.in-Some.is
    c.in_ok-pending.ensures.settled)

pub returns-in-Some-clause-done : goal.returns-in-Some-clause-done
returns-in-Some-clause-done c =
    let i = inside c.args.group.now.traders.items c.args.group.now.home in
    subst (λ (z : Local). IsDoneAt z c.advance_once.new.frame.answers c.in-Some.pending)
    (sym c.advance_once.ensures.local)
    (done-at i c.loop-pending.frame.local c.loop-pending.frame.answers c.loop-pending.steps
    c.advance_once.new.frame.answers c.advance_once.new.steps c.in-Some.pending
    (at-local i c.loop-pending.frame.local c.loop-pending.frame.local c.loop-pending.frame.answers
    c.loop-pending.steps c.advance_once.new.frame.answers c.advance_once.new.steps _ _ refl c.in-Some.is
    c.in_ok-pending.ensures.settled))

pub loop-pending-smaller : goal.loop-pending-smaller
loop-pending-smaller c =
    let i = inside c.args.group.now.traders.items c.args.group.now.home in
    subst
    (λ (z : Local). turns_of z - length c.advance_once.new.frame.answers
    < turns_of c.loop-pending.frame.local - length c.loop-pending.frame.answers) (sym c.advance_once.ensures.local)
    (falls i c.loop-pending.frame.local c.loop-pending.frame.answers c.loop-pending.steps
    c.advance_once.new.frame.answers c.advance_once.new.steps
    (at-local i c.loop-pending.frame.local c.loop-pending.frame.local c.loop-pending.frame.answers
    c.loop-pending.steps c.advance_once.new.frame.answers c.advance_once.new.steps _ _ refl c.in-None.is
    c.in_ok-pending.ensures.settled))

pub loop-pending-preserved : goal.loop-pending-preserved
loop-pending-preserved c =
    let i = inside c.args.group.now.traders.items c.args.group.now.home in (
      c.advance_once.ensures.local ∙ c.loop-pending.invariant.0,
      goes i c.args.frame.now.local c.args.frame.now.answers c.args.steps.now c.loop-pending.frame.answers
          c.loop-pending.steps c.advance_once.new.frame.answers c.advance_once.new.steps c.loop-pending.invariant.1
          (at-local i c.args.frame.now.local c.loop-pending.frame.local c.loop-pending.frame.answers
          c.loop-pending.steps c.advance_once.new.frame.answers c.advance_once.new.steps _ _ c.loop-pending.invariant.0
          c.in-None.is c.in_ok-pending.ensures.settled),
    )
