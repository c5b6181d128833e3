use Rattle.td_shared_names_tests.proofs.Each.{each_less, each_stays}
use Rattle.td_shared_names_tests.proofs.threads.take_in_each.Goals as goal

pub take_in-requires-clause-out : goal.take_in-requires-clause-out
take_in-requires-clause-out g c =
    (each_less (λ x. x.pass) c.loop-session.pass c.loop-session.sessions.items c.pop.new.self.items
    c.in-Some.session c.in-Some.ensures.items c.loop-session.invariant.1).1

pub loop-session-preserved : goal.loop-session-preserved
loop-session-preserved g c = (
  c.take_in.ensures.opening,
  each_stays (λ x. x.pass) c.loop-session.pass c.take_in.new.pass c.pop.new.self.items c.take_in.ensures.stays
      (each_less (λ x. x.pass) c.loop-session.pass c.loop-session.sessions.items c.pop.new.self.items
      c.in-Some.session c.in-Some.ensures.items c.loop-session.invariant.1).0,
)
