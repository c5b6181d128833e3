use Rattle.std.proofs.Common.{arith}
use Rattle.std.proofs.lemmas.List.{nil_from_length}
use Rattle.td_shared_names_tests.proofs.Each.{each_more, none_out}
use Rattle.td_shared_names_tests.proofs.threads.begin_each.Goals as goal

pub loop-init : goal.loop-init
loop-init g c = (
  c.requires,
  none_out (λ x. x.pass) c.args.pass.now c.in_ok-sessions.sessions.items
      (nil_from_length c.in_ok-sessions.sessions.items (omega (
        arith,
        c.in_ok-sessions.ensures.len,
        c.in_ok-sessions.sessions.ok.0,
      ))),
)

pub loop-preserved : goal.loop-preserved
loop-preserved g c = (
  c.pass.ensures.opening,
  each_more (λ x. x.pass) c.loop.pass c.pass.new.pass c.loop.sessions.items c.push.new.self.items
      c.in_ok-session.session c.pass.ensures.stays c.loop.invariant.1 c.in_ok-session.ensures.out
      c.in_ok-push.ensures.items,
)
