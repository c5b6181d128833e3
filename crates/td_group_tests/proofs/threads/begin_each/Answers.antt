use Rattle.std.proofs.Common.{arith}
use Rattle.std.proofs.lemmas.List.{nil_from_length}
use Rattle.td_group_tests.proofs.Each.{each_more, none_out}
use Rattle.td_group_tests.proofs.threads.begin_each.Goals as goal

pub loop-init : goal.loop-init
loop-init g c = (
  c.requires,
  none_out (λ x. x.passes.items) c.args.passes.now.items c.in_ok-sessions.sessions.items
      (nil_from_length c.in_ok-sessions.sessions.items (omega (
        arith,
        c.in_ok-sessions.ensures.len,
        c.in_ok-sessions.sessions.ok.0,
      ))),
)

pub loop-preserved : goal.loop-preserved
loop-preserved g c = (
  c.pass.ensures.opening,
  each_more (λ x. x.passes.items) c.loop.passes.items c.pass.new.passes.items c.loop.sessions.items
      c.push.new.self.items c.in_ok-session.session c.pass.ensures.stays c.loop.invariant.1 c.in_ok-session.ensures.out
      c.in_ok-push.ensures.items,
)
