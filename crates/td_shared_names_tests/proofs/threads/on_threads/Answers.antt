use Rattle.std.proofs.Common.{◌≡◌, arith, length}
use Rattle.td_shared_names_tests.proofs.Each.{each_ended}
use Rattle.td_shared_names_tests.proofs.threads.on_threads.Goals as goal

pub take_in_each-requires-clause-out : goal.take_in_each-requires-clause-out
take_in_each-requires-clause-out g c =
    let js = c.in_ok-sessions.sessions in
    let rs = c.in_ok-ended.ended in
    let n : length rs.items ≡ length js.items = omega (arith, c.in_ok-ended.ensures.len, rs.ok.0, js.ok.0) in
    each_ended (λ x. x.pass) c.begin_each.new.pass js.items rs.items n
    (λ i d inside. c.in_ok-ended.ensures.same i d (omega (arith, inside, js.ok.0))) c.in_ok-sessions.ensures.out
