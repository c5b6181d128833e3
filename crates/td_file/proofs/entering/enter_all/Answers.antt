use Rattle.std.proofs.Common.{◌≡◌}
use Rattle.std.specs.Vec.Iter.{into_iter_items}
use Rattle.std.proofs.lemmas.Result.{err_from_is_err_and}
use Rattle.td_file.specs.Openings.{store_after}
use Rattle.td_file.proofs.Entrance.{entry_refused}
use Rattle.td_file.proofs.entering.enter_all.Goals as goal

pub returns-in_err-enter-clause-enters : goal.returns-in_err-enter-clause-enters
returns-in_err-enter-clause-enters c =
    let taken = rw c.in-Some.is at c.next.ensures.steps in
    let p = err_from_is_err_and c.from_residual.result c.from_residual.ensures.1 in
    let whole : store_after c.args.home.now c.loop-one.store (into_iter_items c.loop-one.one-iterator)
    ≡ store_after c.args.home.now c.args.store.now c.args.entries = cc in
    rw (p.1, p.2) (entry_refused c.args.home.now c.loop-one.store c.in-Some.one
    (into_iter_items c.loop-one.one-iterator) (into_iter_items c.next.new.self)
    (store_after c.args.home.now c.args.store.now c.args.entries) _ taken.0 c.in_err-enter.ensures.enters whole)
