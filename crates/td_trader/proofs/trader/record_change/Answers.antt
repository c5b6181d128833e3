use Rattle.std.proofs.Common.{◌≡◌, List, Ok, false, length, refl, ap, arith, ◌∙◌}
use Rattle.td_ops.specs.declared.outcome.Outcome.TheVariants.{Done}
use Rattle.td_changes.specs.Applying.{is_at_limit}
use Rattle.td_register.specs.declared.history.Accepted.{Accepted}
use Rattle.td_changes.proofs.Entering.{not-recorded, recorded-after, records-done}
use Rattle.td_trader.proofs.trader.record_change.Goals as goal

pub returns-in-Ok-clause-records : goal.returns-in-Ok-clause-records
returns-in-Ok-clause-records c =
    let h = c.args.history.now.items in
    let n : c.len.result ≡ length h =
    omega (arith, c.len.ensures, c.reserve.new.self.ok.0, ap (λ (x : List Accepted). length x) c.reserve.ensures.items) in
    recorded-after c.args.bounds.now (length h) c.is_at_limit-full.result c.args.c c.args.store.now
    c.apply_change.new.store h c.push_reserved.new.self.items c.args.reserved.now false (Ok (Done c.in_ok-content.content))
    (c.is_at_limit-full.ensures ∙ ap (is_at_limit c.args.bounds.now) n)
    (records-done c.is_at_limit-full.result c.args.c c.args.store.now c.apply_change.new.store h c.reserve.new.self.items
    c.push_reserved.new.self.items c.args.reserved.now false c.in-Ok.accepted c.in_ok-content.content
    c.in-Ok.ensures.accepts c.in_ok-content.ensures.reply c.reserve.ensures.items c.push_reserved.ensures.items refl)

pub returns-in-Err-clause-records : goal.returns-in-Err-clause-records
returns-in-Err-clause-records c =
    let h = c.args.history.now.items in
    let n : c.len.result ≡ length h =
    omega (arith, c.len.ensures, c.reserve.new.self.ok.0, ap (λ (x : List Accepted). length x) c.reserve.ensures.items) in
    recorded-after c.args.bounds.now (length h) c.is_at_limit-full.result c.args.c c.args.store.now
    c.apply_change.new.store h c.reserve.new.self.items c.args.reserved.now c.args.reserved.now c.not_done.result
    (c.is_at_limit-full.ensures ∙ ap (is_at_limit c.args.bounds.now) n)
    (not-recorded c.is_at_limit-full.result c.args.c c.args.store.now c.apply_change.new.store h c.reserve.new.self.items
    c.args.reserved.now c.in-Err.fault c.not_done.result c.in-Err.ensures.accepts c.not_done.ensures
    c.reserve.ensures.items)
