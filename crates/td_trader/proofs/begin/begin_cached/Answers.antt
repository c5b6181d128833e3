use Rattle.std.proofs.Common.{ℕ, ◌<◌, ◌^◌, subst}
use Rattle.td_trader.proofs.Counted.{has-room}
use Rattle.td_trader.proofs.begin.begin_cached.Goals as goal

pub begin_taken-requires-clause-few : goal.begin_taken-requires-clause-few
begin_taken-requires-clause-few c =
    subst (λ (n : ℕ). n < 2 ^ 40) c.count.ensures
    (has-room c.args.bounds.now c.count.result c.args.store.now c.get.result.now c.in-Ok.ensures.0 c.requires.begins)
