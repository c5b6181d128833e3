use Rattle.std.proofs.Common.{ℕ, sym, subst}
use Rattle.td_desk.specs.Sharing.{MayAdd}
use Rattle.td_desk_tests.proofs.shared.put_under.Goals as goal

pub add-dropped-requires-clause-drawn : goal.add-dropped-requires-clause-drawn
add-dropped-requires-clause-drawn g c =
    subst (λ (k : ℕ). MayAdd c.args.pass.now.seat.me.0 k) (sym c.in_ok-kept.ensures) c.requires.drawn
