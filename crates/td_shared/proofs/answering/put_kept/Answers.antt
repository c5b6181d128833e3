use Rattle.std.proofs.Common.{ℕ, subst, sym}
use Rattle.td_cell.specs.Passes.{knowledge}
use Rattle.td_desk.specs.Sharing.{MayAdd}
use Rattle.td_shared.proofs.Others.{kept_number}
use Rattle.td_shared.proofs.answering.put_kept.Goals as goal

pub add-back-requires-clause-drawn : goal.add-back-requires-clause-drawn
add-back-requires-clause-drawn g c =
    let number = kept_number _ _ c.in-Some.entry c.requires.one c.in-Some.ensures.taken in
    subst (λ (n : ℕ). MayAdd (knowledge c.args.pass.now) n) (sym number) c.requires.drawn
