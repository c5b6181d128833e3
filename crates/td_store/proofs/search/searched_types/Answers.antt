use Rattle.std.proofs.lemmas.Result.{IfOk-weaker}
use Rattle.td_store.proofs.Choosing.{apart-from_rises}
use Rattle.td_store.proofs.search.searched_types.Goals as goal

pub returns-else-exact-clause-apart : goal.returns-else-exact-clause-apart
returns-else-exact-clause-apart c =
    IfOk-weaker c.subtypes.result _ _ (λ xs h. apart-from_rises 0 xs h) c.subtypes.ensures.rising
