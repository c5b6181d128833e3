use Rattle.td_names.proofs.Reached.{resolved_reaches, reached_resolves}
use Rattle.td_names.proofs.laws.resolve_reaches.Goals as goal

pub returns : goal.returns
returns c = λ s c name object fits live.
    (resolved_reaches s c name object fits live, reached_resolves s c name object fits live)
