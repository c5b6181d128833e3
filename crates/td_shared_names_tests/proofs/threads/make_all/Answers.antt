use Rattle.std.proofs.Common.{◌∙◌}
use Rattle.td_shared_names_tests.proofs.threads.make_all.Goals as goal

pub returns : goal.returns
returns g c =
    let a = c.makes-session.ensures in
    let b = c.makes-session-2.ensures in
    (a.0 ∙ b.0, a.1 ∙ b.1)
