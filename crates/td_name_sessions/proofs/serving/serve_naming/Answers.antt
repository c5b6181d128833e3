use Rattle.std.proofs.Common.{ap, ◌∙◌}
use Rattle.td_names.specs.declared.address.Address.{Address}
use Rattle.td_name_sessions.proofs.Closing.{from_bound, if_ok}
use Rattle.td_name_sessions.proofs.serving.serve_naming.Goals as goal

pub returns-in-Ok-clause-serves : goal.returns-in-Ok-clause-serves
returns-in-Ok-clause-serves g c =
    let here = c.home-home.ensures.home in
    if_ok c.serve_bound.result c.serve_bound.ensures.serves
    (λ f. from_bound _ _ c.args.contexts _ _ _ _ _ _ _ (c.as_slice.ensures ∙ ap (λ (h : Address). h.host) here)
    (ap (λ (h : Address). h.port) here) c.in-Ok.ensures.content.ok f)
