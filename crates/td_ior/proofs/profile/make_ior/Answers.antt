use Rattle.std.proofs.Common.{List, ◌∷◌, [], ◌++◌, ap, ◌∙◌, arith}
use Rattle.td_typecode.specs.declared.reference.Profile.{Profile}
use Rattle.td_ior.specs.Profiles.{iiop_tag}
use Rattle.td_ior.proofs.Profiles.{made-back}
use Rattle.td_ior.proofs.profile.make_ior.Goals as goal

pub returns-clause-back : goal.returns-clause-back
returns-clause-back c =
    made-back c.args.id.now c.args.host.now c.args.key.now c.in_ok-octets.octets c.args.port c.args.minor c.push.new.self
    c.requires.host
    (omega arith) c.requires.minor c.in_ok-octets.ensures.short c.in_ok-octets.ensures.made
    (c.in_ok-push.ensures.ok ∙ ap
    (λ (x : List Profile). x ++ record { tag = iiop_tag; octets = c.in_ok-octets.octets } ∷ [])
    c.new-profiles.ensures)
