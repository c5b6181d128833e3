use Rattle.std.proofs.Common.{ℕ, List, ◌≡◌, ◌∙◌, IfOk, subst}
use Rattle.td_ior.proofs.Made.{profile-made}
use Rattle.td_ior.proofs.profile.profile_octets.Goals as goal

pub returns-clause-made : goal.returns-clause-made
returns-clause-made c =
    let made =
    profile-made c.args.host.now c.args.key.now c.args.port c.args.minor _ _ _ _ _ _ _ c.in_ok-w.ensures c.in_ok-octet.ensures.done
    c.in_ok-octet-2.ensures.done c.in_ok-string.ensures.done c.in_ok-u16.ensures.done
    c.in_ok-octets.ensures.done c.in_ok-put_no_components.ensures.done in
    subst (λ (z : List ℕ). IfOk c.from_slice.result (λ o. o ≡ z)) (c.bytes.ensures ∙ made) c.from_slice.ensures
