use Rattle.std.proofs.Common.{ℕ, List, ◌≡◌, ◌++◌, codes, IfOk, subst}
use Rattle.hex.specs.Hex.{encode_lower}
use Rattle.td_ior.proofs.Texts.{printed-back}
use Rattle.td_ior.proofs.text.print_text.Goals as goal

pub returns-clause-back : goal.returns-clause-back
returns-clause-back c =
    let shown =
    subst (λ (o : List ℕ). IfOk c.hex_text.result (λ t. t ≡ codes "IOR:" ++ encode_lower o)) c.as_slice.ensures
    c.hex_text.ensures in
    printed-back c.args.reference.now c.in_ok-octets.octets c.hex_text.result shown c.in_ok-octets.ensures.held
    c.in_ok-octets.ensures.octets c.in_ok-octets.ensures.short
