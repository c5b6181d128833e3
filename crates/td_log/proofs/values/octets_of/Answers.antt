use Rattle.std.proofs.Common.{◌≡◌, ◌*◌, ap, arith, length}
use Rattle.hex.proofs.HexLemmas.{decode_of-ok}
use Rattle.td_log.proofs.values.octets_of.Goals as goal

pub returns-in-Ok-clause-short : goal.returns-in-Ok-clause-short
returns-in-Ok-clause-short c =
    let twice : length c.args.digits.now ≡ 2 * length c.in-Ok.octets.items =
    (decode_of-ok c.args.digits.now c.in-Ok.octets.items c.in-Ok.ensures.ok).2 in
    let same : length c.from_vec.result ≡ length c.in-Ok.octets.items = ap length c.from_vec.ensures in
    let few = c.requires in
    omega (arith, twice, same, few)
