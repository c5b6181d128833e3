use Rattle.std.proofs.Common.{ℕ, List, ap}
use Rattle.std.proofs.Math.Facts.{to_z-of_z}
use Rattle.td_typecode.specs.declared.code.TypeCode.TheVariants as code
use Rattle.td_typecode.proofs.copy.copy_union.Goals as goal

pub returns : goal.returns
returns c =
    rw (to_z-of_z c.ranges.default)
    (ap (λ (p : List ℕ × List ℕ). code.Union p.0 p.1 c.args.switch c.args.default c.args.arms) c.in_ok-id.ensures)
