use Rattle.std.proofs.Common.{ℕ, List, ap}
use Rattle.td_typecode.specs.declared.code.TypeCode.TheVariants as code
use Rattle.td_typecode.proofs.copy.copy_enum.Goals as goal

pub returns : goal.returns
returns c = ap (λ (p : List ℕ × (List ℕ × List (List ℕ))). code.Enum p.0 p.1.0 p.1.1) c.in_ok-id.ensures
