use Rattle.std.proofs.Common.{arith, inl, inr, refl}
use Rattle.td_net_laws.specs.Always.{AreFar}
use Rattle.td_net_laws.proofs.examples.worked_marks.Goals as goal

near : AreFar 2 1 3 → ⊥
near (inl e) = absurd (omega (arith, e))
near (inr e) = absurd (omega (arith, e))

pub returns : goal.returns
returns c = record {
  first = refl;
  beside_one = refl;
  behind_two = refl;
  again = refl;
  far = inl (omega arith);
  near = near;
}
