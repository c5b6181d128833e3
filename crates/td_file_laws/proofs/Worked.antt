-- The worked examples hold.
use Rattle.std.proofs.Common.{◌≡◌, [], ◌∷◌, refl, arith}
use Rattle.td_typecode.specs.declared.reference.Ior.{Ior}
use Rattle.td_file_laws.specs.Examples.{WorkedTelling}
use Rattle.td_value.specs.declared.structures.Policy.{Policy}

pub worked : WorkedTelling
worked = record {
  number = omega arith;
  wide = λ h. (let no : ⊥ = omega (arith, h) in no);
  named = (refl, tt);
  nul = λ h. (let no = h.0 in absurd cc);
  policies = λ target p h. (let none : p ∷ [] ≡ [] = h.2 in absurd cc);
  link = λ trader. tt;
  withdrawn = λ id h. h;
}
