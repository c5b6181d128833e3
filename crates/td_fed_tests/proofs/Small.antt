-- What the tests' scripts hold is small, and can be written.
use Rattle.std.proofs.Common.{◌≡◌, ℕ, ◌^◌, ◌<◌, List, [], ◌∷◌, ◌++◌, refl, sym, subst, arith}
use Rattle.std.specs.List.{AllByRecursion}
use Rattle.td_typecode.specs.References.{profile, reference}
use Rattle.td_typecode.specs.declared.reference.Profile.{Profile}
use Rattle.td_types.proofs.Sequences.{sequence-from}
use Rattle.td_value.specs.Structures.{offer}
use Rattle.td_value.specs.declared.structures.Offer.{Offer}
use Rattle.td_walk.specs.Peering.{IsSmallOffer}

pub one_small : (before offers : List Offer) (o : Offer) → before ≡ [] → offers ≡ before ++ o ∷ [] → IsSmallOffer o
    → AllByRecursion IsSmallOffer offers
one_small before offers o none one small =
    subst (AllByRecursion IsSmallOffer) (sym one)
    (subst (λ (b : List Offer). AllByRecursion IsSmallOffer (b ++ o ∷ [])) (sym none) (small, tt))

pub one_writable : (before offers : List Offer) (o : Offer) → before ≡ [] → offers ≡ before ++ o ∷ []
    → offer.format.admits o → AllByRecursion offer.format.admits offers
one_writable before offers o none one writable =
    subst (AllByRecursion offer.format.admits) (sym one)
    (subst (λ (b : List Offer). AllByRecursion offer.format.admits (b ++ o ∷ [])) (sym none) (writable, tt))

-- a reference without an id and without profiles can be written
pub nobody_admitted : (id : List ℕ) (ps : List Profile) → id ≡ [] → ps ≡ []
    → reference.format.admits (record { id = id; profiles = ps })
nobody_admitted id ps none empty =
    subst (λ (i : List ℕ). reference.format.admits (record { id = i; profiles = ps })) (sym none)
    (subst (λ (l : List Profile). reference.format.admits (record { id = []; profiles = l })) (sym empty)
    (refl, sequence-from profile [] (omega arith) tt))
