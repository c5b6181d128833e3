-- After each step of a store the numbers of its offers were given again.
use Rattle.std.proofs.Common.{◌≡◌, ℕ, ◌+◌, Bool, true, false, List, [], ◌∷◌, ◌++◌, map, cond, subst, arith}
use Rattle.std.specs.List.{AllByRecursion}
use Rattle.td_store.proofs.Limits.{all-filter}
use Rattle.td_store.specs.OfferLists.{changed_offer, is_numbered}
use Rattle.td_store.specs.declared.record.OfferRecord.{OfferRecord}
use Rattle.td_value.specs.declared.structures.Property.{Property}
use Rattle.td_changes.specs.Numbering.{AreNumbered, IsNumbered}
use Rattle.td_changes.proofs.Steps.{Keeps, added, fewer, linked, renewed, set, typed}

given-more : (last : ℕ) (os : List OfferRecord) → AllByRecursion (IsNumbered last) os →
    AllByRecursion (IsNumbered (last + 1)) os
given-more last [] h = tt
given-more last (o ∷ os) h = ((h.0.0, let below = h.0.1 in omega (arith, below)), given-more last os h.1)

given-snoc : (last : ℕ) (os : List OfferRecord) (o : OfferRecord) → AllByRecursion (IsNumbered last) os → IsNumbered last o →
    AllByRecursion (IsNumbered last) (os ++ o ∷ [])
given-snoc last [] o h p = (p, tt)
given-snoc last (x ∷ os) o h p = (h.0, given-snoc last os o h.1 p)

given-changed : (last n : ℕ) (ps : List Property) (o : OfferRecord) (b : Bool) → IsNumbered last o →
    IsNumbered last (cond b (record o { properties = ps }) o)
given-changed last n ps o true h = h
given-changed last n ps o false h = h

given-map : (last n : ℕ) (ps : List Property) (os : List OfferRecord) → AllByRecursion (IsNumbered last) os →
    AllByRecursion (IsNumbered last) (map (changed_offer n ps) os)
given-map last n ps [] h = tt
given-map last n ps (o ∷ os) h = (
  given-changed last n ps o (is_numbered n o) h.0,
  given-map last n ps os h.1,
)

pub numbered : Keeps AreNumbered
numbered s _ (added o is room) h =
    let last : s.last_offer + 1 ≡ o.number = omega (arith, is) in
    subst (λ (n : ℕ). AllByRecursion (IsNumbered n) (s.offers ++ o ∷ [])) last
    (given-snoc (s.last_offer + 1) s.offers o (given-more s.last_offer s.offers h) (omega (arith, is), omega (arith, is)))
numbered s _ (fewer test) h = all-filter (IsNumbered s.last_offer) test s.offers h
numbered s _ (renewed o ps held fits) h = given-map s.last_offer o.number ps s.offers h
numbered s _ (linked ls) h = h
numbered s _ (set a stem) h = h
numbered s _ (typed r) h = h
