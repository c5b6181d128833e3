-- What the slab of the offers holds, as the walk of a query needs it.
use Rattle.std.proofs.Common.{◌≡◌, ℕ, List, [], ◌∷◌, map, Option, Some, None, refl, sym, ap, ◌∙◌, subst}
use Rattle.std.specs.BTreeMap.{BTreeMap}
use Rattle.std.specs.List.{AllByRecursion}
use Rattle.std.specs.List.Sorted.{IsStrictlySortedBy}
use Rattle.std.specs.Map.{keys_of}
use Rattle.std.specs.Ordering.{nat_cmp}
use Rattle.td_store.specs.Homes.{offers_at, offers_in, number_in, IsHome, HoldsOffers}
use Rattle.td_store.specs.OfferLists.{NumbersRise}
use Rattle.td_store.specs.Searches.{AreChained}
use Rattle.td_store.specs.Slabs.{Slab, value_at}
use Rattle.td_store.specs.declared.record.OfferRecord.{OfferRecord}
use Rattle.td_store.proofs.Homing.{ahead, made-cons}

numbers-when : (k : ℕ) (x : Option OfferRecord) (os : List OfferRecord) (ks : List ℕ) → number_in x ≡ Some k
    → map (λ o. o.number) os ≡ ks → map (λ o. o.number) (ahead x os) ≡ k ∷ ks
numbers-when k None os ks e h = absurd (let bad : ⊥ = cc in bad)
numbers-when k (Some o) os ks e h =
    let same : o.number ≡ k = cc in
    ap (λ (ns : List ℕ). o.number ∷ ns) h ∙ ap (λ (n : ℕ). n ∷ ks) same

pub numbers-are : (value : ℕ → Option OfferRecord) (numbers : List (ℕ × ℕ)) → AllByRecursion (IsHome value) numbers
    → map (λ o. o.number) (offers_at value numbers) ≡ keys_of numbers
numbers-are value [] h = refl
numbers-are value (e ∷ es) h =
    ap (λ (os : List OfferRecord). map (λ o. o.number) os) (made-cons (λ (x : ℕ × ℕ). value x.1) e es)
    ∙ numbers-when e.0 (value e.1) (offers_at value es) (keys_of es) h.0 (numbers-are value es h.1)

pub offers-rise : (value : ℕ → Option OfferRecord) (numbers : List (ℕ × ℕ)) → AllByRecursion (IsHome value) numbers
    → IsStrictlySortedBy nat_cmp (keys_of numbers) → NumbersRise (offers_at value numbers)
offers-rise value numbers h s = subst (IsStrictlySortedBy nat_cmp) (sym (numbers-are value numbers h)) s

pub chained : (slab : Slab OfferRecord) (numbers : List (ℕ × ℕ)) (chains : BTreeMap ℕ ℕ) (ordinary proxies : ℕ)
    → HoldsOffers slab numbers chains ordinary proxies → AreChained slab chains (offers_in slab numbers)
chained slab numbers chains ordinary proxies h = record {
  rise = offers-rise (value_at slab.slots) numbers h.homes.numbered h.homes.sorted;
  each = h.homes.of_types;
}
