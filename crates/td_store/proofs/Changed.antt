-- One offer with other properties.
use Rattle.std.proofs.Common.{◌≡◌, ℕ, Bool, true, false, cond, eqb, List, [], ◌∷◌, map, Option, Some, None, refl, sym}
use Rattle.std.proofs.Common.{ap, ◌∙◌}
use mathlib.Core.Logic.{◌≢◌}
use Rattle.std.specs.BTreeMap.{is_at}
use Rattle.std.specs.List.{filter, AllByRecursion}
use Rattle.std.specs.Map.{lookup}
use Rattle.std.specs.Option.{option_map, is_some}
use Rattle.std.specs.Ordering.{nat_cmp}
use Rattle.std.proofs.lemmas.Bool.{cases_eq, ne_eqb, eq-eqb}
use Rattle.td_value.specs.declared.structures.Property.{Property}
use Rattle.td_store.specs.Homes.{offers_on, offers_at, places_of, kind_chain, number_in, IsHome, Homes}
use Rattle.td_store.specs.OfferLists.{is_numbered, changed_offer, with_properties, is_of, is_of_kind, same_kind}
use Rattle.td_store.specs.declared.record.OfferRecord.{OfferRecord}
use Rattle.td_store.proofs.Homing.{either, made-mapped, filter-mapped}
use Rattle.td_store.proofs.Homing.{some-same}

-- what the change leaves as it was
number-when : (b : Bool) (ps : List Property) (o : OfferRecord)
    → (cond b (record o { properties = ps }) o).number ≡ o.number
number-when true ps o = refl
number-when false ps o = refl

incarnation-when : (b : Bool) (ps : List Property) (o : OfferRecord)
    → (cond b (record o { properties = ps }) o).incarnation ≡ o.incarnation
incarnation-when true ps o = refl
incarnation-when false ps o = refl

proxy-when : (b : Bool) (ps : List Property) (o : OfferRecord)
    → (cond b (record o { properties = ps }) o).proxy ≡ o.proxy
proxy-when true ps o = refl
proxy-when false ps o = refl

numbered-mapped : (h : OfferRecord → OfferRecord) → ((o : OfferRecord) → (h o).number ≡ o.number)
    → (o : Option OfferRecord) → number_in (option_map h o) ≡ number_in o
numbered-mapped h e None = refl
numbered-mapped h e (Some o) = ap (λ (z : ℕ). Some z) (e o)

mapped-some : (h : OfferRecord → OfferRecord) (o : Option OfferRecord) (x : OfferRecord) → option_map h o ≡ Some x
    → (y : OfferRecord) × (o ≡ Some y) × (h y ≡ x)
mapped-some h None x e = absurd (let bad : ⊥ = cc in bad)
mapped-some h (Some y) x e = (y, refl, some-same (h y) x e)

module _ (value later : ℕ → Option OfferRecord) (chain : ℕ → List ℕ) (numbers : List (ℕ × ℕ)) (chains : ℕ → Option ℕ)
    (n p : ℕ) (ps : List Property) (was : OfferRecord)
    (h : Homes value chain numbers chains) (at : value p ≡ Some was) (is : was.number ≡ n)
    (here : later p ≡ Some (record was { properties = ps }))
    (others : (q : ℕ) → eqb q p ≡ false → later q ≡ value q) where
  change : OfferRecord → OfferRecord
  change o = changed_offer n ps o

  home : (q : ℕ) (x : OfferRecord) → value q ≡ Some x → x.number ≡ n → q ≡ p
  home q x k e =
      let one : lookup (is_at (nat_cmp x.number)) numbers ≡ Some q = h.homed q x k in
      let two : lookup (is_at (nat_cmp was.number)) numbers ≡ Some p = h.homed p was at in
      some-same q p (sym one ∙ (ap (λ (z : ℕ). lookup (is_at (nat_cmp z)) numbers) (e ∙ sym is) ∙ two))

  same-elsewhere : (q : ℕ) → q ≢ p → (o : Option OfferRecord) → value q ≡ o
      → o ≡ option_map (λ x. changed_offer n ps x) o
  same-elsewhere q d None e = refl
  same-elsewhere q d (Some x) e = rw (ne_eqb x.number n (λ (t : x.number ≡ n). d (home q x e t))) refl

  pub changed-at : (q : ℕ) → later q ≡ option_map (λ x. changed_offer n ps x) (value q)
  changed-at q =
      either (cases_eq q p)
      (λ (e : q ≡ p). rw e (here
      ∙ sym (ap (option_map (λ x. changed_offer n ps x)) at ∙ rw (eq-eqb was.number n is) refl)))
      (λ (d : q ≢ p). others q (ne_eqb q p d) ∙ same-elsewhere q d (value q) refl)

  pub offers-changed : offers_at later numbers ≡ with_properties n ps (offers_at value numbers)
  offers-changed =
      made-mapped (λ (e : ℕ × ℕ). value e.1) (λ (e : ℕ × ℕ). later e.1) (λ x. changed_offer n ps x) numbers
      (λ e. changed-at e.1)

  still : (es : List (ℕ × ℕ)) → AllByRecursion (IsHome value) es → AllByRecursion (IsHome later) es
  still [] k = tt
  still (e ∷ es) k = (
    ap number_in (changed-at e.1)
        ∙ (numbered-mapped (λ x. changed_offer n ps x) (λ o. number-when (is_numbered n o) ps o) (value e.1) ∙ k.0),
    still es k.1,
  )

  homed-changed : (q : ℕ) (x : OfferRecord) → later q ≡ Some x → lookup (is_at (nat_cmp x.number)) numbers ≡ Some q
  homed-changed q x k =
      let m = mapped-some (λ o. changed_offer n ps o) (value q) x (sym (changed-at q) ∙ k) in
      let same : x.number ≡ m.0.number =
      ap (λ (o : OfferRecord). o.number) (sym m.2) ∙ number-when (is_numbered n m.0) ps m.0 in
      ap (λ (z : ℕ). lookup (is_at (nat_cmp z)) numbers) same ∙ h.homed q m.0 m.1

  on-changed : (qs : List ℕ) → offers_on later qs ≡ map (λ x. changed_offer n ps x) (offers_on value qs)
  on-changed qs = made-mapped value later (λ x. changed_offer n ps x) qs changed-at

  pub homes-changed : Homes later chain numbers chains
  homes-changed = record {
    numbered = still numbers h.numbered;
    sorted = h.sorted;
    homed = homed-changed;
    of_types = λ i. on-changed (places_of chain (chains i)) ∙ (ap (map (λ x. changed_offer n ps x)) (h.of_types i)
        ∙ (sym (filter-mapped (is_of i) (λ x. changed_offer n ps x) (offers_at value numbers)
        (λ o. ap (λ (z : ℕ). eqb z i) (incarnation-when (is_numbered n o) ps o)))
        ∙ ap (filter (is_of i)) (sym offers-changed)));
    of_kinds = λ k. on-changed (chain (kind_chain k)) ∙ (ap (map (λ x. changed_offer n ps x)) (h.of_kinds k)
        ∙ (sym (filter-mapped (is_of_kind k) (λ x. changed_offer n ps x) (offers_at value numbers)
        (λ o. ap (λ (z : Option _). same_kind k (is_some z)) (proxy-when (is_numbered n o) ps o)))
        ∙ ap (filter (is_of_kind k)) (sym offers-changed)));
  }
