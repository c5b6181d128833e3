-- One offer more, whose number is above all others.
use Rattle.std.proofs.Common.{◌≡◌, ℕ, ◌<◌, ◌≤◌, Bool, true, false, cond, ◌||◌, eqb, List, [], ◌∷◌, ◌++◌, Option}
use Rattle.std.proofs.Common.{Some, None, refl, sym, ap, ◌∙◌, subst, arith}
use mathlib.Core.Logic.{◌≢◌}
use Rattle.std.specs.BTreeMap.{is_at}
use Rattle.std.specs.List.{filter, AllByRecursion}
use Rattle.std.specs.List.Sorted.{IsStrictlySortedBy}
use Rattle.std.specs.Map.{keys_of, lookup}
use Rattle.std.specs.Option.{is_some}
use Rattle.std.specs.Ordering.{nat_cmp}
use Rattle.std.proofs.lemmas.Bool.{cases_eq, ne_eqb, eq-eqb, eqb-true, or_parts, both_ways}
use Rattle.std.proofs.lemmas.List.{append-nil}
use Rattle.td_store.specs.Homes.{offers_on, offers_at, places_of, kind_chain, number_in, IsHome, Homes, AreChains}
use Rattle.td_store.specs.OfferLists.{is_of, is_of_kind, same_kind}
use Rattle.td_store.specs.Slabs.{is_in}
use Rattle.td_store.specs.declared.record.OfferRecord.{OfferRecord}
use Rattle.td_store.proofs.Homing.{either, lookup-front, lookup-last, push-all, made-same, made-push}
use Rattle.td_store.proofs.Homing.{filter-push}
use Rattle.td_store.proofs.Homing.{some-same, none-some}

kind-test : (a b : Bool) → eqb (kind_chain a) (kind_chain b) ≡ same_kind a b
kind-test true true = refl
kind-test true false = refl
kind-test false true = refl
kind-test false false = refl

kind-low : (a : Bool) (c : ℕ) → 2 ≤ c → c ≢ kind_chain a
kind-low true c l e = absurd (omega (arith, l, e))
kind-low false c l e = absurd (omega (arith, l, e))

turned : (a b : ℕ) → a ≢ b → b ≢ a
turned a b d e = d (sym e)

neither : (a b : Bool) → a ≡ false → b ≡ false → (a || b) ≡ false
neither a b p q = rw (p, q) refl

first-or : (a b : Bool) → a ≡ true → (a || b) ≡ true
first-or a b p = rw p refl

then-or : (a b : Bool) → a ≡ false → (a || b) ≡ b
then-or a b p = rw p refl

module _ (value later : ℕ → Option OfferRecord) (chain longer : ℕ → List ℕ) (numbers : List (ℕ × ℕ))
    (chains : ℕ → Option ℕ) (count p first : ℕ) (o : OfferRecord)
    (h : Homes value chain numbers chains) (c : AreChains chains count) (unused : value p ≡ None)
    (here : later p ≡ Some o) (others : (q : ℕ) → eqb q p ≡ false → later q ≡ value q)
    (absent : (k : ℕ) → is_in p (chain k) ≡ false)
    (grown : (k : ℕ) → longer k
    ≡ cond (eqb k first || eqb k (kind_chain (is_some o.proxy))) (chain k ++ p ∷ []) (chain k))
    (found : chains o.incarnation ≡ Some first) (above : AllByRecursion (λ e. e.0 < o.number) numbers)
    (sorted : IsStrictlySortedBy nat_cmp (keys_of (numbers ++ (o.number, p) ∷ []))) where
  abbrev second : ℕ
  second = kind_chain (is_some o.proxy)

  elsewhere : (e : ℕ × ℕ) → IsHome value e → eqb e.1 p ≡ false
  elsewhere e k =
      ne_eqb e.1 p (λ (d : e.1 ≡ p).
      absurd (none-some e.0 (sym (ap (λ q. number_in (value q)) d ∙ ap number_in unused) ∙ k)))

  stay : (es : List (ℕ × ℕ)) → AllByRecursion (IsHome value) es → AllByRecursion (λ e. later e.1 ≡ value e.1) es
  stay [] k = tt
  stay (e ∷ es) k = (others e.1 (elsewhere e k.0), stay es k.1)

  still : (es : List (ℕ × ℕ)) → AllByRecursion (IsHome value) es → AllByRecursion (IsHome later) es
  still [] k = tt
  still (e ∷ es) k = (ap number_in (others e.1 (elsewhere e k.0)) ∙ k.0, still es k.1)

  pub offers-more : offers_at later (numbers ++ (o.number, p) ∷ []) ≡ offers_at value numbers ++ o ∷ []
  offers-more =
      made-push (λ (e : ℕ × ℕ). later e.1) numbers (o.number, p) o here
      ∙ ap (λ (os : List OfferRecord). os ++ o ∷ [])
      (made-same (λ (e : ℕ × ℕ). value e.1) (λ (e : ℕ × ℕ). later e.1) numbers (stay numbers h.numbered))

  homed-more : (q : ℕ) (x : OfferRecord) → later q ≡ Some x
      → lookup (is_at (nat_cmp x.number)) (numbers ++ (o.number, p) ∷ []) ≡ Some q
  homed-more q x k =
      either (cases_eq q p)
      (λ (e : q ≡ p).
      let same : o ≡ x = some-same o x (sym here ∙ (ap later (sym e) ∙ k)) in
      subst (λ (y : OfferRecord). lookup (is_at (nat_cmp y.number)) (numbers ++ (o.number, p) ∷ []) ≡ Some q) same
      (lookup-last o.number p numbers above ∙ ap (λ (z : ℕ). Some z) (sym e)))
      (λ (d : q ≢ p). lookup-front (is_at (nat_cmp x.number)) numbers ((o.number, p) ∷ []) q
      (h.homed q x (sym (others q (ne_eqb q p d)) ∙ k)))

  off : (ps : List ℕ) → is_in p ps ≡ false → AllByRecursion (λ q. later q ≡ value q) ps
  off [] k = tt
  off (q ∷ ps) k =
      let parts : (eqb q p ≡ false) × (is_in p ps ≡ false) = or_parts (eqb q p) (is_in p ps) k in
      (others q parts.0, off ps parts.1)

  on-unchanged : (k : ℕ) → offers_on later (chain k) ≡ offers_on value (chain k)
  on-unchanged k = made-same value later (chain k) (off (chain k) (absent k))

  on-when : (k : ℕ) (b : Bool) → (eqb k first || eqb k second) ≡ b
      → offers_on later (longer k) ≡ offers_on value (chain k) ++ cond b (o ∷ []) []
  on-when k true e =
      ap (offers_on later) (grown k ∙ ap (λ t. cond t (chain k ++ p ∷ []) (chain k)) e)
      ∙ (made-push later (chain k) p o here ∙ ap (λ (os : List OfferRecord). os ++ o ∷ []) (on-unchanged k))
  on-when k false e =
      ap (offers_on later) (grown k ∙ ap (λ t. cond t (chain k ++ p ∷ []) (chain k)) e)
      ∙ (on-unchanged k ∙ sym (append-nil (offers_on value (chain k))))

  types-when : (i : ℕ) (k : Option ℕ) (b : Bool) → chains i ≡ k → is_of i o ≡ b
      → offers_on later (places_of longer k) ≡ offers_on value (places_of chain k) ++ cond b (o ∷ []) []
  types-when i None true e t =
      let same : o.incarnation ≡ i = eqb-true o.incarnation i t in
      absurd (none-some first (sym e ∙ (ap chains (sym same) ∙ found)))
  types-when i None false e t = refl
  types-when i (Some k) true e t =
      let same : o.incarnation ≡ i = eqb-true o.incarnation i t in
      let is : first ≡ k = some-same first k (sym found ∙ (ap chains same ∙ e)) in
      on-when k true (first-or (eqb k first) (eqb k second) (eq-eqb k first (sym is)))
  types-when i (Some k) false e t =
      let low = c.within i k e in
      let unlike : k ≢ first =
      λ (d : k ≡ first). both_ways (is_of i o) t
      (eq-eqb o.incarnation i (c.apart o.incarnation i k (found ∙ ap (λ (z : ℕ). Some z) (sym d)) e)) in
      on-when k false (neither (eqb k first) (eqb k second) (ne_eqb k first unlike)
      (ne_eqb k second (kind-low (is_some o.proxy) k low.0)))

  of-type : (i : ℕ) → offers_on later (places_of longer (chains i))
      ≡ filter (is_of i) (offers_at later (numbers ++ (o.number, p) ∷ []))
  of-type i =
      types-when i (chains i) (is_of i o) refl refl
      ∙ (ap (λ (os : List OfferRecord). os ++ cond (is_of i o) (o ∷ []) []) (h.of_types i)
      ∙ (sym (filter-push (is_of i) (offers_at value numbers) o (is_of i o) refl)
      ∙ ap (filter (is_of i)) (sym offers-more)))

  of-kind : (k : Bool) → offers_on later (longer (kind_chain k))
      ≡ filter (is_of_kind k) (offers_at later (numbers ++ (o.number, p) ∷ []))
  of-kind k =
      let low = c.within o.incarnation first found in
      let unlike : eqb (kind_chain k) first ≡ false =
      ne_eqb (kind_chain k) first (turned first (kind_chain k) (kind-low k first low.0)) in
      on-when (kind_chain k) (is_of_kind k o)
      (then-or (eqb (kind_chain k) first) (eqb (kind_chain k) second) unlike ∙ kind-test k (is_some o.proxy))
      ∙ (ap (λ (os : List OfferRecord). os ++ cond (is_of_kind k o) (o ∷ []) []) (h.of_kinds k)
      ∙ (sym (filter-push (is_of_kind k) (offers_at value numbers) o (is_of_kind k o) refl)
      ∙ ap (filter (is_of_kind k)) (sym offers-more)))

  pub homes-more : Homes later longer (numbers ++ (o.number, p) ∷ []) chains
  homes-more = record {
    numbered = push-all (IsHome later) numbers (o.number, p) (still numbers h.numbered) (ap number_in here);
    sorted = sorted;
    homed = homed-more;
    of_types = of-type;
    of_kinds = of-kind;
  }
