-- One offer fewer.
use Rattle.std.proofs.Common.{◌≡◌, ℕ, Bool, true, false, not, eqb, List, [], ◌∷◌, Option}
use Rattle.std.proofs.Common.{Some, None, refl, sym, ap, ◌∙◌, subst}
use mathlib.Core.Logic.{◌≢◌}
use Rattle.std.specs.BTreeMap.{is_at}
use Rattle.std.specs.List.{filter, AllByRecursion}
use Rattle.std.specs.List.Sorted.{IsStrictlySortedBy}
use Rattle.std.specs.Map.{keys_of, lookup, remove_entry}
use Rattle.std.specs.Ordering.{nat_cmp, is_eq}
use Rattle.std.specs.declared.cmp.Ordering.TheVariants.{Less}
use Rattle.std.proofs.lemmas.Bool.{cases_eq, ne_eqb, eq-eqb}
use Rattle.std.proofs.lemmas.Map.Keys.{sorted_head, sorted_tail}
use Rattle.td_store.specs.Homes.{offers_on, offers_at, places_of, kind_chain, number_in, IsHome, Homes}
use Rattle.td_store.specs.OfferLists.{is_numbered, without_offer, is_of, is_of_kind}
use Rattle.td_store.specs.Slabs.{without}
use Rattle.td_store.specs.declared.record.OfferRecord.{OfferRecord}
use Rattle.td_store.proofs.Homing.{either, ahead, key-same, key-other, lookup-others, made-cons, filter-turned}
use Rattle.td_store.proofs.Homing.{some-same, none-some}

-- the offers but that of a number
abbrev pub keeps : ℕ → OfferRecord → Bool
keeps n o = not (is_numbered n o)

kept-ahead : (n : ℕ) (o : Option OfferRecord) (k : ℕ) (os : List OfferRecord) → number_in o ≡ Some k → k ≢ n
    → filter (keeps n) (ahead o os) ≡ ahead o (filter (keeps n) os)
kept-ahead n None k os e d = refl
kept-ahead n (Some x) k os e d =
    rw (ne_eqb x.number n (λ (t : x.number ≡ n). d (sym (some-same x.number k e) ∙ t))) refl

less-apart : (n k : ℕ) → nat_cmp n k ≡ Less → n ≢ k
less-apart n k l e =
    let same : is_eq (nat_cmp n k) ≡ true = key-same n k e in
    let other : is_eq (nat_cmp n k) ≡ false = ap is_eq l in
    absurd (let bad : ⊥ = cc in bad)

module _ (value later : ℕ → Option OfferRecord) (chain shorter : ℕ → List ℕ) (numbers : List (ℕ × ℕ))
    (chains : ℕ → Option ℕ) (n p : ℕ) (gone : OfferRecord)
    (h : Homes value chain numbers chains) (at : value p ≡ Some gone) (is : gone.number ≡ n) (none : later p ≡ None)
    (others : (q : ℕ) → eqb q p ≡ false → later q ≡ value q)
    (fewer : (k : ℕ) → shorter k ≡ without p (chain k)) where
  -- the place of another number is another
  elsewhere : (e : ℕ × ℕ) → IsHome value e → e.0 ≢ n → eqb e.1 p ≡ false
  elsewhere e k d =
      ne_eqb e.1 p (λ (t : e.1 ≡ p).
      d (some-same e.0 n (sym k
      ∙ (ap (λ q. number_in (value q)) t ∙ (ap number_in at ∙ ap (λ (z : ℕ). Some z) is)))))

  -- only that place has the number
  home : (q : ℕ) (x : OfferRecord) → value q ≡ Some x → x.number ≡ n → q ≡ p
  home q x k e =
      let one : lookup (is_at (nat_cmp x.number)) numbers ≡ Some q = h.homed q x k in
      let two : lookup (is_at (nat_cmp gone.number)) numbers ≡ Some p = h.homed p gone at in
      some-same q p (sym one ∙ (ap (λ (z : ℕ). lookup (is_at (nat_cmp z)) numbers) (e ∙ sym is) ∙ two))

  unlike : (es : List (ℕ × ℕ)) → AllByRecursion (IsHome value) es
      → AllByRecursion (λ y. nat_cmp n y ≡ Less) (keys_of es)
      → filter (keeps n) (offers_at value es) ≡ offers_at later es
  unlike [] k a = refl
  unlike (e ∷ es) k a =
      let d : e.0 ≢ n = λ (t : e.0 ≡ n). less-apart n e.0 a.0 (sym t) in
      ap (filter (keeps n)) (made-cons (λ (x : ℕ × ℕ). value x.1) e es)
      ∙ (kept-ahead n (value e.1) e.0 (offers_at value es) k.0 d
      ∙ (ap (ahead (value e.1)) (unlike es k.1 a.1)
      ∙ (ap (λ (o : Option OfferRecord). ahead o (offers_at later es)) (sym (others e.1 (elsewhere e k.0 d)))
      ∙ sym (made-cons (λ (x : ℕ × ℕ). later x.1) e es))))

  dropped : (o : Option OfferRecord) (os : List OfferRecord) → number_in o ≡ Some n
      → filter (keeps n) (ahead o os) ≡ filter (keeps n) os
  dropped None os e = refl
  dropped (Some x) os e = rw (eq-eqb x.number n (some-same x.number n e)) refl

  offers-fewer_of : (es : List (ℕ × ℕ)) → AllByRecursion (IsHome value) es → IsStrictlySortedBy nat_cmp (keys_of es)
      → offers_at later (remove_entry (is_at (nat_cmp n)) es) ≡ filter (keeps n) (offers_at value es)
  offers-fewer_of [] k s = refl
  offers-fewer_of (e ∷ es) k s =
      either (cases_eq n e.0)
      (λ (same : n ≡ e.0).
      rw (key-same n e.0 same)
      (sym (ap (filter (keeps n)) (made-cons (λ (x : ℕ × ℕ). value x.1) e es)
      ∙ (dropped (value e.1) (offers_at value es) (k.0 ∙ ap (λ (z : ℕ). Some z) (sym same))
      ∙ unlike es k.1 (subst (λ (z : ℕ). AllByRecursion (λ y. nat_cmp z y ≡ Less) (keys_of es)) (sym same)
      (sorted_head nat_cmp e.0 (keys_of es) s))))))
      (λ (d : n ≢ e.0).
      let other : e.0 ≢ n = λ (t : e.0 ≡ n). d (sym t) in
      rw (key-other n e.0 d)
      (made-cons (λ (x : ℕ × ℕ). later x.1) e (remove_entry (is_at (nat_cmp n)) es)
      ∙ (ap (λ (o : Option OfferRecord). ahead o (offers_at later (remove_entry (is_at (nat_cmp n)) es)))
      (others e.1 (elsewhere e k.0 other))
      ∙ (ap (ahead (value e.1)) (offers-fewer_of es k.1 (sorted_tail nat_cmp e.0 (keys_of es) s))
      ∙ (sym (kept-ahead n (value e.1) e.0 (offers_at value es) k.0 other)
      ∙ ap (filter (keeps n)) (sym (made-cons (λ (x : ℕ × ℕ). value x.1) e es)))))))

  pub offers-fewer : offers_at later (remove_entry (is_at (nat_cmp n)) numbers)
      ≡ without_offer n (offers_at value numbers)
  offers-fewer = offers-fewer_of numbers h.numbered h.sorted

  still-unlike : (es : List (ℕ × ℕ)) → AllByRecursion (IsHome value) es
      → AllByRecursion (λ y. nat_cmp n y ≡ Less) (keys_of es) → AllByRecursion (IsHome later) es
  still-unlike [] k a = tt
  still-unlike (e ∷ es) k a = (
    ap number_in (others e.1 (elsewhere e k.0 (λ (t : e.0 ≡ n). less-apart n e.0 a.0 (sym t)))) ∙ k.0,
    still-unlike es k.1 a.1,
  )

  still : (es : List (ℕ × ℕ)) → AllByRecursion (IsHome value) es → IsStrictlySortedBy nat_cmp (keys_of es)
      → AllByRecursion (IsHome later) (remove_entry (is_at (nat_cmp n)) es)
  still [] k s = tt
  still (e ∷ es) k s =
      either (cases_eq n e.0)
      (λ (same : n ≡ e.0). rw (key-same n e.0 same)
      (still-unlike es k.1 (subst (λ (z : ℕ). AllByRecursion (λ y. nat_cmp z y ≡ Less) (keys_of es)) (sym same)
      (sorted_head nat_cmp e.0 (keys_of es) s))))
      (λ (d : n ≢ e.0).
      rw (key-other n e.0 d) (
        ap number_in (others e.1 (elsewhere e k.0 (λ (t : e.0 ≡ n). d (sym t)))) ∙ k.0,
        still es k.1 (sorted_tail nat_cmp e.0 (keys_of es) s),
      ))

  homed-fewer : (q : ℕ) (x : OfferRecord) → later q ≡ Some x
      → lookup (is_at (nat_cmp x.number)) (remove_entry (is_at (nat_cmp n)) numbers) ≡ Some q
  homed-fewer q x k =
      either (cases_eq q p)
      (λ (e : q ≡ p). absurd (none-some x (sym none ∙ (ap later (sym e) ∙ k))))
      (λ (d : q ≢ p).
      let was : value q ≡ Some x = sym (others q (ne_eqb q p d)) ∙ k in
      lookup-others n x.number q numbers (λ (t : x.number ≡ n). d (home q x was t)) (h.homed q x was))

  passed : (q : ℕ) → q ≢ p → (o : Option OfferRecord) → value q ≡ o → (os : List OfferRecord)
      → filter (keeps n) (ahead o os) ≡ ahead o (filter (keeps n) os)
  passed q d None e os = refl
  passed q d (Some x) e os = rw (ne_eqb x.number n (λ (t : x.number ≡ n). d (home q x e t))) refl

  -- without the place, a chain's offers are those of other numbers
  on-fewer : (ps : List ℕ) → offers_on later (without p ps) ≡ filter (keeps n) (offers_on value ps)
  on-fewer [] = refl
  on-fewer (q ∷ ps) =
      either (cases_eq q p)
      (λ (e : q ≡ p). rw (eq-eqb q p e) (on-fewer ps
      ∙ sym (ap (filter (keeps n)) (made-cons value q ps)
      ∙ dropped (value q) (offers_on value ps)
      (ap (λ z. number_in (value z)) e ∙ (ap number_in at ∙ ap (λ (z : ℕ). Some z) is)))))
      (λ (d : q ≢ p). rw (ne_eqb q p d)
      (made-cons later q (without p ps)
      ∙ (ap (λ (o : Option OfferRecord). ahead o (offers_on later (without p ps))) (others q (ne_eqb q p d))
      ∙ (ap (ahead (value q)) (on-fewer ps)
      ∙ sym (ap (filter (keeps n)) (made-cons value q ps) ∙ passed q d (value q) refl (offers_on value ps))))))

  places-when : (k : Option ℕ)
      → offers_on later (places_of shorter k) ≡ filter (keeps n) (offers_on value (places_of chain k))
  places-when None = refl
  places-when (Some k) = ap (offers_on later) (fewer k) ∙ on-fewer (chain k)

  pub homes-fewer : IsStrictlySortedBy nat_cmp (keys_of (remove_entry (is_at (nat_cmp n)) numbers))
      → Homes later shorter (remove_entry (is_at (nat_cmp n)) numbers) chains
  homes-fewer sorted = record {
    numbered = still numbers h.numbered h.sorted;
    sorted = sorted;
    homed = homed-fewer;
    of_types =
        λ i. places-when (chains i)
        ∙ (ap (filter (keeps n)) (h.of_types i)
        ∙ (filter-turned (is_of i) (keeps n) (offers_at value numbers)
        ∙ ap (filter (is_of i)) (sym offers-fewer)));
    of_kinds = λ k. ap (offers_on later) (fewer (kind_chain k)) ∙ (on-fewer (chain (kind_chain k))
        ∙ (ap (filter (keeps n)) (h.of_kinds k)
        ∙ (filter-turned (is_of_kind k) (keeps n) (offers_at value numbers)
        ∙ ap (filter (is_of_kind k)) (sym offers-fewer))));
  }
