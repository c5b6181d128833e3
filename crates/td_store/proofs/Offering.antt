-- What the fields of the offers hold after each step.
use Rattle.std.proofs.Common.{◌≡◌, ℕ, zero, suc, ◌+◌, ◌<◌, Bool, true, false, not, cond, ◌||◌, eqb, List, [], ◌∷◌}
use Rattle.std.proofs.Common.{◌++◌, length, map, Option, Some, None, refl, sym, ap, ◌∙◌, subst, arith}
use mathlib.Core.Logic.{◌≢◌}
use mathlib.Core.Path.{fun_ext}
use Rattle.std.specs.BTreeMap.{BTreeMap, is_at, get}
use Rattle.std.specs.List.{AllByRecursion}
use Rattle.std.specs.List.Sorted.{IsStrictlySortedBy}
use Rattle.std.specs.Map.{keys_of, lookup, remove_entry}
use Rattle.std.specs.Option.{is_some}
use Rattle.std.specs.Ordering.{nat_cmp}
use Rattle.std.proofs.lemmas.Bool.{both_ways, cases_eq, ne_eqb, eq-eqb}
use Rattle.std.proofs.lemmas.List.{length-append, length-map, get_or-set_same, get_or-set_other}
use Rattle.td_value.specs.declared.structures.Property.{Property}
use Rattle.td_store.specs.Homes.{offers_on, offers_at, offers_in, places_of, kind_chain, number_in, IsHome, Homes}
use Rattle.td_store.specs.Homes.{AreChains, HoldsOffers}
use Rattle.td_store.specs.OfferLists.{offer_of, without_offer, with_properties, is_numbered}
use Rattle.td_store.specs.OfferPlaces.{changed_at, with_changed}
use Rattle.td_store.specs.Puts.{IsPut, IsAsBefore}
use Rattle.td_store.specs.Slabs.{Slab, value_at, chain_of, held, with_value, without, RemovesValue}
use Rattle.td_store.specs.declared.record.OfferRecord.{OfferRecord}
use Rattle.td_store.proofs.Changed.{offers-changed, homes-changed}
use Rattle.td_store.proofs.Gone.{offers-fewer, homes-fewer}
use Rattle.td_store.proofs.Homing.{either, ahead, key-same, key-other, made-cons}
use Rattle.td_store.proofs.Homing.{some-same, none-some}
use Rattle.td_store.proofs.Inserted.{offers-more, homes-more}
use Rattle.td_store.proofs.Keeping.{has-within, held-set}

-- ---- the same places and chains

pub same-homes : (value later : ℕ → Option OfferRecord) (chain after : ℕ → List ℕ) (numbers : List (ℕ × ℕ))
    (chains now : ℕ → Option ℕ)
    → Homes value chain numbers chains → ((p : ℕ) → later p ≡ value p) → ((c : ℕ) → after c ≡ chain c)
    → ((i : ℕ) → places_of after (now i) ≡ places_of chain (chains i)) → Homes later after numbers now
same-homes value later chain after numbers chains now h v c t =
    subst (λ (w : ℕ → Option OfferRecord). Homes w after numbers now) (sym (fun_ext v)) (record {
      numbered = h.numbered;
      sorted = h.sorted;
      homed = h.homed;
      of_types = λ i. ap (offers_on value) (t i) ∙ h.of_types i;
      of_kinds = λ k. ap (offers_on value) (c (kind_chain k)) ∙ h.of_kinds k;
    })

module _ (old new : Slab OfferRecord) (numbers : List (ℕ × ℕ)) (chains now : BTreeMap ℕ ℕ) (ordinary proxies : ℕ)
    (h : HoldsOffers old numbers chains ordinary proxies)
    (slots : new.slots ≡ old.slots) (places : (c : ℕ) → chain_of new.chains c ≡ chain_of old.chains c)
    (types : (i : ℕ) → places_of (chain_of new.chains) (get nat_cmp now i)
    ≡ places_of (chain_of old.chains) (get nat_cmp chains i))
    (are : AreChains (get nat_cmp now) (length new.chains)) where
  pub chained-holds : HoldsOffers new numbers now ordinary proxies
  chained-holds = record {
    homes =
        same-homes (value_at old.slots) (value_at new.slots) (chain_of old.chains) (chain_of new.chains) numbers
        (get nat_cmp chains) (get nat_cmp now) h.homes
        (λ p. ap (λ (s : List (Option OfferRecord)). value_at s p) slots) places types;
    chains_are = are;
    held_are = ap held slots ∙ h.held_are;
    ordinary_is = h.ordinary_is;
    proxies_is = h.proxies_is;
  }

  pub chained-shows : offers_in new numbers ≡ offers_in old numbers
  chained-shows = ap (λ (s : List (Option OfferRecord)). offers_at (value_at s) numbers) slots

module _ (old new : Slab OfferRecord) (numbers after : List (ℕ × ℕ)) (chains : BTreeMap ℕ ℕ) (ordinary proxies : ℕ)
    (h : HoldsOffers old numbers chains ordinary proxies) (b : IsAsBefore old new) (same : after ≡ numbers) where
  pub unchanged-holds : HoldsOffers new after chains ordinary proxies
  unchanged-holds = subst (λ (ns : List (ℕ × ℕ)). HoldsOffers new ns chains ordinary proxies) (sym same) (record {
    homes =
        same-homes (value_at old.slots) (value_at new.slots) (chain_of old.chains) (chain_of new.chains) numbers
        (get nat_cmp chains) (get nat_cmp chains) h.homes b.values b.chains
        (λ i. ap (λ (c : ℕ → List ℕ). places_of c (get nat_cmp chains i)) (fun_ext b.chains));
    chains_are = subst (AreChains (get nat_cmp chains)) (sym b.count) h.chains_are;
    held_are = b.held ∙ h.held_are;
    ordinary_is = h.ordinary_is;
    proxies_is = h.proxies_is;
  })

-- ---- one more

module _ (old new : Slab OfferRecord) (numbers after : List (ℕ × ℕ)) (chains : BTreeMap ℕ ℕ)
    (ordinary proxies first second : ℕ) (o : OfferRecord) (h : HoldsOffers old numbers chains ordinary proxies)
    (is : IsPut old new first second o numbers after) (found : get nat_cmp chains o.incarnation ≡ Some first)
    (kind : second ≡ kind_chain (is_some o.proxy))
    (above : AllByRecursion (λ e. e.0 < o.number) numbers) (sorted : IsStrictlySortedBy nat_cmp (keys_of after)) where
  grown : (k : ℕ) → chain_of new.chains k
      ≡ cond (eqb k first || eqb k (kind_chain (is_some o.proxy))) (chain_of old.chains k ++ is.place ∷ [])
      (chain_of old.chains k)
  grown k =
      is.puts.chains k ∙ ap (λ (s : ℕ).
      cond (eqb k first || eqb k s) (chain_of old.chains k ++ is.place ∷ []) (chain_of old.chains k))
      kind

  more : Homes (value_at new.slots) (chain_of new.chains) (numbers ++ (o.number, is.place) ∷ []) (get nat_cmp chains)
  more =
      homes-more (value_at old.slots) (value_at new.slots) (chain_of old.chains) (chain_of new.chains) numbers
      (get nat_cmp chains) (length old.chains) is.place first o h.homes h.chains_are is.puts.unused is.puts.value
      is.puts.others is.puts.absent grown found above
      (subst (λ (ns : List (ℕ × ℕ)). IsStrictlySortedBy nat_cmp (keys_of ns)) is.noted sorted)

  pub put-shows : offers_in new after ≡ offers_in old numbers ++ o ∷ []
  put-shows =
      ap (offers_in new) is.noted
      ∙ offers-more (value_at old.slots) (value_at new.slots) (chain_of old.chains) (chain_of new.chains) numbers
      (get nat_cmp chains) (length old.chains) is.place first o
      h.homes h.chains_are is.puts.unused is.puts.value is.puts.others is.puts.absent grown found above
      (subst (λ (ns : List (ℕ × ℕ)). IsStrictlySortedBy nat_cmp (keys_of ns)) is.noted sorted)

  pub put-holds : HoldsOffers new after chains ordinary proxies
  put-holds = subst (λ (ns : List (ℕ × ℕ)). HoldsOffers new ns chains ordinary proxies) (sym is.noted) (record {
    homes = more;
    chains_are = subst (AreChains (get nat_cmp chains)) (sym is.puts.count) h.chains_are;
    held_are =
        is.puts.held ∙ (ap (λ (n : ℕ). n + 1) h.held_are ∙ sym (length-append numbers ((o.number, is.place) ∷ [])));
    ordinary_is = h.ordinary_is;
    proxies_is = h.proxies_is;
  })

-- ---- numbers

below-when : (n k : ℕ) (x : Option OfferRecord) (os : List OfferRecord) → number_in x ≡ Some k
    → AllByRecursion (λ o. o.number < n) (ahead x os) → (k < n) × AllByRecursion (λ o. o.number < n) os
below-when n k None os e a = absurd (none-some k e)
below-when n k (Some o) os e a =
    let same : o.number ≡ k = some-same o.number k e in let l : o.number < n = a.0 in (omega (arith, same, l), a.1)

pub keys-below : (value : ℕ → Option OfferRecord) (n : ℕ) (numbers : List (ℕ × ℕ))
    → AllByRecursion (IsHome value) numbers → AllByRecursion (λ o. o.number < n) (offers_at value numbers)
    → AllByRecursion (λ e. e.0 < n) numbers
keys-below value n [] h a = tt
keys-below value n (e ∷ es) h a =
    let b =
    below-when n e.0 (value e.1) (offers_at value es) h.0
    (subst (AllByRecursion (λ o. o.number < n)) (made-cons (λ (x : ℕ × ℕ). value x.1) e es) a) in
    (b.0, keys-below value n es h.1 b.1)

count-when : (k : ℕ) (x : Option OfferRecord) (os : List OfferRecord) (n : ℕ) → number_in x ≡ Some k → length os ≡ n
    → length (ahead x os) ≡ n + 1
count-when k None os n e l = absurd (none-some k e)
count-when k (Some o) os n e l = omega (arith, l)

pub count-is-numbers : (value : ℕ → Option OfferRecord) (numbers : List (ℕ × ℕ)) → AllByRecursion (IsHome value) numbers
    → length (offers_at value numbers) ≡ length numbers
count-is-numbers value [] h = refl
count-is-numbers value (e ∷ es) h =
    ap length (made-cons (λ (x : ℕ × ℕ). value x.1) e es)
    ∙ (count-when e.0 (value e.1) (offers_at value es) (length es) h.0 (count-is-numbers value es h.1)
    ∙ sym (length-suc e es))
  where
    length-suc : (e : ℕ × ℕ) (es : List (ℕ × ℕ)) → length (e ∷ es) ≡ length es + 1
    length-suc e es = omega arith

-- ---- the offer of a number

abbrev pub placed : (ℕ → Option OfferRecord) → Option ℕ → Option OfferRecord
placed value None = None
placed value (Some p) = value p

find-ahead : (n k : ℕ) (x : Option OfferRecord) (os : List OfferRecord) → number_in x ≡ Some k
    → offer_of (ahead x os) n ≡ cond (eqb k n) x (offer_of os n)
find-ahead n k None os e = absurd (none-some k e)
find-ahead n k (Some o) os e = ap (λ (z : ℕ). cond (eqb z n) (Some o) (offer_of os n)) (some-same o.number k e)

pub offer-placed : (value : ℕ → Option OfferRecord) (n : ℕ) (numbers : List (ℕ × ℕ))
    → AllByRecursion (IsHome value) numbers
    → offer_of (offers_at value numbers) n ≡ placed value (lookup (is_at (nat_cmp n)) numbers)
offer-placed value n [] h = refl
offer-placed value n (e ∷ es) h =
    ap (λ (os : List OfferRecord). offer_of os n) (made-cons (λ (x : ℕ × ℕ). value x.1) e es)
    ∙ (find-ahead n e.0 (value e.1) (offers_at value es) h.0
    ∙ either (cases_eq n e.0)
    (λ (s : n ≡ e.0). rw (eq-eqb e.0 n (sym s), key-same n e.0 s) refl)
    (λ (d : n ≢ e.0). rw (ne_eqb e.0 n (λ (t : e.0 ≡ n). d (sym t)), key-other n e.0 d) (offer-placed value n es h.1)))

-- where a number leads, there is its offer
pub home-of : (value : ℕ → Option OfferRecord) (n p : ℕ) (numbers : List (ℕ × ℕ))
    → AllByRecursion (IsHome value) numbers → lookup (is_at (nat_cmp n)) numbers ≡ Some p
    → (o : OfferRecord) × (value p ≡ Some o) × (o.number ≡ n)
home-of value n p [] h e = absurd (none-some p e)
home-of value n p (x ∷ xs) h e =
    either (cases_eq n x.0)
    (λ (s : n ≡ x.0).
    let at : x.1 ≡ p = some-same x.1 p (rw (key-same n x.0 s) at e) in
    home-when p n (value p) (ap (λ z. number_in (value z)) (sym at) ∙ (h.0 ∙ ap (λ (z : ℕ). Some z) (sym s))))
    (λ (d : n ≢ x.0). home-of value n p xs h.1 (rw (key-other n x.0 d) at e))
  where
    home-when : (p n : ℕ) (x : Option OfferRecord) → number_in x ≡ Some n
        → (o : OfferRecord) × (x ≡ Some o) × (o.number ≡ n)
    home-when p n None k = absurd (none-some n k)
    home-when p n (Some o) k = (o, refl, some-same o.number n k)

keep-when : (b : Bool) (o : OfferRecord) (os fs : List OfferRecord) (found : Option OfferRecord)
    → (found ≡ None → fs ≡ os) → cond b (Some o) found ≡ None → cond (not b) (o ∷ fs) fs ≡ o ∷ os
keep-when true o os fs found h e = absurd (none-some o (sym e))
keep-when false o os fs found h e = ap (λ (xs : List OfferRecord). o ∷ xs) (h e)

pub without-none : (n : ℕ) (os : List OfferRecord) → offer_of os n ≡ None → without_offer n os ≡ os
without-none n [] e = refl
without-none n (o ∷ os) e = keep-when (is_numbered n o) o os (without_offer n os) (offer_of os n) (without-none n os) e

same-when : (b : Bool) (o : OfferRecord) (ps : List Property) (os fs : List OfferRecord) (found : Option OfferRecord)
    → (found ≡ None → fs ≡ os) → cond b (Some o) found ≡ None → cond b (record o { properties = ps }) o ∷ fs ≡ o ∷ os
same-when true o ps os fs found h e = absurd (none-some o (sym e))
same-when false o ps os fs found h e = ap (λ (xs : List OfferRecord). o ∷ xs) (h e)

pub with-none : (n : ℕ) (ps : List Property) (os : List OfferRecord) → offer_of os n ≡ None
    → with_properties n ps os ≡ os
with-none n ps [] e = refl
with-none n ps (o ∷ os) e =
    same-when (is_numbered n o) o ps os (with_properties n ps os) (offer_of os n) (with-none n ps os) e

-- ---- one fewer

length-when : (b : Bool) (x : ℕ × ℕ) (xs : List (ℕ × ℕ)) (found : Option ℕ) (left : List (ℕ × ℕ)) (p : ℕ)
    → cond b (Some x.1) found ≡ Some p → (found ≡ Some p → length left + 1 ≡ length xs)
    → length (cond b xs (x ∷ left)) + 1 ≡ length xs + 1
length-when true x xs found left p e h = refl
length-when false x xs found left p e h = let l = h e in omega (arith, l)

pub length-fewer : (test : ℕ → Bool) (p : ℕ) (numbers : List (ℕ × ℕ)) → lookup test numbers ≡ Some p
    → length (remove_entry test numbers) + 1 ≡ length numbers
length-fewer test p [] e = absurd (none-some p e)
length-fewer test p (x ∷ xs) e =
    let l = length-when (test x.0) x xs (lookup test xs) (remove_entry test xs) p e (length-fewer test p xs) in
    omega (arith, l)

pub chain-map : (p c : ℕ) (chains : List (List ℕ)) → chain_of (map (without p) chains) c ≡ without p (chain_of chains c)
chain-map p c [] = refl
chain-map p zero (x ∷ xs) = refl
chain-map p (suc c) (x ∷ xs) = chain-map p c xs

module _ (old new : Slab OfferRecord) (numbers : List (ℕ × ℕ)) (chains : BTreeMap ℕ ℕ) (ordinary proxies n p : ℕ)
    (h : HoldsOffers old numbers chains ordinary proxies)
    (found : lookup (is_at (nat_cmp n)) numbers ≡ Some p) (t : RemovesValue old new p) where
  abbrev home : (o : OfferRecord) × (value_at old.slots p ≡ Some o) × (o.number ≡ n)
  home = home-of (value_at old.slots) n p numbers h.homes.numbered found

  fewer : (k : ℕ) → chain_of new.chains k ≡ without p (chain_of old.chains k)
  fewer k = ap (λ (cs : List (List ℕ)). chain_of cs k) t.chains ∙ chain-map p k old.chains

  pub taken-shows : offers_in new (remove_entry (is_at (nat_cmp n)) numbers) ≡ without_offer n (offers_in old numbers)
  taken-shows =
      offers-fewer (value_at old.slots) (value_at new.slots) (chain_of old.chains) (chain_of new.chains) numbers
      (get nat_cmp chains) n p home.0 h.homes home.1 home.2 t.value t.others fewer

  pub taken-holds : IsStrictlySortedBy nat_cmp (keys_of (remove_entry (is_at (nat_cmp n)) numbers))
      → HoldsOffers new (remove_entry (is_at (nat_cmp n)) numbers) chains ordinary proxies
  taken-holds sorted = record {
    homes =
        homes-fewer (value_at old.slots) (value_at new.slots) (chain_of old.chains) (chain_of new.chains) numbers
        (get nat_cmp chains) n p home.0 h.homes home.1 home.2 t.value t.others fewer sorted;
    chains_are =
        subst (AreChains (get nat_cmp chains)) (sym (ap length t.chains ∙ length-map old.chains (without p)))
        h.chains_are;
    held_are = omega (arith, t.held, h.held_are, length-fewer (is_at (nat_cmp n)) p numbers found);
    ordinary_is = h.ordinary_is;
    proxies_is = h.proxies_is;
  }

-- ---- other properties

module _ (old : Slab OfferRecord) (numbers : List (ℕ × ℕ)) (chains : BTreeMap ℕ ℕ) (ordinary proxies n p : ℕ)
    (ps : List Property) (h : HoldsOffers old numbers chains ordinary proxies)
    (found : lookup (is_at (nat_cmp n)) numbers ≡ Some p) where
  abbrev at-home : (o : OfferRecord) × (value_at old.slots p ≡ Some o) × (o.number ≡ n)
  at-home = home-of (value_at old.slots) n p numbers h.homes.numbered found

  abbrev now : Slab OfferRecord
  now = with_value old p (record at-home.0 { properties = ps })

  is-now : with_changed old p ps ≡ now
  is-now = ap (changed_at old p ps) at-home.1

  within : p < length old.slots
  within = has-within old.slots p (ap is_some at-home.1)

  here : value_at now.slots p ≡ Some (record at-home.0 { properties = ps })
  here = get_or-set_same old.slots p (Some (record at-home.0 { properties = ps })) None within

  others : (q : ℕ) → eqb q p ≡ false → value_at now.slots q ≡ value_at old.slots q
  others q d =
      get_or-set_other old.slots p q (Some (record at-home.0 { properties = ps })) None
      (λ (e : q ≡ p). both_ways (eqb q p) d (eq-eqb q p e))

  still-held : held now.slots ≡ held old.slots
  still-held =
      let e =
      subst (λ (b : Bool). held now.slots + cond b 1 0 ≡ held old.slots + 1) (ap is_some at-home.1)
      (held-set old.slots p (Some (record at-home.0 { properties = ps })) within) in
      omega (arith, e)

  pub changed-shows : (new : Slab OfferRecord) → new ≡ with_changed old p ps
      → offers_in new numbers ≡ with_properties n ps (offers_in old numbers)
  changed-shows new e =
      ap (λ (s : Slab OfferRecord). offers_in s numbers) (e ∙ is-now)
      ∙ offers-changed (value_at old.slots) (value_at now.slots) (chain_of old.chains) numbers (get nat_cmp chains) n p
      ps at-home.0 h.homes at-home.1 at-home.2 here others

  pub changed-holds : (new : Slab OfferRecord) → new ≡ with_changed old p ps
      → HoldsOffers new numbers chains ordinary proxies
  changed-holds new e =
      subst (λ (s : Slab OfferRecord). HoldsOffers s numbers chains ordinary proxies) (sym (e ∙ is-now)) (record {
        homes =
            homes-changed (value_at old.slots) (value_at now.slots) (chain_of old.chains) numbers (get nat_cmp chains) n
            p
            ps at-home.0 h.homes at-home.1 at-home.2 here others;
        chains_are = h.chains_are;
        held_are = still-held ∙ h.held_are;
        ordinary_is = h.ordinary_is;
        proxies_is = h.proxies_is;
      })

  pub changed-there : is_some (offer_of (offers_in old numbers) n) ≡ true
  changed-there =
      ap is_some (offer-placed (value_at old.slots) n numbers h.homes.numbered
      ∙ (ap (placed (value_at old.slots)) found ∙ at-home.1))

-- ---- kinds

pub kind-is : (b : Bool) (ordinary proxies : ℕ) → ordinary ≡ kind_chain false → proxies ≡ kind_chain true
    → cond b proxies ordinary ≡ kind_chain b
kind-is true ordinary proxies o p = p
kind-is false ordinary proxies o p = o
