-- One turn of a walk along a chain.
use Rattle.std.proofs.Common.{◌≡◌, ℕ, ◌+◌, ◌-◌, ◌<◌, ◌≤◌, Bool, true, false, ◌||◌, eqb, List, [], ◌∷◌, ◌++◌, length}
use Rattle.std.proofs.Common.{take, drop, map, get_or, Option, Some, None, refl, sym, ap, ◌∙◌, subst, arith}
use Rattle.std.proofs.lemmas.List.{append_assoc, append-nil, length-append, drop_more, length_push, map_push}
use Rattle.std.proofs.lemmas.List.{take-append-drop, drop-drop}
use Rattle.std.proofs.lemmas.Bool.{eq-eqb}
use Rattle.td_store.specs.Slabs.{is_in, first_of, IsNext, value_at}
use Rattle.std.specs.BTreeMap.{BTreeMap, get}
use Rattle.std.specs.Ordering.{nat_cmp}
use Rattle.td_store.specs.Walks.{values_on, places_on, values_of}

-- the walk is at the place i of the chain
pub record IsAt {T : Type 0} (slots : List (Option T)) (chain : List ℕ) (i : ℕ) (next : Option ℕ)
    (start so_far : List T) (began steps : ℕ) : Type 0 where
  pub next_is : next ≡ first_of (drop i chain)
  pub all : so_far ++ values_on slots (drop i chain) ≡ start ++ values_on slots chain
  pub count : steps + length (values_on slots (drop i chain)) ≤ began + 1 + length (values_on slots chain)

split_first : (xs : List ℕ) (p : ℕ) → Some p ≡ first_of xs → xs ≡ p ∷ drop 1 xs
split_first [] p e = absurd (cc)
split_first (x ∷ xs) p e = let same : x ≡ p = cc in ap (λ z. z ∷ xs) same

pub at_first : (chain : List ℕ) (i p : ℕ) → Some p ≡ first_of (drop i chain) → drop i chain ≡ p ∷ drop (i + 1) chain
at_first chain i p e = split_first (drop i chain) p e ∙ ap (λ (t : List ℕ). p ∷ t) (drop-drop 1 i chain)

pub parted : (chain : List ℕ) (i p : ℕ) → Some p ≡ first_of (drop i chain)
    → chain ≡ take i chain ++ p ∷ drop (i + 1) chain
parted chain i p e = sym (take-append-drop i chain) ∙ ap (λ (t : List ℕ). take i chain ++ t) (at_first chain i p e)

or-true : (b : Bool) → (b || true) ≡ true
or-true true = refl
or-true false = refl

is_in-middle : (front back : List ℕ) (p : ℕ) → is_in p (front ++ p ∷ back) ≡ true
is_in-middle [] back p = ap (λ b. b || is_in p back) (eq-eqb p p refl)
is_in-middle (x ∷ front) back p = ap (λ b. eqb x p || b) (is_in-middle front back p) ∙ or-true (eqb x p)

pub on : (chain : List ℕ) (i p : ℕ) → Some p ≡ first_of (drop i chain) → is_in p chain ≡ true
on chain i p e = ap (is_in p) (parted chain i p e) ∙ is_in-middle (take i chain) (drop (i + 1) chain) p

kept : {T : Type 0} (slots : List (Option T)) (p : ℕ) (value : T) (ps : List ℕ) → Some value ≡ value_at slots p
    → values_on slots (p ∷ ps) ≡ value ∷ values_on slots ps
kept slots p value ps e = rw (← e) refl

module _ {T : Type 0} (slots : List (Option T)) (chain : List ℕ) (i p : ℕ) (next : Option ℕ) (start so_far : List T)
    (began steps more : ℕ) (value : T)
    (a : IsAt slots chain i (Some p) start so_far began steps) (found : Some value ≡ value_at slots p)
    (follows : IsNext chain p next) (step : more ≡ steps + 1) where
  pub one-more : IsAt slots chain (i + 1) next start (so_far ++ value ∷ []) began more
  one-more =
      let e : drop i chain ≡ p ∷ drop (i + 1) chain = at_first chain i p a.next_is in
      let here : values_on slots (drop i chain) ≡ value ∷ values_on slots (drop (i + 1) chain) =
      ap (values_on slots) e ∙ kept slots p value (drop (i + 1) chain) found in
      record {
        next_is = follows (take i chain) (drop (i + 1) chain) (parted chain i p a.next_is);
        all =
            append_assoc so_far (value ∷ []) (values_on slots (drop (i + 1) chain))
            ∙ (ap (λ (t : List T). so_far ++ t) (sym here) ∙ a.all);
        count = omega (arith, a.count, ap length here);
      }

pub begins : {T : Type 0} (slots : List (Option T)) (chain : List ℕ) (next : Option ℕ) (start : List T)
    (began steps : ℕ)
    → next ≡ first_of chain → steps ≡ began + 1 → IsAt slots chain 0 next start start began steps
begins slots chain next start began steps e s = record { next_is = e; all = refl; count = omega arith }

nothing : (xs : List ℕ) → None ≡ first_of xs → xs ≡ []
nothing [] e = refl
nothing (x ∷ xs) e = absurd (cc)

pub ends : {T : Type 0} (slots : List (Option T)) (chain : List ℕ) (i : ℕ) (start so_far : List T) (began steps : ℕ)
    → IsAt slots chain i None start so_far began steps → so_far ≡ start ++ values_on slots chain
ends slots chain i start so_far began steps a =
    let none : drop i chain ≡ [] = nothing (drop i chain) a.next_is in
    sym (append-nil so_far) ∙ (ap (λ (t : List ℕ). so_far ++ values_on slots t) (sym none) ∙ a.all)

-- a turn of the loop: r was read at p, and went to the end
pub turns : {T R : Type 0} (now : R → T) (slots : List (Option T)) (chain : List ℕ) (p : ℕ) (here next : Option ℕ)
    (base items after : List R) (began steps more : ℕ) (r : R)
    → here ≡ Some p
    → IsAt slots chain (length items - length base) here (map now base) (map now items) began steps
    × (length base ≤ length items)
    → Some (now r) ≡ value_at slots p → IsNext chain p next → more ≡ steps + 1 → after ≡ items ++ r ∷ []
    → IsAt slots chain (length after - length base) next (map now base) (map now after) began more
    × (length base ≤ length after)
turns {T} {R} now slots chain p here next base items after began steps more r at a found follows step e =
    let len : length after ≡ length items + 1 = ap length e ∙ length_push items r in
    let grows : length base ≤ length items = a.1 in
    let there : IsAt slots chain (length items - length base) (Some p) (map now base) (map now items) began steps =
    subst (λ (o : Option ℕ). IsAt slots chain (length items - length base) o (map now base) (map now items) began steps)
    at a.0 in
    let moved : IsAt slots chain (length items - length base + 1) next (map now base) (map now items ++ now r ∷ [])
    began more =
    one-more slots chain (length items - length base) p next (map now base) (map now items) began steps more (now r)
    there found follows step in
    let place : length items - length base + 1 ≡ length after - length base = omega arith in
    let all : map now items ++ now r ∷ [] ≡ map now after = sym (ap (map now) e ∙ map_push now items r) in (
      subst (λ (n : ℕ). IsAt slots chain n next (map now base) (map now after) began more) place
          (subst (λ (t : List T). IsAt slots chain (length items - length base + 1) next (map now base) t began more)
          all moved),
      omega arith,
    )

-- a value that was read and not kept
pub at-most : {T : Type 0} (slots : List (Option T)) (chain : List ℕ) (i p : ℕ) (here : Option ℕ)
    (start so_far : List T) (began steps : ℕ) (value : T)
    → here ≡ Some p → IsAt slots chain i here start so_far began steps → Some value ≡ value_at slots p
    → steps + 1 ≤ began + 1 + length (values_on slots chain)
at-most slots chain i p here start so_far began steps value at a found =
    let first : drop i chain ≡ p ∷ drop (i + 1) chain = at_first chain i p (sym at ∙ a.next_is) in
    let some : values_on slots (drop i chain) ≡ value ∷ values_on slots (drop (i + 1) chain) =
    ap (values_on slots) first ∙ kept slots p value (drop (i + 1) chain) found in
    omega (arith, a.count, ap length some)

-- ---- type by type

-- the chains of the first i incarnations have been walked
pub record IsAmongTypes {T : Type 0} (slots : List (Option T)) (chains : List (List ℕ)) (at : BTreeMap ℕ ℕ)
    (types : List ℕ) (i : ℕ) (start so_far : List T) (began steps : ℕ) : Type 0 where
  pub all : so_far ++ values_of slots chains at (drop i types) ≡ start ++ values_of slots chains at types
  pub count : steps + (length (drop i types) + length (values_of slots chains at (drop i types)))
      ≤ began + (length types + length (values_of slots chains at types))

module _ {T : Type 0} (slots : List (Option T)) (chains : List (List ℕ)) (at : BTreeMap ℕ ℕ) (types : List ℕ) (i : ℕ)
    (o : Option ℕ) (start so_far : List T) (began steps more : ℕ)
    (a : IsAmongTypes slots chains at types i start so_far began steps) (within : i < length types)
    (found : o ≡ get nat_cmp at (get_or types i 0))
    (few : more ≤ steps + 1 + length (values_on slots (places_on chains o))) where
  here : drop i types ≡ get_or types i 0 ∷ drop (i + 1) types
  here = drop_more types i 0 within

  split : values_of slots chains at (drop i types)
      ≡ values_on slots (places_on chains o) ++ values_of slots chains at (drop (i + 1) types)
  split =
      ap (values_of slots chains at) here
      ∙ ap (λ (p : Option ℕ). values_on slots (places_on chains p) ++ values_of slots chains at (drop (i + 1) types))
      (sym found)

  pub type-done : (next : List T) → next ≡ so_far ++ values_on slots (places_on chains o)
      → IsAmongTypes slots chains at types (i + 1) start next began more
  type-done next e = record {
    all = ap (λ (z : List T). z ++ values_of slots chains at (drop (i + 1) types)) e
        ∙ (append_assoc so_far (values_on slots (places_on chains o)) (values_of slots chains at (drop (i + 1) types))
        ∙ (ap (λ (z : List T). so_far ++ z) (sym split) ∙ a.all));
    count =
        omega (
          arith,
          a.count,
          ap length here,
          ap length split,
          length-append (values_on slots (places_on chains o)) (values_of slots chains at (drop (i + 1) types)),
        );
  }

  pub type-most : more ≤ began + length types + length (values_of slots chains at types)
  type-most =
      omega (
        arith,
        a.count,
        ap length here,
        ap length split,
        length-append (values_on slots (places_on chains o)) (values_of slots chains at (drop (i + 1) types)),
      )
