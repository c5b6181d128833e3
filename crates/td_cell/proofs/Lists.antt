-- Lists of things with numbers that rise.
use Rattle.std.proofs.Common.{◌≡◌, ◌≢◌, ℕ, ◌<◌, ◌≤◌, ◌⊎◌, inl, inr, List, [], ◌∷◌, ◌++◌, Bool, true, false, cond}
use Rattle.std.proofs.Common.{nat_lt, refl, sym, ◌∙◌, ap, subst, arith, ltb-true, ltb-false}
use Rattle.td_cdr.specs.Marks.{In}
use Rattle.td_cell.specs.Lists.{Rises, insert, merge}

module _ {X : Type 0} where
  pub in-snoc : (a x : X) (xs : List X) → In a (xs ++ x ∷ []) → In a xs ⊎ (a ≡ x)
  in-snoc a x [] h = elim h as (λ _. In a [] ⊎ (a ≡ x)) [ inl e ↦ inr e | inr f ↦ absurd f ]
  in-snoc a x (y ∷ xs) (inl e) = inl (inl e)
  in-snoc a x (y ∷ xs) (inr h) =
      elim (in-snoc a x xs h) as (λ _. In a (y ∷ xs) ⊎ (a ≡ x)) [ inl p ↦ inl (inr p) | inr e ↦ inr e ]

  pub in-last : (x : X) (xs : List X) → In x (xs ++ x ∷ [])
  in-last x [] = inl refl
  in-last x (y ∷ xs) = inr (in-last x xs)

  pub in-before : (a x : X) (xs : List X) → In a xs → In a (xs ++ x ∷ [])
  in-before a x [] h = absurd h
  in-before a x (y ∷ xs) (inl e) = inl e
  in-before a x (y ∷ xs) (inr h) = inr (in-before a x xs h)

  module _ (number : X → ℕ) where
    pub rises-snoc : (x : X) (xs : List X) → Rises number xs → ((y : X) → In y xs → number y < number x)
        → Rises number (xs ++ x ∷ [])
    rises-snoc x [] r below = ((λ y h. absurd h), tt)
    rises-snoc x (z ∷ xs) r below = (
      (λ y h. elim (in-snoc y x xs h) as (λ _. number z < number y)
          [ inl p ↦ r.0 y p | inr e ↦ subst (λ u. number z < number u) (sym e) (below z (inl refl)) ]),
      rises-snoc x xs r.1 (λ y h. below y (inr h)),
    )

    in-insert-by : (a x y : X) (ys : List X) (b : Bool) → In a (cond b (x ∷ y ∷ ys) (y ∷ insert number x ys))
        → (In a (insert number x ys) → (a ≡ x) ⊎ In a ys) → (a ≡ x) ⊎ In a (y ∷ ys)
    in-insert-by a x y ys true (inl e) more = inl e
    in-insert-by a x y ys true (inr h) more = inr h
    in-insert-by a x y ys false (inl e) more = inr (inl e)
    in-insert-by a x y ys false (inr h) more =
        elim (more h) as (λ _. (a ≡ x) ⊎ In a (y ∷ ys)) [ inl e ↦ inl e | inr p ↦ inr (inr p) ]

    pub in-insert : (a x : X) (ys : List X) → In a (insert number x ys) → (a ≡ x) ⊎ In a ys
    in-insert a x [] (inl e) = inl e
    in-insert a x [] (inr f) = absurd f
    in-insert a x (y ∷ ys) h = in-insert-by a x y ys (nat_lt (number x) (number y)) h (in-insert a x ys)

    has-insert-by : (a x y : X) (ys : List X) (b : Bool) → ((a ≡ x) ⊎ In a ys → In a (insert number x ys))
        → (a ≡ x) ⊎ In a (y ∷ ys) → In a (cond b (x ∷ y ∷ ys) (y ∷ insert number x ys))
    has-insert-by a x y ys true more h = h
    has-insert-by a x y ys false more (inl e) = inr (more (inl e))
    has-insert-by a x y ys false more (inr (inl e)) = inl e
    has-insert-by a x y ys false more (inr (inr h)) = inr (more (inr h))

    pub has-insert : (a x : X) (ys : List X) → (a ≡ x) ⊎ In a ys → In a (insert number x ys)
    has-insert a x [] h = h
    has-insert a x (y ∷ ys) h = has-insert-by a x y ys (nat_lt (number x) (number y)) (has-insert a x ys) h

    pub in-merge : (a : X) (xs ys : List X) → In a (merge number xs ys) → In a xs ⊎ In a ys
    in-merge a [] ys h = inr h
    in-merge a (x ∷ xs) ys h = elim (in-insert a x (merge number xs ys) h) as (λ _. In a (x ∷ xs) ⊎ In a ys) [
      | inl e ↦ inl (inl e)
      | inr p ↦ elim (in-merge a xs ys p) as (λ _. In a (x ∷ xs) ⊎ In a ys) [ inl q ↦ inl (inr q) | inr q ↦ inr q ]
    ]

    pub has-merge : (a : X) (xs ys : List X) → In a xs ⊎ In a ys → In a (merge number xs ys)
    has-merge a [] ys (inl f) = absurd f
    has-merge a [] ys (inr h) = h
    has-merge a (x ∷ xs) ys (inl (inl e)) = has-insert a x (merge number xs ys) (inl e)
    has-merge a (x ∷ xs) ys (inl (inr h)) = has-insert a x (merge number xs ys) (inr (has-merge a xs ys (inl h)))
    has-merge a (x ∷ xs) ys (inr h) = has-insert a x (merge number xs ys) (inr (has-merge a xs ys (inr h)))

    rises-insert-by : (x y : X) (ys : List X) (b : Bool) → nat_lt (number x) (number y) ≡ b → Rises number (y ∷ ys)
        → number y ≢ number x → Rises number (insert number x ys)
        → Rises number (cond b (x ∷ y ∷ ys) (y ∷ insert number x ys))
    rises-insert-by x y ys true e r ne more =
        let less : number x < number y = ltb-true (number x) (number y) e in (
          (λ z h. elim h as (λ _. number x < number z)
              [ inl p ↦ subst (λ u. number x < number u) (sym p) less | inr p ↦ let q = r.0 z p in omega arith ]),
          r,
        )
    rises-insert-by x y ys false e r ne more =
        let most : number y ≤ number x = ltb-false (number x) (number y) e in (
          (λ z h. elim (in-insert z x ys h) as (λ _. number y < number z)
              [ inl p ↦ subst (λ u. number y < number u) (sym p) (omega arith) | inr p ↦ r.0 z p ]),
          more,
        )

    pub rises-insert : (x : X) (ys : List X) → Rises number ys → ((y : X) → In y ys → number y ≢ number x)
        → Rises number (insert number x ys)
    rises-insert x [] r ne = ((λ y h. absurd h), tt)
    rises-insert x (y ∷ ys) r ne =
        rises-insert-by x y ys (nat_lt (number x) (number y)) refl r (ne y (inl refl))
        (rises-insert x ys r.1 (λ z h. ne z (inr h)))

    -- what is apart and rises, rises when it is merged
    pub rises-merge : (xs ys : List X) → Rises number xs → Rises number ys
        → ((x y : X) → In x xs → In y ys → number x ≢ number y) → Rises number (merge number xs ys)
    rises-merge [] ys r s apart = s
    rises-merge (x ∷ xs) ys r s apart =
        rises-insert x (merge number xs ys) (rises-merge xs ys r.1 s (λ a b h k. apart a b (inr h) k))
        (λ y h. elim (in-merge y xs ys h) as (λ _. number y ≢ number x) [
          | inl p ↦ λ e. let less = r.0 y p in absurd (omega arith)
          | inr p ↦ λ e. apart x y (inl refl) p (sym e)
        ])

    insert-rises-by : (x y : X) (ys : List X) (b : Bool) → Rises number (cond b (x ∷ y ∷ ys) (y ∷ insert number x ys))
        → nat_lt (number x) (number y) ≡ b
        → (Rises number (insert number x ys) → Rises number ys × ((z : X) → In z ys → number z ≢ number x))
        → Rises number (y ∷ ys) × ((z : X) → In z (y ∷ ys) → number z ≢ number x)
    insert-rises-by x y ys true r e more = (r.1, λ z h. λ same. let less = r.0 z h in absurd (omega arith))
    insert-rises-by x y ys false r e more =
        let m = more r.1 in (
          ((λ z h. r.0 z (has-insert z x ys (inr h))), m.0),
          λ z h. elim h as (λ _. number z ≢ number x) [
            | inl p ↦ λ same. let less = r.0 x (has-insert x x ys (inl refl)) in
                let q : number z ≡ number y = ap number p in
                absurd (omega arith)
            | inr p ↦ m.1 z p
          ],
        )

    pub insert-rises : (x : X) (ys : List X) → Rises number (insert number x ys)
        → Rises number ys × ((z : X) → In z ys → number z ≢ number x)
    insert-rises x [] r = (tt, λ z h. absurd h)
    insert-rises x (y ∷ ys) r = insert-rises-by x y ys (nat_lt (number x) (number y)) r refl (insert-rises x ys)

    -- where what is merged rises, nothing was in both
    pub merge-apart : (xs ys : List X) → Rises number (merge number xs ys) → (x y : X) → In x xs → In y ys
        → number x ≢ number y
    merge-apart [] ys r x y h k = absurd h
    merge-apart (z ∷ xs) ys r x y (inl e) k =
        λ same. (insert-rises z (merge number xs ys) r).1 y (has-merge y xs ys (inr k)) (sym same ∙ ap number e)
    merge-apart (z ∷ xs) ys r x y (inr h) k = merge-apart xs ys (insert-rises z (merge number xs ys) r).0 x y h k
