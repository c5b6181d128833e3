-- Lists whose items have places, and no place is of two items.
use Rattle.std.proofs.Common.{◌≡◌, ◌⊎◌, inl, inr, ℕ, List, [], ◌∷◌, ◌++◌, append_assoc, refl, sym, ap, ◌∙◌}
use Rattle.std.specs.List.{flat_map}
use Rattle.td_cdr.specs.Marks.{In}
use Rattle.td_server.specs.Whole.{Every}

-- ---- what is in a list

module _ {X : Type 0} where
  pub in-either : (a : X) (xs ys : List X) → In a (xs ++ ys) → In a xs ⊎ In a ys
  in-either a [] ys h = inr h
  in-either a (x ∷ xs) ys (inl e) = inl (inl e)
  in-either a (x ∷ xs) ys (inr h) =
      elim (in-either a xs ys h) as (λ _. In a (x ∷ xs) ⊎ In a ys) [ inl p ↦ inl (inr p) | inr p ↦ inr p ]

  pub in-first : (a : X) (xs ys : List X) → In a xs → In a (xs ++ ys)
  in-first a [] ys h = absurd h
  in-first a (x ∷ xs) ys (inl e) = inl e
  in-first a (x ∷ xs) ys (inr h) = inr (in-first a xs ys h)

  pub in-second : (a : X) (xs ys : List X) → In a ys → In a (xs ++ ys)
  in-second a [] ys h = h
  in-second a (x ∷ xs) ys h = inr (in-second a xs ys h)

  -- ---- of each item

  pub every-both : (P : X → Type 0) (xs ys : List X) → Every P xs → Every P ys → Every P (xs ++ ys)
  every-both P [] ys p q = q
  every-both P (x ∷ xs) ys p q = (p.0, every-both P xs ys p.1 q)

  pub every-here : (P : X → Type 0) (before rest : List X) (x : X) → Every P (before ++ x ∷ rest) → P x
  every-here P [] rest x p = p.0
  every-here P (y ∷ before) rest x p = every-here P before rest x p.1

  -- of each item and what stands behind it
  abbrev pub Each : (X → List X → Type 0) → List X → Type 0
  Each P [] = Unit {0}
  Each P (x ∷ xs) = P x xs × Each P xs

  each-behind : (P : X → List X → Type 0) (all front back : List X) → all ≡ front ++ back
      → ((before rest : List X) (x : X) → all ≡ before ++ x ∷ rest → P x rest) → Each P back
  each-behind P all front [] is f = tt
  each-behind P all front (x ∷ back) is f =
      (f front back x is, each-behind P all (front ++ x ∷ []) back (is ∙ sym (append_assoc front (x ∷ []) back)) f)

  -- what holds wherever the list is cut
  pub each-cut : (P : X → List X → Type 0) (all : List X)
      → ((before rest : List X) (x : X) → all ≡ before ++ x ∷ rest → P x rest) → Each P all
  each-cut P all f = each-behind P all [] all refl f

-- ---- places

module _ {X : Type 0} (f : X → List ℕ) where
  -- no place of x is one of these
  abbrev pub IsApart : X → List X → Type 0
  IsApart x xs = (place : ℕ) → In place (f x) → In place (flat_map f xs) → ⊥

  pub in-flat : (place : ℕ) (before rest : List X) (x : X) → In place (f x)
      → In place (flat_map f (before ++ x ∷ rest))
  in-flat place [] rest x h = in-first place (f x) (flat_map f rest) h
  in-flat place (y ∷ before) rest x h =
      in-second place (f y) (flat_map f (before ++ x ∷ rest)) (in-flat place before rest x h)

  none-in : (place : ℕ) (xs : List X) → (In place (flat_map f xs) → ⊥) → Every (λ (x : X). In place (f x) → ⊥) xs
  none-in place [] n = tt
  none-in place (x ∷ xs) n = (
    (λ h. n (in-first place (f x) (flat_map f xs) h)),
    none-in place xs (λ h. n (in-second place (f x) (flat_map f xs) h)),
  )

  pub flat-either : (place : ℕ) (xs ys : List X) → In place (flat_map f (xs ++ ys))
      → In place (flat_map f xs) ⊎ In place (flat_map f ys)
  flat-either place [] ys h = inr h
  flat-either place (x ∷ xs) ys h =
      elim (in-either place (f x) (flat_map f (xs ++ ys)) h)
      as (λ _. In place (f x ++ flat_map f xs) ⊎ In place (flat_map f ys)) [
        | inl p ↦ inl (in-first place (f x) (flat_map f xs) p)
        | inr p ↦ elim (flat-either place xs ys p)
            as (λ _. In place (f x ++ flat_map f xs) ⊎ In place (flat_map f ys)) [
              | inl q ↦ inl (in-second place (f x) (flat_map f xs) q)
              | inr q ↦ inr q
            ]
      ]

  pub apart-both : (xs ys : List X) → Each IsApart xs → Each IsApart ys
      → ((place : ℕ) → In place (flat_map f xs) → In place (flat_map f ys) → ⊥) → Each IsApart (xs ++ ys)
  apart-both [] ys p q cross = q
  apart-both (x ∷ xs) ys p q cross = (
    (λ place h i. elim (flat-either place xs ys i) as (λ _. ⊥) [
      | inl j ↦ p.0 place h j
      | inr j ↦ cross place (in-first place (f x) (flat_map f xs) h) j
    ]),
    apart-both xs ys p.1 q (λ place h. cross place (in-second place (f x) (flat_map f xs) h)),
  )

  pub flat-first : (place : ℕ) (xs ys : List X) → In place (flat_map f xs) → In place (flat_map f (xs ++ ys))
  flat-first place [] ys h = absurd h
  flat-first place (x ∷ xs) ys h =
      elim (in-either place (f x) (flat_map f xs) h) as (λ _. In place (f x ++ flat_map f (xs ++ ys))) [
        | inl p ↦ in-first place (f x) (flat_map f (xs ++ ys)) p
        | inr p ↦ in-second place (f x) (flat_map f (xs ++ ys)) (flat-first place xs ys p)
      ]

  pub flat-second : (place : ℕ) (xs ys : List X) → In place (flat_map f ys) → In place (flat_map f (xs ++ ys))
  flat-second place [] ys h = h
  flat-second place (x ∷ xs) ys h = in-second place (f x) (flat_map f (xs ++ ys)) (flat-second place xs ys h)

  -- one item has this place, and no other
  pub record IsOnce (place : ℕ) (all : List X) : Type 0 where
    pub before : List X
    pub one : X
    pub rest : List X
    pub are : all ≡ before ++ one ∷ rest
    pub has : In place (f one)
    pub alone : Every (λ (x : X). In place (f x) → ⊥) (before ++ rest)

  once-by : (place : ℕ) (x : X) (xs : List X) → IsApart x xs → In place (f x) ⊎ In place (flat_map f xs)
      → (In place (flat_map f xs) → IsOnce place xs) → IsOnce place (x ∷ xs)
  once-by place x xs apart (inl h) more = record {
    before = [];
    one = x;
    rest = xs;
    are = refl;
    has = h;
    alone = none-in place xs (apart place h);
  }
  once-by place x xs apart (inr h) more =
      let o = more h in
      record {
        before = x ∷ o.before;
        one = o.one;
        rest = o.rest;
        are = ap (λ (l : List X). x ∷ l) o.are;
        has = o.has;
        alone = ((λ i. apart place i h), o.alone);
      }

  pub once-in : (place : ℕ) (xs : List X) → Each IsApart xs → In place (flat_map f xs) → IsOnce place xs
  once-in place [] a h = absurd h
  once-in place (x ∷ xs) a h =
      once-by place x xs a.0 (in-either place (f x) (flat_map f xs) h) (once-in place xs a.1)
