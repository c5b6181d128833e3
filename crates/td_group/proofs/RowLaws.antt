-- Lists side by side.
use Rattle.std.proofs.Common.{◌≡◌, ℕ, ◌<◌, ◌≤◌, zero, suc, List, [], ◌∷◌, ◌++◌, map, length, slice_get, slice_set}
use Rattle.std.proofs.Common.{slice_index_or, option_map, Some, refl, sym, ◌∙◌, ap, ap₂, subst, arith}
use Rattle.std.proofs.lemmas.List.Elements.{All-cons, All-head, All-nil, All-tail}
use Rattle.std.proofs.lemmas.List.{length-map}
use Rattle.std.proofs.lemmas.Option.{slice_get_read, slice_get-map}
use Rattle.std.proofs.Math.Seq.{map-set_same}
use Rattle.std.specs.List.{All, AllZip}
use Rattle.td_cell.proofs.Chains.{just}
use Rattle.td_group.specs.Rows.{Beside, DropsFront, Rows}

-- ---- one list

pub got : {A C : Type 0} (f : A → C) (ps : List A) (k : ℕ) (p : A) → k < length ps → p ≡ slice_index_or ps k p
    → slice_get (map f ps) k ≡ Some (f p)
got f ps k p inside is =
    slice_get-map f ps k ∙ ap (option_map f) (slice_get_read ps (length ps) k p refl inside is)

-- of two lists that are the same by these functions, so are the elements at one place
pub same_at : {A C D : Type 0} (f : A → D) (h : C → D) (ps : List A) (cs : List C) (k : ℕ) (p : A) (c : C)
    → map f ps ≡ map h cs → k < length ps → p ≡ slice_index_or ps k p → c ≡ slice_index_or cs k c → f p ≡ h c
same_at {A} {C} {D} f h ps cs k p c same inside one two =
    let n : length ps ≡ length cs = sym (length-map ps f) ∙ (ap length same ∙ length-map cs h) in
    just (f p) (h c) (sym (got f ps k p inside one) ∙ (ap (λ (xs : List D). slice_get xs k) same ∙ got h cs k c (rw n at
    inside) two))

-- a write that this function doesn't see
pub kept_at : {A C : Type 0} (f : A → C) (ps : List A) (k : ℕ) (p q : A) → p ≡ slice_index_or ps k p → f q ≡ f p
    → map f (slice_set ps k q) ≡ map f ps
kept_at f ps k p q is same = map-set_same f ps k q p (same ∙ ap f is)

pub all_at : {A : Type 0} (P : A → Type 0) (ps : List A) (k : ℕ) (p : A) → All P ps → k < length ps
    → p ≡ slice_index_or ps k p → P p
all_at P ps k p all inside is = subst P (sym is) (all k p inside)

-- ---- two lists

module _ {A C : Type 0} (Q : C → A → Type 0) where
  pub zip_length : (cs : List C) (ps : List A) → AllZip Q cs ps → length cs ≡ length ps
  zip_length [] [] z = refl
  zip_length [] (p ∷ ps) z = absurd z
  zip_length (c ∷ cs) [] z = absurd z
  zip_length (c ∷ cs) (p ∷ ps) z = let n = zip_length cs ps z.1 in omega arith

  pub zip_at : (cs : List C) (ps : List A) (k : ℕ) (c : C) (p : A) → AllZip Q cs ps → k < length cs
      → c ≡ slice_index_or cs k c → p ≡ slice_index_or ps k p → Q c p
  zip_at [] ps k c p z inside one two = absurd (omega arith)
  zip_at (x ∷ cs) [] k c p z inside one two = absurd z
  zip_at (x ∷ cs) (y ∷ ps) zero c p z inside one two =
      subst (λ (v : C). Q v p) (sym one) (subst (λ (w : A). Q x w) (sym two) z.0)
  zip_at (x ∷ cs) (y ∷ ps) (suc k) c p z inside one two = zip_at cs ps k c p z.1 (omega arith) one two

  pub zip_set : (cs : List C) (ps : List A) (k : ℕ) (c : C) (q : A) → AllZip Q cs ps → k < length cs
      → c ≡ slice_index_or cs k c → Q c q → AllZip Q cs (slice_set ps k q)
  zip_set [] ps k c q z inside is h = absurd (omega arith)
  zip_set (x ∷ cs) [] k c q z inside is h = absurd z
  zip_set (x ∷ cs) (p ∷ ps) zero c q z inside is h = (subst (λ (y : C). Q y q) is h, z.1)
  zip_set (x ∷ cs) (p ∷ ps) (suc k) c q z inside is h = (z.0, zip_set cs ps k c q z.1 (omega arith) is h)

  pub zip_map : {D : Type 0} (f : C → D) (h : A → D) → ((c : C) (p : A) → Q c p → h p ≡ f c) → (cs : List C)
      (ps : List A) → AllZip Q cs ps → map h ps ≡ map f cs
  zip_map f h same [] [] z = refl
  zip_map f h same [] (p ∷ ps) z = absurd z
  zip_map f h same (c ∷ cs) [] z = absurd z
  zip_map {D} f h same (c ∷ cs) (p ∷ ps) z =
      ap₂ (λ (x : D) (xs : List D). x ∷ xs) (same c p z.0) (zip_map f h same cs ps z.1)

  pub zip_all : (P : C → Type 0) (S : A → Type 0) → ((c : C) (p : A) → Q c p → P c → S p) → (cs : List C)
      (ps : List A) → AllZip Q cs ps → All P cs → All S ps
  zip_all P S on [] [] z all = All-nil S
  zip_all P S on [] (p ∷ ps) z all = absurd z
  zip_all P S on (c ∷ cs) [] z all = absurd z
  zip_all P S on (c ∷ cs) (p ∷ ps) z all =
      All-cons S p ps (on c p z.0 (All-head P c cs all)) (zip_all P S on cs ps z.1 (All-tail P c cs all))

  -- what a longer pair of lists has at its end
  pub zip_cut : (cs : List C) (ps : List A) (c : C) (p : A) → AllZip Q (cs ++ c ∷ []) (ps ++ p ∷ [])
      → AllZip Q cs ps × Q c p
  zip_cut [] [] c p z = (tt, z.0)
  zip_cut [] (y ∷ []) c p z = absurd z.1
  zip_cut [] (y ∷ w ∷ ps) c p z = absurd z.1
  zip_cut (x ∷ []) [] c p z = absurd z.1
  zip_cut (x ∷ w ∷ cs) [] c p z = absurd z.1
  zip_cut (x ∷ cs) (y ∷ ps) c p z = let h = zip_cut cs ps c p z.1 in ((z.0, h.0), h.1)

pub zip_itself : {A : Type 0} (Q : A → A → Type 0) → ((p : A) → Q p p) → (ps : List A) → AllZip Q ps ps
zip_itself Q same [] = tt
zip_itself Q same (p ∷ ps) = (same p, zip_itself Q same ps)

-- what holds beside the one holds beside the other
pub zip_over : {A B : Type 0} (S : A → B → Type 0) (K : A → A → Type 0) → ((p q : A) (t : B) → K p q → S p t → S q t)
    → (ps qs : List A) (ts : List B) → AllZip K ps qs → AllZip S ps ts → AllZip S qs ts
zip_over S K on [] [] ts k s = s
zip_over S K on [] (q ∷ qs) ts k s = absurd k
zip_over S K on (p ∷ ps) [] ts k s = absurd k
zip_over S K on (p ∷ ps) (q ∷ qs) [] k s = absurd s
zip_over S K on (p ∷ ps) (q ∷ qs) (t ∷ ts) k s = (on p q t k.0 s.0, zip_over S K on ps qs ts k.1 s.1)

pub zip_weaker : {A C : Type 0} (Q S : C → A → Type 0) → ((c : C) (p : A) → Q c p → S c p) → (cs : List C)
    (ps : List A) → AllZip Q cs ps → AllZip S cs ps
zip_weaker Q S on [] [] z = tt
zip_weaker Q S on [] (p ∷ ps) z = absurd z
zip_weaker Q S on (c ∷ cs) [] z = absurd z
zip_weaker Q S on (c ∷ cs) (p ∷ ps) z = (on c p z.0, zip_weaker Q S on cs ps z.1)

-- ---- a list beside the first of another

module _ {A B : Type 0} (S : A → B → Type 0) where
  pub beside_zip : (ts : List B) (ps : List A) → AllZip S ps ts → Beside S ts ps
  beside_zip [] ps z = tt
  beside_zip (t ∷ ts) [] z = absurd z
  beside_zip (t ∷ ts) (p ∷ ps) z = (z.0, beside_zip ts ps z.1)

  pub beside_fits : (ts : List B) (ps : List A) → Beside S ts ps → length ts ≤ length ps
  beside_fits [] ps b = omega arith
  beside_fits (t ∷ ts) [] b = absurd b
  beside_fits (t ∷ ts) (p ∷ ps) b = let h = beside_fits ts ps b.1 in omega arith

  pub beside_last : (ts : List B) (ps : List A) (n : ℕ) (t : B) (p : A) → length ts ≡ n → p ≡ slice_index_or ps n p
      → Beside S (ts ++ t ∷ []) ps → S p t
  beside_last [] [] n t p e is b = absurd b
  beside_last [] (x ∷ ps) zero t p e is b = subst (λ (y : A). S y t) (sym is) b.0
  beside_last [] (x ∷ ps) (suc n) t p e is b = absurd (omega arith)
  beside_last (s ∷ ts) [] n t p e is b = absurd b
  beside_last (s ∷ ts) (x ∷ ps) zero t p e is b = absurd (omega arith)
  beside_last (s ∷ ts) (x ∷ ps) (suc n) t p e is b = beside_last ts ps n t p (omega arith) is b.1

  pub beside_less : (ts : List B) (ps : List A) (n : ℕ) (t : B) (q : A) → length ts ≡ n
      → Beside S (ts ++ t ∷ []) ps → Beside S ts (slice_set ps n q)
  beside_less [] ps n t q e b = tt
  beside_less (s ∷ ts) [] n t q e b = absurd b
  beside_less (s ∷ ts) (p ∷ ps) zero t q e b = absurd (omega arith)
  beside_less (s ∷ ts) (p ∷ ps) (suc n) t q e b = (b.0, beside_less ts ps n t q (omega arith) b.1)

-- ---- what the first of a list became

module _ {A B : Type 0} (R : A → B → A → Type 0) where
  -- none of them
  pub front_none : (ts : List B) (ps : List A) → ts ≡ [] → DropsFront R ts ps ps
  front_none ts ps e = subst (λ (us : List B). DropsFront R us ps ps) (sym e) refl

  front-first : (ps ws : List A) (x p q : A) (t : B) → p ≡ x → R p t q → ws ≡ q ∷ ps → DropsFront R (t ∷ []) (x ∷ ps) ws
  front-first ps ws x p q t is r e =
      subst (λ (ys : List A). DropsFront R (t ∷ []) (x ∷ ps) ys) (sym e) (subst (λ (y : A). R y t q) is r, refl)

  -- the next one became q
  pub front_more : (ts : List B) (ps qs : List A) (n : ℕ) (t : B) (p q : A) → length ts ≡ n → n < length qs
      → p ≡ slice_index_or qs n p → R p t q → DropsFront R ts ps qs → DropsFront R (ts ++ t ∷ []) ps (slice_set qs n q)
  front_more [] ps [] n t p q e inside is r f = absurd (omega arith)
  front_more [] ps (x ∷ qs) zero t p q e inside is r f =
      subst (λ (ys : List A). DropsFront R (t ∷ []) ys (q ∷ qs)) f (front-first qs (q ∷ qs) x p q t is r refl)
  front_more [] ps (x ∷ qs) (suc n) t p q e inside is r f = absurd (omega arith)
  front_more (s ∷ ts) [] qs n t p q e inside is r f = absurd f
  front_more (s ∷ ts) (y ∷ ps) [] n t p q e inside is r f = absurd f
  front_more (s ∷ ts) (y ∷ ps) (x ∷ qs) zero t p q e inside is r f = absurd (omega arith)
  front_more (s ∷ ts) (y ∷ ps) (x ∷ qs) (suc n) t p q e inside is r f = (
    f.0,
    front_more ts ps qs n t p q (omega arith) (omega arith) is r f.1,
  )

  -- the last of them became q first
  pub front_less : (ts : List B) (ps ws : List A) (n : ℕ) (t : B) (p q : A) → length ts ≡ n → n < length ps
      → p ≡ slice_index_or ps n p → R p t q → DropsFront R ts (slice_set ps n q) ws → DropsFront R (ts ++ t ∷ []) ps ws
  front_less [] [] ws n t p q e inside is r f = absurd (omega arith)
  front_less [] (x ∷ ps) ws zero t p q e inside is r f = front-first ps ws x p q t is r f
  front_less [] (x ∷ ps) ws (suc n) t p q e inside is r f = absurd (omega arith)
  front_less (s ∷ ts) [] ws n t p q e inside is r f = absurd (omega arith)
  front_less (s ∷ ts) (x ∷ ps) ws zero t p q e inside is r f = absurd (omega arith)
  front_less (s ∷ ts) (x ∷ ps) [] (suc n) t p q e inside is r f = absurd f
  front_less (s ∷ ts) (x ∷ ps) (w ∷ ws) (suc n) t p q e inside is r f = (
    f.0,
    front_less ts ps ws n t p q (omega arith) (omega arith) is r f.1,
  )

  -- all of them
  pub front_rows : (ts : List B) (ps qs : List A) → length ts ≡ length ps → DropsFront R ts ps qs → Rows R ps ts qs
  front_rows [] [] [] e f = tt
  front_rows [] [] (q ∷ qs) e f = absurd (let bad : ⊥ = cc in bad)
  front_rows [] (p ∷ ps) qs e f = absurd (omega arith)
  front_rows (t ∷ ts) [] qs e f = absurd (omega arith)
  front_rows (t ∷ ts) (p ∷ ps) [] e f = absurd f
  front_rows (t ∷ ts) (p ∷ ps) (q ∷ qs) e f = (f.0, front_rows ts ps qs (omega arith) f.1)

  pub front_length : (ts : List B) (ps qs : List A) → DropsFront R ts ps qs → length qs ≡ length ps
  front_length [] ps qs f = ap length f
  front_length (t ∷ ts) [] qs f = absurd f
  front_length (t ∷ ts) (p ∷ ps) [] f = absurd f
  front_length (t ∷ ts) (p ∷ ps) (q ∷ qs) f = let h = front_length ts ps qs f.1 in omega arith

-- ---- three lists

module _ {A B C : Type 0} (R : A → B → C → Type 0) where
  pub rows_snoc : (xs : List A) (ys : List B) (zs : List C) (x : A) (y : B) (z : C) → Rows R xs ys zs → R x y z
      → Rows R (xs ++ x ∷ []) (ys ++ y ∷ []) (zs ++ z ∷ [])
  rows_snoc [] [] [] x y z h r = (r, tt)
  rows_snoc [] [] (c ∷ zs) x y z h r = absurd h
  rows_snoc [] (b ∷ ys) zs x y z h r = absurd h
  rows_snoc (a ∷ xs) [] zs x y z h r = absurd h
  rows_snoc (a ∷ xs) (b ∷ ys) [] x y z h r = absurd h
  rows_snoc (a ∷ xs) (b ∷ ys) (c ∷ zs) x y z h r = (h.0, rows_snoc xs ys zs x y z h.1 r)

  -- the first and the second list, and the second and the third
  pub rows_left : (S : A → B → Type 0) → ((x : A) (y : B) (z : C) → R x y z → S x y) → (xs : List A) (ys : List B)
      (zs : List C) → Rows R xs ys zs → AllZip S xs ys
  rows_left S on [] [] zs h = tt
  rows_left S on [] (y ∷ ys) zs h = absurd h
  rows_left S on (x ∷ xs) [] zs h = absurd h
  rows_left S on (x ∷ xs) (y ∷ ys) [] h = absurd h
  rows_left S on (x ∷ xs) (y ∷ ys) (z ∷ zs) h = (on x y z h.0, rows_left S on xs ys zs h.1)

  pub rows_right : (S : B → C → Type 0) → ((x : A) (y : B) (z : C) → R x y z → S y z) → (xs : List A) (ys : List B)
      (zs : List C) → Rows R xs ys zs → AllZip S ys zs
  rows_right S on [] [] [] h = tt
  rows_right S on [] [] (z ∷ zs) h = absurd h
  rows_right S on [] (y ∷ ys) zs h = absurd h
  rows_right S on (x ∷ xs) [] zs h = absurd h
  rows_right S on (x ∷ xs) (y ∷ ys) [] h = absurd h
  rows_right S on (x ∷ xs) (y ∷ ys) (z ∷ zs) h = (on x y z h.0, rows_right S on xs ys zs h.1)

  pub rows_outer : (S : A → C → Type 0) → ((x : A) (y : B) (z : C) → R x y z → S x z) → (xs : List A) (ys : List B)
      (zs : List C) → Rows R xs ys zs → AllZip S xs zs
  rows_outer S on [] [] [] h = tt
  rows_outer S on [] [] (z ∷ zs) h = absurd h
  rows_outer S on [] (y ∷ ys) zs h = absurd h
  rows_outer S on (x ∷ xs) [] zs h = absurd h
  rows_outer S on (x ∷ xs) (y ∷ ys) [] h = absurd h
  rows_outer S on (x ∷ xs) (y ∷ ys) (z ∷ zs) h = (on x y z h.0, rows_outer S on xs ys zs h.1)

-- the third and the second
pub rows_turned : {A B C : Type 0} (R : A → B → C → Type 0) (S : C → B → Type 0) → ((x : A) (y : B) (z : C) → R x y z
    → S z y) → (xs : List A) (ys : List B) (zs : List C) → Rows R xs ys zs → AllZip S zs ys
rows_turned R S on [] [] [] h = tt
rows_turned R S on [] [] (z ∷ zs) h = absurd h
rows_turned R S on [] (y ∷ ys) zs h = absurd h
rows_turned R S on (x ∷ xs) [] zs h = absurd h
rows_turned R S on (x ∷ xs) (y ∷ ys) [] h = absurd h
rows_turned R S on (x ∷ xs) (y ∷ ys) (z ∷ zs) h = (on x y z h.0, rows_turned R S on xs ys zs h.1)

-- two pairs that share a list
module _ {A B C : Type 0} (P : C → A → Type 0) (S : A → B → Type 0) (Q : C → B → Type 0)
    (on : (c : C) (a : A) (b : B) → P c a → S a b → Q c b) where
  pub zip_through : (cs : List C) (ps : List A) (ts : List B) → AllZip P cs ps → AllZip S ps ts → AllZip Q cs ts
  zip_through [] [] [] p s = tt
  zip_through [] [] (t ∷ ts) p s = absurd s
  zip_through [] (a ∷ ps) ts p s = absurd p
  zip_through (c ∷ cs) [] ts p s = absurd p
  zip_through (c ∷ cs) (a ∷ ps) [] p s = absurd s
  zip_through (c ∷ cs) (a ∷ ps) (t ∷ ts) p s = (on c a t p.0 s.0, zip_through cs ps ts p.1 s.1)

-- a place among the one is a place among the other
pub named_inside : {A B C : Type 0} (f : A → B) (h : A → C) (ps : List A) (names : List B) (k : ℕ) → map f ps ≡ names
    → k < length (map h ps) → k < length names
named_inside f h ps names k named inside =
    let n : length ps ≡ length names = sym (length-map ps f) ∙ ap length named in
    let m : length (map h ps) ≡ length ps = length-map ps h in
    omega arith

pub paired_inside : {A C D : Type 0} (f : A → D) (h : C → D) (ps : List A) (cs : List C) (k : ℕ) → map f ps ≡ map h cs
    → k < length ps → k < length cs
paired_inside f h ps cs k same inside =
    let n : length ps ≡ length cs = sym (length-map ps f) ∙ (ap length same ∙ length-map cs h) in
    omega arith
