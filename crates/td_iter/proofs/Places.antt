-- The place of an entry on a desk.
use Rattle.std.proofs.Common.{◌≡◌, ℕ, zero, suc, ◌+◌, ◌≤◌, ◌<◌, Bool, true, false, if◌then◌else◌, ◌||◌, List, [], ◌∷◌}
use Rattle.std.proofs.Common.{length, set, drop, find, get_or, nat_lt, Option, Some, None, option_map, cond, refl, sym}
use Rattle.std.proofs.Common.{ap, ◌∙◌, arith}
use Rattle.std.specs.List.{list_any}
use Rattle.std.proofs.lemmas.Bool.{both_ways}
use Rattle.std.proofs.lemmas.List.{drop_more}
use Rattle.td_cdr.specs.Format.{upwards}
use Rattle.td_iter.specs.declared.desk.DeskEntry.{DeskEntry}
use Rattle.td_iter.specs.Desks.{LiveOf, DeskEvent, Add, Remove, Change, PopFront, numbers_given, with_added}
use Rattle.td_iter.specs.Desks.{without_item, with_item}
use Rattle.td_iter.specs.Desks.{is_called, place_of, with_live_item, item_at, with_item_at, without_oldest}

place-by : (b : Bool) (n len : ℕ) → n ≤ len → (if b then 0 else suc n) ≤ suc len
place-by true n len le = omega arith
place-by false n len le = omega (arith, le)

live-by : (b a : Bool) (n len : ℕ) → nat_lt n len ≡ a
    → nat_lt (if b then 0 else suc n) (suc len) ≡ (if b then true else a)
live-by true a n len h = grind arith
live-by false a n len h = (let less : nat_lt (suc n) (suc len) ≡ nat_lt n len = grind arith in less) ∙ h

or-is : (b a : Bool) → (if b then true else a) ≡ (b || a)
or-is true a = refl
or-is false a = refl

stepped : (b : Bool) (n place whole : ℕ) → b ≡ false → place + (if b then 0 else suc n) ≡ whole
    → (place + 1) + n ≡ whole
stepped true n place whole f e = absurd (both_ways false refl (sym f))
stepped false n place whole f e = omega (arith, e)

found : (b : Bool) (n place whole : ℕ) → b ≡ true → place + (if b then 0 else suc n) ≡ whole → place ≡ whole
found true n place whole f e = omega (arith, e)
found false n place whole f e = absurd (both_ways false refl f)

module _ {I : Type 0} (trader : List ℕ) (number : ℕ) where
  pub place-within : (es : List (DeskEntry I)) → place_of trader number es ≤ length es
  place-within [] = omega arith
  place-within (e ∷ es) = place-by (is_called trader number e) (place_of trader number es) (length es) (place-within es)

  pub live-is : (es : List (DeskEntry I))
      → nat_lt (place_of trader number es) (length es) ≡ list_any (is_called trader number) es
  live-is [] = grind arith
  live-is (e ∷ es) = live-by (is_called trader number e) (list_any (is_called trader number) es)
      (place_of trader number es) (length es) (live-is es)
      ∙ or-is (is_called trader number e) (list_any (is_called trader number) es)

  -- the place, where none of the first i is called so
  pub place-step : (es : List (DeskEntry I)) (i : ℕ) (e : DeskEntry I) → i < length es → e ≡ get_or es i e
      → place_of trader number (drop i es) ≡ (if is_called trader number e then 0 else suc
      (place_of trader number (drop (i + 1) es)))
  place-step es i e lt is = ap (place_of trader number) (drop_more es i e lt
      ∙ ap (λ (x : DeskEntry I). x ∷ drop (i + 1) es) (sym is))

  -- ---- a walk over the entries

  module _ (es : List (DeskEntry I)) (i place : ℕ) (e : DeskEntry I) (lt : i < length es) (is : e ≡ get_or es i e)
      (same : place + place_of trader number (drop i es) ≡ place_of trader number es) where
    here : place + (if is_called trader number e then 0 else suc (place_of trader number (drop (i + 1) es))) ≡
        place_of trader number es
    here = ap (λ (n : ℕ). place + n) (sym (place-step es i e lt is)) ∙ same

    pub walked-on : is_called trader number e ≡ false
        → (place + 1) + place_of trader number (drop (i + 1) es) ≡ place_of trader number es
    walked-on f = stepped (is_called trader number e) (place_of trader number (drop (i + 1) es)) place
        (place_of trader number es) f here

    pub walked-to : is_called trader number e ≡ true → place ≡ place_of trader number es
    walked-to f = found (is_called trader number e) (place_of trader number (drop (i + 1) es)) place
        (place_of trader number es) f here

pub set-item : {I : Type 0} (es : List (DeskEntry I)) (place : ℕ) (e : DeskEntry I) (item : I) → place < length es → e ≡ get_or es place e
    → set es place (record e { item = item }) ≡ with_item_at es place item
set-item [] place e item lt is = absurd (let no : ⊥ = omega (arith, lt) in no)
set-item {I = I} (x ∷ es) zero e item lt is = ap (λ (y : DeskEntry I). record y { item = item } ∷ es) is
set-item {I = I} (x ∷ es) (suc place) e item lt is =
    ap (λ (ys : List (DeskEntry I)). x ∷ ys) (set-item es place e item (omega (arith, lt)) is)

pub set-long : {I : Type 0} (es : List (DeskEntry I)) (place : ℕ) (e : DeskEntry I) → length (set es place e) ≡ length es
set-long [] place e = refl
set-long (x ∷ es) zero e = refl
set-long (x ∷ es) (suc place) e = ap suc (set-long es place e)

pub lent-view : {I : Type 0} (es : List (DeskEntry I)) (next : ℕ) (d : LiveOf I) (place : ℕ) (e : DeskEntry I) (w : I) → (es, next) ≡ d
    → place < length es → e ≡ get_or es place e → (set es place (record e { item = w }), next) ≡ with_live_item place d w
lent-view {I = I} es next d place e w v lt is = ap (λ (ys : List (DeskEntry I)). (ys, next)) (set-item es place e w lt is)
    ∙ ap (λ (z : LiveOf I). with_live_item place z w) v

pub item-there : {I : Type 0} (es : List (DeskEntry I)) (place : ℕ) (e : DeskEntry I) → place < length es → e ≡ get_or es place e
    → item_at es place ≡ Some e.item
item-there [] place e lt is = absurd (let no : ⊥ = omega (arith, lt) in no)
item-there {I = I} (x ∷ es) zero e lt is = ap (λ (y : DeskEntry I). Some y.item) (sym is)
item-there (x ∷ es) (suc place) e lt is = item-there es place e (omega (arith, lt)) is

pub item-past : {I : Type 0} (es : List (DeskEntry I)) (place : ℕ) → length es ≤ place → item_at es place ≡ None
item-past [] place le = refl
item-past (x ∷ es) zero le = absurd (let no : ⊥ = omega (arith, le) in no)
item-past (x ∷ es) (suc place) le = item-past es place (omega (arith, le))

item-by : {I : Type 0} (b : Bool) (e : DeskEntry I) (es : List (DeskEntry I)) (n : ℕ) (r : Option (DeskEntry I))
    → item_at es n ≡ option_map (λ x. x.item) r
    → item_at (e ∷ es) (if b then 0 else suc n) ≡ option_map (λ x. x.item) (cond b (Some e) r)
item-by true e es n r h = refl
item-by false e es n r h = h

pub item-found : {I : Type 0} (trader : List ℕ) (number : ℕ) (es : List (DeskEntry I))
    → item_at es (place_of trader number es) ≡ option_map (λ x. x.item) (find (is_called trader number) es)
item-found trader number [] = refl
item-found trader number (e ∷ es) =
    item-by (is_called trader number e) e es (place_of trader number es) (find (is_called trader number) es)
    (item-found trader number es)

-- ---- numbers

next-number : (n m : ℕ) (xs : List ℕ) → xs ≡ upwards m (length xs) → m ≡ suc n → n ∷ xs ≡ upwards n (suc (length xs))
next-number n m xs h e = ap (λ (ys : List ℕ). n ∷ ys) (h ∙ ap (λ (k : ℕ). upwards k (length xs)) e)

pub numbers-rise : {I : Type 0} (events : List (DeskEvent I)) (d : LiveOf I)
    → numbers_given events d ≡ upwards d.1 (length (numbers_given events d))
numbers-rise [] d = refl
numbers-rise (Add trader item ∷ events) d = next-number d.1 (d.1 + 1) (numbers_given events (with_added trader item d))
    (numbers-rise events (with_added trader item d)) (omega arith)
numbers-rise (Remove trader number ∷ events) d = numbers-rise events (without_item trader number d)
numbers-rise (Change trader number item ∷ events) d = numbers-rise events (with_item trader number d item)
numbers-rise (PopFront ∷ events) d = numbers-rise events (without_oldest d)
