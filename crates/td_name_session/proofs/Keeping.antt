-- Iterators that a connection keeps.
use Rattle.std.proofs.Common.{◌≡◌, ℕ, suc, Bool, true, false, ◌||◌, if◌then◌else◌, List, [], ◌∷◌, refl, sym, ap, find}
use Rattle.std.proofs.Common.{Option, Some, None, ◌∙◌}
use Rattle.std.specs.List.{list_any}
use Rattle.std.specs.Prelude.{option_map}
use Rattle.td_ior.proofs.Keys.{some-is}
use Rattle.td_iter.specs.declared.desk.DeskEntry.{DeskEntry}
use Rattle.td_iter.specs.Desks.{LiveOf, is_called, is_live, item_of, place_of, with_item, with_item_at}

module _ {X : Type 0} where
  -- ---- what is found first, and its place

  kept_by : (trader : List ℕ) (number : ℕ) (e : DeskEntry X) (es : List (DeskEntry X)) (item : X) (b : Bool)
      → (option_map (λ x. x.item) (find (is_called trader number) es) ≡ Some item
      → with_item_at es (place_of trader number es) item ≡ es)
      → option_map (λ (x : DeskEntry X). x.item) (if b then Some e else find (is_called trader number) es) ≡ Some item
      → with_item_at (e ∷ es) (if b then 0 else suc (place_of trader number es)) item ≡ e ∷ es
  kept_by trader number e es item true behind found =
      let same : e.item ≡ item = some-is e.item item found in
      ap (λ (x : X). record e { item = x } ∷ es) (sym same)
  kept_by trader number e es item false behind found = ap (λ (xs : List (DeskEntry X)). e ∷ xs) (behind found)

  entries_kept : (trader : List ℕ) (number : ℕ) (es : List (DeskEntry X)) (item : X)
      → option_map (λ x. x.item) (find (is_called trader number) es) ≡ Some item
      → with_item_at es (place_of trader number es) item ≡ es
  entries_kept trader number [] item e = refl
  entries_kept trader number (x ∷ es) item e =
      kept_by trader number x es item (is_called trader number x) (entries_kept trader number es item) e

  -- a desk whose iterator has what it had is as it was
  pub item_kept : (trader : List ℕ) (number : ℕ) (d : LiveOf X) (item : X) → item_of trader number d ≡ Some item
      → with_item trader number d item ≡ d
  item_kept trader number d item e = ap (λ (es : List (DeskEntry X)). (es, d.1)) (entries_kept trader number d.0 item e)

  -- ---- whether there is one

  abbrev has : Option X → Bool
  has None = false
  has (Some x) = true

  has_by : (e : DeskEntry X) (o : Option (DeskEntry X)) (b any : Bool) → has (option_map (λ x. x.item) o) ≡ any
      → has (option_map (λ x. x.item) (if b then Some e else o)) ≡ (b || any)
  has_by e o true any h = refl
  has_by e o false any h = h

  has_one : (trader : List ℕ) (number : ℕ) (es : List (DeskEntry X))
      → has (option_map (λ x. x.item) (find (is_called trader number) es)) ≡ list_any (is_called trader number) es
  has_one trader number [] = refl
  has_one trader number (e ∷ es) =
      has_by e (find (is_called trader number) es) (is_called trader number e) (list_any (is_called trader number) es)
      (has_one trader number es)

  pub live_some : (trader : List ℕ) (number : ℕ) (d : LiveOf X) (item : X) → item_of trader number d ≡ Some item
      → is_live trader number d ≡ true
  live_some trader number d item e = sym (has_one trader number d.0) ∙ ap has e

  pub live_none : (trader : List ℕ) (number : ℕ) (d : LiveOf X) → item_of trader number d ≡ None
      → is_live trader number d ≡ false
  live_none trader number d e = sym (has_one trader number d.0) ∙ ap has e

  -- an iterator that is kept has some left, and one that isn't has none
  by_item : (o : Option X) (P : Option X → Type 0) → ((x : X) → o ≡ Some x → P (Some x)) → has o ≡ true → P o
  by_item None P h e = absurd cc
  by_item (Some x) P h e = h x refl

  no_item : (o : Option X) → has o ≡ false → o ≡ None
  no_item None e = refl
  no_item (Some x) e = absurd cc

  pub live_item : (trader : List ℕ) (number : ℕ) (d : LiveOf X) (P : Option X → Type 0) → ((x : X) → P (Some x))
      → is_live trader number d ≡ true → P (item_of trader number d)
  live_item trader number d P h e =
      by_item (item_of trader number d) P (λ x is. h x) (has_one trader number d.0 ∙ e)

  pub dead_item : (trader : List ℕ) (number : ℕ) (d : LiveOf X) → is_live trader number d ≡ false
      → item_of trader number d ≡ None
  dead_item trader number d e = no_item (item_of trader number d) (has_one trader number d.0 ∙ e)
