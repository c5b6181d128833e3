-- An iterator that is looked at and not changed.
use Rattle.std.proofs.Common.{◌≡◌, ℕ, suc, Bool, true, false, if◌then◌else◌, List, [], ◌∷◌, refl, sym, ap}
use Rattle.std.proofs.Common.{Some, find}
use Rattle.std.specs.Prelude.{option_map}
use Rattle.td_ior.proofs.Keys.{some-is}
use Rattle.td_iter.specs.declared.desk.DeskEntry.{DeskEntry}
use Rattle.td_iter.specs.declared.item.Item.{Item}
use Rattle.td_iter.specs.Desks.{Live, is_called, item_of, place_of, with_item, with_item_at}

-- what is found first, and its place
kept_by : (trader : List ℕ) (number : ℕ) (e : DeskEntry Item) (es : List (DeskEntry Item)) (item : Item) (b : Bool)
    → (option_map (λ x. x.item) (find (is_called trader number) es) ≡ Some item
    → with_item_at es (place_of trader number es) item ≡ es)
    → option_map (λ (x : DeskEntry Item). x.item) (if b then Some e else find (is_called trader number) es) ≡ Some item
    → with_item_at (e ∷ es) (if b then 0 else suc (place_of trader number es)) item ≡ e ∷ es
kept_by trader number e es item true behind found =
    let same : e.item ≡ item = some-is e.item item found in
    ap (λ (x : Item). record e { item = x } ∷ es) (sym same)
kept_by trader number e es item false behind found = ap (λ (xs : List (DeskEntry Item)). e ∷ xs) (behind found)

entries_kept : (trader : List ℕ) (number : ℕ) (es : List (DeskEntry Item)) (item : Item)
    → option_map (λ x. x.item) (find (is_called trader number) es) ≡ Some item
    → with_item_at es (place_of trader number es) item ≡ es
entries_kept trader number [] item e = refl
entries_kept trader number (x ∷ es) item e =
    kept_by trader number x es item (is_called trader number x) (entries_kept trader number es item) e

-- a desk whose iterator has what it had is as it was
pub item_kept : (trader : List ℕ) (number : ℕ) (d : Live) (item : Item) → item_of trader number d ≡ Some item
    → with_item trader number d item ≡ d
item_kept trader number d item e = ap (λ (es : List (DeskEntry Item)). (es, d.1)) (entries_kept trader number d.0 item e)
