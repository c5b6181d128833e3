-- What is left to a connection's iterators can be written, and stays so: one is added, removed, or has less left.
use Rattle.std.proofs.Common.{◌≡◌, ℕ, zero, suc, ◌+◌, ◌-◌, List, [], ◌∷◌, length, take, drop, Option, Some, None, refl}
use Rattle.std.proofs.Common.{find, option_map}
use Rattle.std.specs.List.{AllByRecursion}
use Rattle.td_iter.specs.Desks.{Live, with_added, is_called, item_of, place_of, without_item, with_item, with_item_at}
use Rattle.td_iter.specs.declared.desk.DeskEntry.{DeskEntry}
use Rattle.td_iter.specs.declared.item.Item.{Item}
use Rattle.td_session_runs_laws.proofs.Parts.{each-behind, each-front}
use Rattle.td_session_runs_laws.specs.Writable.{AdmitsItem, IsWritableDesk}
use Rattle.td_types.proofs.Sequences.{each-append, each-found}

abbrev Holds : DeskEntry Item → Type 0
Holds e = AdmitsItem e.item

pub added-writes : (name : List ℕ) (item : Item) (d : Live) → IsWritableDesk d → AdmitsItem item
    → IsWritableDesk (with_added name item d)
added-writes name item d h i =
    each-append Holds (drop (length d.0 - 255) d.0) (record { trader = name; number = d.1; item = item } ∷ [])
    (each-behind Holds (length d.0 - 255) d.0 h) (i, tt)

pub removed-writes : (name : List ℕ) (number : ℕ) (d : Live) → IsWritableDesk d
    → IsWritableDesk (without_item name number d)
removed-writes name number d h =
    let place = place_of name number d.0 in
    each-append Holds (take place d.0) (drop (place + 1) d.0) (each-front Holds place d.0 h)
    (each-behind Holds (place + 1) d.0 h)

placed-writes : (es : List (DeskEntry Item)) (place : ℕ) (item : Item) → AllByRecursion Holds es → AdmitsItem item
    → AllByRecursion Holds (with_item_at es place item)
placed-writes [] place item h i = tt
placed-writes (e ∷ es) zero item h i = (i, h.1)
placed-writes (e ∷ es) (suc place) item h i = (h.0, placed-writes es place item h.1 i)

pub item-writes : (name : List ℕ) (number : ℕ) (d : Live) (item : Item) → IsWritableDesk d → AdmitsItem item
    → IsWritableDesk (with_item name number d item)
item-writes name number d item h i = placed-writes d.0 (place_of name number d.0) item h i

-- what is left of an iterator, where it is live
abbrev pub AdmitsLeft : Option Item → Type 0
AdmitsLeft None = Unit {0}
AdmitsLeft (Some left) = AdmitsItem left

found-left : (found : Option (DeskEntry Item)) → ((e : DeskEntry Item) → found ≡ Some e → Holds e)
    → AdmitsLeft (option_map (λ (e : DeskEntry Item). e.item) found)
found-left None k = tt
found-left (Some e) k = k e refl

pub left-writes : (name : List ℕ) (number : ℕ) (d : Live) → IsWritableDesk d → AdmitsLeft (item_of name number d)
left-writes name number d h =
    found-left (find (is_called name number) d.0) (λ e is. each-found Holds (is_called name number) d.0 e h is)
