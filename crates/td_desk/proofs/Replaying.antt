-- What stands on a desk after one call more.
use Rattle.std.proofs.Common.{◌≡◌, ℕ, zero, suc, ◌+◌, ◌-◌, ◌≤◌, ◌<◌, Bool, true, false, if◌then◌else◌, List, [], ◌∷◌, ◌++◌}
use Rattle.std.proofs.Common.{Ok, length, length-append, fold, drop, find, Option, Some, None, cond, refl, sym, ap}
use Rattle.std.proofs.Common.{◌∙◌, arith}
use Rattle.std.specs.Prelude.{slice_get, slice_set}
use Rattle.std.proofs.lemmas.Bool.{both_ways}
use Rattle.td_cdr.specs.Writing.{Draft}
use Rattle.td_cdr.specs.declared.order.Order.{Order}
use Rattle.td_iter.specs.Desks.{is_called, place_of}
use Rattle.td_iter.specs.declared.desk.DeskEntry.{DeskEntry}
use Rattle.td_iter.specs.declared.item.Item.{Item}
use Rattle.td_desk.specs.Batching.{left_behind}
use Rattle.td_desk.specs.Placing.{GivesAt, GivesAtBy, cut_out}
use Rattle.td_desk.specs.Standings.{IsReplayed, DeskState, after, change_first, most, empty_desk, put, state_after}
use Rattle.td_desk.specs.Standings.{without}
use Rattle.td_desk.specs.declared.event.Event.{Event}
use Rattle.td_desk.specs.declared.event.Event.TheVariants.{Draw, Add, Left, Next, Destroy}

folded : (s : DeskState) (h : List Event) (e : Event) → fold after s (h ++ e ∷ []) ≡ after (fold after s h) e
folded s [] e = refl
folded s (x ∷ h) e = folded (after s x) h e

pub one_more : (h : List Event) (e : Event) → state_after (h ++ e ∷ []) ≡ after (state_after h) e
one_more h e = folded empty_desk h e

-- as many calls as events
abbrev calls_of : DeskState → ℕ
calls_of s = s.draws + s.adds + s.calls

stepped : (s : DeskState) (e : Event) → calls_of (after s e) ≡ calls_of s + 1
stepped s Draw = omega arith
stepped s (Add e) = omega arith
stepped s (Left trader number) = omega arith
stepped s (Next trader number n order) = omega arith
stepped s (Destroy trader number) = omega arith

counted_from : (s : DeskState) (h : List Event) → calls_of (fold after s h) ≡ calls_of s + length h
counted_from s [] = omega arith
counted_from s (e ∷ h) = omega (arith, counted_from (after s e) h, stepped s e)

pub counted : (h : List Event) (entries : List (DeskEntry Item)) (draws adds calls : ℕ)
    → IsReplayed h entries draws adds calls → draws + adds + calls ≡ length h
counted h entries draws adds calls r = sym (ap calls_of r.stands) ∙ (let c = counted_from empty_desk h in
    (let e : calls_of (state_after h) ≡ length h = omega (arith, c) in e))

-- ---- the first that is called so, by its place

abbrev value_or : DeskEntry Item → Option (DeskEntry Item) → DeskEntry Item
value_or e None = e
value_or e (Some x) = x

some_is : (e x : DeskEntry Item) → Some e ≡ Some x → e ≡ x
some_is e x is = ap (value_or e) is

abbrev is_some_entry : Option (DeskEntry Item) → Bool
is_some_entry None = false
is_some_entry (Some e) = true

none_some : (e : DeskEntry Item) → None ≡ Some e → ⊥
none_some e is = both_ways false refl (ap is_some_entry is)

module _ (trader : List ℕ) (number : ℕ) where
  found_by_place : (b : Bool) (e : DeskEntry Item) (es : List (DeskEntry Item)) (place : ℕ) (r : Option (DeskEntry Item))
      → r ≡ slice_get es place → cond b (Some e) r ≡ slice_get (e ∷ es) (if b then 0 else suc place)
  found_by_place true e es place r h = refl
  found_by_place false e es place r h = h

  pub found_at : (es : List (DeskEntry Item)) → find (is_called trader number) es ≡ slice_get es (place_of trader number es)
  found_at [] = refl
  found_at (e ∷ es) = found_by_place (is_called trader number e) e es (place_of trader number es)
      (find (is_called trader number) es) (found_at es)

  without_by : (b : Bool) (e : DeskEntry Item) (es : List (DeskEntry Item)) (place : ℕ)
      → without trader number es ≡ cut_out place es
      → (if b then es else e ∷ without trader number es) ≡ cut_out (if b then 0 else suc place) (e ∷ es)
  without_by true e es place h = refl
  without_by false e es place h = ap (λ (xs : List (DeskEntry Item)). e ∷ xs) h

  pub without_at : (es : List (DeskEntry Item)) → without trader number es ≡ cut_out (place_of trader number es) es
  without_at [] = refl
  without_at (e ∷ es) = without_by (is_called trader number e) e es (place_of trader number es) (without_at es)

  module _ (f : Item → Item) where
    changed_by : (b : Bool) (e x : DeskEntry Item) (es : List (DeskEntry Item)) (place : ℕ)
        → (find (is_called trader number) es ≡ Some x
        → change_first trader number f es ≡ slice_set es place (record x { item = f x.item }))
        → cond b (Some e) (find (is_called trader number) es) ≡ Some x
        → (if b then record e { item = f e.item } ∷ es else e ∷ change_first trader number f es)
        ≡ slice_set (e ∷ es) (if b then 0 else suc place) (record x { item = f x.item })
    changed_by true e x es place h is = ap (λ (y : DeskEntry Item). record y { item = f y.item } ∷ es) (some_is e x is)
    changed_by false e x es place h is = ap (λ (xs : List (DeskEntry Item)). e ∷ xs) (h is)

    pub changed_at : (es : List (DeskEntry Item)) (x : DeskEntry Item) → find (is_called trader number) es ≡ Some x
        → change_first trader number f es ≡ slice_set es (place_of trader number es) (record x { item = f x.item })
    changed_at [] x is = absurd (none_some x is)
    changed_at (e ∷ es) x is = changed_by (is_called trader number e) e x es (place_of trader number es)
        (changed_at es x) is

    none_by : (b : Bool) (e : DeskEntry Item) (es : List (DeskEntry Item))
        → (find (is_called trader number) es ≡ None → change_first trader number f es ≡ es)
        → cond b (Some e) (find (is_called trader number) es) ≡ None
        → (if b then record e { item = f e.item } ∷ es else e ∷ change_first trader number f es) ≡ e ∷ es
    none_by true e es h is = absurd (none_some e (sym is))
    none_by false e es h is = ap (λ (xs : List (DeskEntry Item)). e ∷ xs) (h is)

    pub none_changed : (es : List (DeskEntry Item)) → find (is_called trader number) es ≡ None
        → change_first trader number f es ≡ es
    none_changed [] is = refl
    none_changed (e ∷ es) is = none_by (is_called trader number e) e es (none_changed es) is

-- ---- lengths

length_dropped : {X : Type 0} (k : ℕ) (xs : List X) → k ≤ length xs → length (drop k xs) + k ≡ length xs
length_dropped zero xs le = omega arith
length_dropped (suc k) [] le = absurd (let no : ⊥ = omega (arith, le) in no)
length_dropped (suc k) (x ∷ xs) le = (let more = length_dropped k xs (omega (arith, le)) in omega (arith, more))

module _ (trader : List ℕ) (number : ℕ) where
  shorter_by : (b : Bool) (e : DeskEntry Item) (es new : List (DeskEntry Item)) → length new ≤ length es
      → length (if b then es else e ∷ new) ≤ suc (length es)
  shorter_by true e es new h = omega arith
  shorter_by false e es new h = omega (arith, h)

  length_without : (es : List (DeskEntry Item)) → length (without trader number es) ≤ length es
  length_without [] = omega arith
  length_without (e ∷ es) = shorter_by (is_called trader number e) e es (without trader number es) (length_without es)

  longer_by : (b : Bool) (x y : DeskEntry Item) (es new : List (DeskEntry Item)) → length new ≤ length es
      → length (if b then x ∷ es else y ∷ new) ≤ suc (length es)
  longer_by true x y es new h = omega arith
  longer_by false x y es new h = omega (arith, h)

  length_changed : (f : Item → Item) (es : List (DeskEntry Item)) → length (change_first trader number f es) ≤ length es
  length_changed f [] = omega arith
  length_changed f (e ∷ es) = longer_by (is_called trader number e) (record e { item = f e.item }) e es
      (change_first trader number f es) (length_changed f es)

-- ---- a batch that was given at a place

module _ (trader : List ℕ) (number n place : ℕ) (es new : List (DeskEntry Item)) (w back : Draft) where
  changed_by_call : (given : Option Bool) → place ≡ place_of trader number es → (x : Option (DeskEntry Item))
      → slice_get es place ≡ x → GivesAtBy n place es new w back x (Ok given)
      → new ≡ change_first trader number (left_behind n w.order) es
  changed_by_call (Some more) at (Some e) is g =
      g.left_is ∙ ap (λ (p : ℕ). slice_set es p (record e { item = left_behind n w.order e.item })) at
      ∙ sym (changed_at trader number (left_behind n w.order) es e (found_at trader number es
      ∙ ap (slice_get es) (sym at) ∙ is))
  changed_by_call None at (Some e) is g = absurd g
  changed_by_call (Some more) at None is g = absurd g
  changed_by_call None at None is g =
      g.left_is ∙ sym (none_changed trader number (left_behind n w.order) es (found_at trader number es
      ∙ ap (slice_get es) (sym at) ∙ is))

-- ---- what a book keeps, after one call more

module _ (h : List Event) (es : List (DeskEntry Item)) (draws adds calls : ℕ) (r : IsReplayed h es draws adds calls) where
  pub same_entries : (state_after h).entries ≡ es
  same_entries = ap (λ (s : DeskState). s.entries) r.stands

  pub same_draws : (state_after h).draws ≡ draws
  same_draws = ap (λ (s : DeskState). s.draws) r.stands

  pub same_adds : (state_after h).adds ≡ adds
  same_adds = ap (λ (s : DeskState). s.adds) r.stands

  pub same_calls : (state_after h).calls ≡ calls
  same_calls = ap (λ (s : DeskState). s.calls) r.stands

  stands_then : (e : Event) → state_after (h ++ e ∷ []) ≡ after (record {
    entries = es;
    draws = draws;
    adds = adds;
    calls = calls;
  }) e
  stands_then e = one_more h e ∙ ap (λ (s : DeskState). after s e) r.stands

  pub drawn_on : draws < most → IsReplayed (h ++ Draw ∷ []) es (draws + 1) adds calls
  drawn_on lt = record {
    stands = stands_then Draw;
    few = r.few;
    few_draws = omega (arith, lt);
    few_adds = r.few_adds;
    few_calls = r.few_calls;
  }

  pub added_on : (e : DeskEntry Item) (new : List (DeskEntry Item)) → new ≡ put e es → adds < most
      → IsReplayed (h ++ Add e ∷ []) new draws (adds + 1) calls
  added_on e new is lt = record {
    stands = stands_then (Add e) ∙ ap (λ (xs : List (DeskEntry Item)). record {
      entries = xs;
      draws = draws;
      adds = adds + 1;
      calls = calls;
    }) (sym is);
    few = omega (
      arith,
      ap length is,
      length-append (drop (length es - 4095) es) (e ∷ []),
      r.few,
      length_dropped (length es - 4095) es (omega arith),
    );
    few_draws = r.few_draws;
    few_adds = omega (arith, lt);
    few_calls = r.few_calls;
  }

  called_on : (e : Event) (new : List (DeskEntry Item)) → after (record {
    entries = es;
    draws = draws;
    adds = adds;
    calls = calls;
  }) e ≡ record { entries = new; draws = draws; adds = adds; calls = calls + 1 } → length new ≤ length es
      → calls < most → IsReplayed (h ++ e ∷ []) new draws adds (calls + 1)
  called_on e new is short lt = record {
    stands = stands_then e ∙ is;
    few = omega (arith, short, r.few);
    few_draws = r.few_draws;
    few_adds = r.few_adds;
    few_calls = omega (arith, lt);
  }

  pub left_on : (trader : List ℕ) (number : ℕ) → calls < most
      → IsReplayed (h ++ Left trader number ∷ []) es draws adds (calls + 1)
  left_on trader number lt = called_on (Left trader number) es refl (omega arith) lt

  -- what stands there, with one call more
  abbrev with_entries : List (DeskEntry Item) → DeskState
  with_entries xs = record { entries = xs; draws = draws; adds = adds; calls = calls + 1 }

  same_standing : (new now : List (DeskEntry Item)) → now ≡ new → with_entries new ≡ with_entries now
  same_standing new now is = ap with_entries (sym is)

  pub destroyed_on : (trader : List ℕ) (number place : ℕ) (new : List (DeskEntry Item))
      → place ≡ place_of trader number es → new ≡ cut_out place es → calls < most
      → IsReplayed (h ++ Destroy trader number ∷ []) new draws adds (calls + 1)
  destroyed_on trader number place new at is lt =
      let same : new ≡ without trader number es =
      is ∙ ap (λ (p : ℕ). cut_out p es) at ∙ sym (without_at trader number es) in
      called_on (Destroy trader number) new (same_standing (without trader number es) new same)
      (omega (arith, ap length same, length_without trader number es)) lt

  pub given_on : (trader : List ℕ) (number n : ℕ) (order : Order) (place : ℕ) (new : List (DeskEntry Item))
      (w back : Draft) (given : Option Bool) → place ≡ place_of trader number es
      → GivesAt n place es new w back (Ok given) → order ≡ w.order → calls < most
      → IsReplayed (h ++ Next trader number n order ∷ []) new draws adds (calls + 1)
  given_on trader number n order place new w back given at g o lt =
      let same : new ≡ change_first trader number (left_behind n w.order) es =
      changed_by_call trader number n place es new w back given at (slice_get es place) refl g in
      let to : new ≡ change_first trader number (left_behind n order) es =
      same ∙ ap (λ (x : Order). change_first trader number (left_behind n x) es) (sym o) in
      called_on (Next trader number n order) new
      (same_standing (change_first trader number (left_behind n order) es) new to)
      (omega (arith, ap length to, length_changed trader number (left_behind n order) es)) lt
