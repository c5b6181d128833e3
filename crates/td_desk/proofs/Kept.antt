-- What the calls of a book come to, over what it keeps.
use Rattle.std.proofs.Common.{◌≡◌, ℕ, ◌+◌, ◌≤◌, ◌<◌, Bool, true, false, List, [], ◌∷◌, ◌++◌, Option, Some, None, Result, Ok}
use Rattle.std.proofs.Common.{Err, find, nat_le, refl, sym, ap, subst, ◌∙◌, arith}
use Rattle.std.specs.Prelude.{slice_get}
use Rattle.td_cdr.specs.Writing.{Draft}
use Rattle.td_cdr.specs.declared.memory.Memory.{Memory as MemoryFault}
use Rattle.td_iter.specs.Desks.{is_called, place_of}
use Rattle.td_iter.specs.declared.desk.DeskEntry.{DeskEntry}
use Rattle.td_iter.specs.declared.item.Item.{Item}
use Rattle.td_desk.proofs.Replaying.{found_at, same_adds, same_calls, same_draws, same_entries}
use Rattle.td_desk.specs.Acting.{AddsIterator, Counts, DestroysIterator, DrawsNumber, GivesBatch, GivesBy, back_by}
use Rattle.td_desk.specs.Acting.{draws_by, dropped_entry, finds, found_by}
use Rattle.td_desk.specs.Acting.{note_act, result_of}
use Rattle.td_desk.specs.Batching.{is_offers, size_of}
use Rattle.td_desk.specs.Placing.{GivesAt, GivesAtBy, or_absent}
use Rattle.td_desk.specs.Standings.{IsReplayed, is_full, most, state_after}
use Rattle.td_desk.specs.declared.event.Event.{Event}
use Rattle.td_desk.specs.declared.event.Event.TheVariants.{Draw, Add, Left, Next, Destroy}
use Rattle.td_desk.specs.declared.fault.DeskFault.{DeskFault}
use Rattle.td_desk.specs.declared.fault.DeskFault.TheVariants.{Full, Memory}

full_at : (n m : ℕ) → n ≡ m → most ≤ m → is_full n ≡ true
full_at n m e le = (let is : nat_le most n ≡ true = grind (arith, e, le) in is)

room_at : (n m : ℕ) → n ≡ m → m < most → is_full n ≡ false
room_at n m e lt = (let is : nat_le most n ≡ false = grind (arith, e, lt) in is)

module _ (h : List Event) (es : List (DeskEntry Item)) (draws adds calls : ℕ) (r : IsReplayed h es draws adds calls) where
  pub draws_full : most ≤ draws → DrawsNumber h (Err Full) h
  draws_full le =
      let full = full_at (state_after h).draws draws (same_draws h es draws adds calls r) le in
      record {
        result = sym (ap (λ (b : Bool). draws_by b (state_after h).draws) full);
        history = sym (ap (λ (b : Bool). note_act b Draw h) full);
      }

  pub draws_done : draws < most → (k : List Event) → k ≡ h ++ Draw ∷ [] → DrawsNumber h (Ok (draws + 1)) k
  draws_done lt k is =
      let same = same_draws h es draws adds calls r in
      let room = room_at (state_after h).draws draws same lt in
      record {
        result = sym (ap (λ (b : Bool). draws_by b (state_after h).draws) room ∙ ap (λ (n : ℕ). Ok (n + 1)) same);
        history = is ∙ sym (ap (λ (b : Bool). note_act b Draw h) room);
      }

  pub adds_full : most ≤ adds → (e : DeskEntry Item) → AddsIterator h e (Some e) h
  adds_full le e =
      let full = full_at (state_after h).adds adds (same_adds h es draws adds calls r) le in
      record {
        result = sym (ap (λ (b : Bool). back_by b e (state_after h).entries) full);
        history = sym (ap (λ (b : Bool). note_act b (Add e) h) full);
      }

  pub adds_done : adds < most → (e : DeskEntry Item) (back : Option (DeskEntry Item)) (k : List Event) → back ≡ dropped_entry es
      → k ≡ h ++ Add e ∷ [] → AddsIterator h e back k
  adds_done lt e back k came is =
      let room = room_at (state_after h).adds adds (same_adds h es draws adds calls r) lt in
      record {
        result = came ∙ sym (ap (λ (b : Bool). back_by b e (state_after h).entries) room
            ∙ ap dropped_entry (same_entries h es draws adds calls r));
        history = is ∙ sym (ap (λ (b : Bool). note_act b (Add e) h) room);
      }

  module _ (trader : List ℕ) (number : ℕ) where
    full_calls : most ≤ calls → is_full (state_after h).calls ≡ true
    full_calls le = full_at (state_after h).calls calls (same_calls h es draws adds calls r) le

    room_calls : calls < most → is_full (state_after h).calls ≡ false
    room_calls lt = room_at (state_after h).calls calls (same_calls h es draws adds calls r) lt

    finds_full : most ≤ calls → finds h trader number ≡ Err Full
    finds_full le = ap (λ (b : Bool). found_by b (find (is_called trader number) (state_after h).entries)) (full_calls le)

    finds_here : calls < most → (place : ℕ) → place ≡ place_of trader number es
        → finds h trader number ≡ found_by false (slice_get es place)
    finds_here lt place at =
        ap (λ (b : Bool). found_by b (find (is_called trader number) (state_after h).entries)) (room_calls lt)
        ∙ ap (λ (xs : List (DeskEntry Item)). found_by false (find (is_called trader number) xs))
        (same_entries h es draws adds calls r)
        ∙ ap (found_by false) (found_at trader number es ∙ ap (slice_get es) (sym at))

    pub counts_full : most ≤ calls → Counts h trader number (Err Full) h
    counts_full le = record {
      result = sym (ap (result_of (λ e. (size_of e.item, is_offers e.item))) (finds_full le));
      history = sym (ap (λ (b : Bool). note_act b (Left trader number) h) (full_calls le));
    }

    pub counts_done : calls < most → (place : ℕ) → place ≡ place_of trader number es
        → (x : Result (ℕ × Bool) DeskFault) (k : List Event)
        → x ≡ result_of (λ e. (size_of e.item, is_offers e.item)) (found_by false (slice_get es place))
        → k ≡ h ++ Left trader number ∷ [] → Counts h trader number x k
    counts_done lt place at x k came is = record {
      result = came ∙ sym (ap (result_of (λ e. (size_of e.item, is_offers e.item))) (finds_here lt place at));
      history = is ∙ sym (ap (λ (b : Bool). note_act b (Left trader number) h) (room_calls lt));
    }

    pub destroys_full : most ≤ calls → DestroysIterator h trader number (Err Full) h
    destroys_full le = record {
      result = sym (finds_full le);
      history = sym (ap (λ (b : Bool). note_act b (Destroy trader number) h) (full_calls le));
    }

    pub destroys_done : calls < most → (place : ℕ) → place ≡ place_of trader number es
        → (x : Result (DeskEntry Item) DeskFault) (k : List Event) → x ≡ found_by false (slice_get es place)
        → k ≡ h ++ Destroy trader number ∷ [] → DestroysIterator h trader number x k
    destroys_done lt place at x k came is = record {
      result = came ∙ sym (finds_here lt place at);
      history = is ∙ sym (ap (λ (b : Bool). note_act b (Destroy trader number) h) (room_calls lt));
    }

    module _ (n : ℕ) (w : Draft) where
      pub gives_full : most ≤ calls → GivesBatch h trader number n w w h (Err Full)
      gives_full le =
          subst (λ (x : Result (DeskEntry Item) DeskFault). GivesBy h trader number n w w h x (Err Full))
          (sym (finds_full le)) (record {
            fault_is = refl;
            order = refl;
            bytes = refl;
            history = sym (ap (λ (b : Bool). note_act b (Next trader number n w.order) h) (full_calls le));
          })

      module _ (lt : calls < most) (place : ℕ) (at : place ≡ place_of trader number es) (new : List (DeskEntry Item))
          (back : Draft) (order : back.order ≡ w.order) where
        here : (k : List Event) (x : Result Bool DeskFault)
            → GivesBy h trader number n w back k (found_by false (slice_get es place)) x
            → GivesBatch h trader number n w back k x
        here k x g = subst (λ (y : Result (DeskEntry Item) DeskFault). GivesBy h trader number n w back k y x)
            (sym (finds_here lt place at)) g

        kept_by : (o : Option (DeskEntry Item)) (memory : MemoryFault) → GivesAtBy n place es new w back o (Err memory)
            → GivesBy h trader number n w back h (found_by false o) (Err Memory)
        kept_by (Some e) memory g = record {
          fault_is = refl;
          order = order;
          bytes = g.bytes;
          history = refl;
        }
        kept_by None memory g = absurd g

        pub gives_memory : (memory : MemoryFault) → GivesAt n place es new w back (Err memory)
            → GivesBatch h trader number n w back h (Err Memory)
        gives_memory memory g = here h (Err Memory) (kept_by (slice_get es place) memory g)

        given_by : (o : Option (DeskEntry Item)) (given : Option Bool) (k : List Event) → GivesAtBy n place es new w back o
            (Ok given) → k ≡ h ++ Next trader number n w.order ∷ []
            → GivesBy h trader number n w back k (found_by false o) (or_absent given)
        given_by (Some e) (Some more) k g is = record {
          more_is = g.more_is;
          order = order;
          bytes = g.bytes;
          history = is;
        }
        given_by (Some e) None k g is = absurd g
        given_by None (Some more) k g is = absurd g
        given_by None None k g is = record {
          fault_is = refl;
          order = order;
          bytes = g.bytes;
          history = is ∙ sym (ap (λ (b : Bool). note_act b (Next trader number n w.order) h) (room_calls lt));
        }

        pub gives_done : (given : Option Bool) (k : List Event) → GivesAt n place es new w back (Ok given)
            → k ≡ h ++ Next trader number n w.order ∷ [] → GivesBatch h trader number n w back k (or_absent given)
        gives_done given k g is = here k (or_absent given) (given_by (slice_get es place) given k g is)
