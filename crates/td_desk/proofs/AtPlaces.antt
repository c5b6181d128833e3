-- What stands at the place of an iterator.
use Rattle.std.proofs.Common.{◌≡◌, ℕ, zero, suc, ◌<◌, Bool, List, [], ◌∷◌, length, get_or, Option, Some, Ok, Err, refl, sym}
use Rattle.std.proofs.Common.{ap, subst, ◌∙◌}
use Rattle.std.specs.Prelude.{slice_set}
use Rattle.std.proofs.lemmas.Option.{slice_get_read}
use Rattle.td_cdr.specs.Writing.{Draft}
use Rattle.td_cdr.specs.declared.memory.Memory.{Memory as MemoryFault}
use Rattle.td_iter.specs.declared.desk.DeskEntry.{DeskEntry}
use Rattle.td_iter.specs.declared.item.Item.{Item}
use Rattle.td_desk.specs.Placing.{GivesAt, GivesAtBy, IsNext}

set_same : (es : List (DeskEntry Item)) (place : ℕ) (e : DeskEntry Item) → e ≡ get_or es place e → slice_set es place e ≡ es
set_same [] place e is = refl
set_same (x ∷ es) zero e is = ap (λ (y : DeskEntry Item). y ∷ es) is
set_same (x ∷ es) (suc place) e is = ap (λ (ys : List (DeskEntry Item)). x ∷ ys) (set_same es place e is)

-- a batch that was given, and one that wasn't
module _ (n place : ℕ) (es : List (DeskEntry Item)) (w back : Draft) (e : DeskEntry Item) (lt : place < length es)
    (is : e ≡ get_or es place e) where
  pub given_here : (left : DeskEntry Item) (more : Bool) → left ≡ record e { item = left.item }
      → IsNext n w back e.item left.item more → GivesAt n place es (slice_set es place left) w back (Ok (Some more))
  given_here left more same next =
      subst (λ (o : Option (DeskEntry Item)). GivesAtBy n place es (slice_set es place left) w back o (Ok (Some more)))
      (sym (slice_get_read es (length es) place e refl lt is)) (record {
        left_is = ap (λ (x : DeskEntry Item). slice_set es place x) (same
            ∙ ap (λ (i : Item). record e { item = i }) next.left_is);
        more_is = next.more_is;
        bytes = next.bytes;
      })

  pub kept_here : (left : DeskEntry Item) (memory : MemoryFault) → left ≡ e → back.bytes ≡ w.bytes
      → GivesAt n place es (slice_set es place left) w back (Err memory)
  kept_here left memory same kept =
      subst (λ (o : Option (DeskEntry Item)). GivesAtBy n place es (slice_set es place left) w back o (Err memory))
      (sym (slice_get_read es (length es) place e refl lt is)) (record {
        left_is = ap (λ (x : DeskEntry Item). slice_set es place x) same ∙ set_same es place e is;
        bytes = kept;
      })
