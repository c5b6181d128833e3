-- How a reply is filled with items while they fit.
use Rattle.std.specs.Prelude.{◌≡◌, ℕ, ◌+◌, ◌≤◌, Bool, true, false, List, ◌++◌, length, map, take, drop}
use Rattle.std.specs.Int.{from_bool}
use Rattle.td_cdr.specs.declared.order.Order.{Order}
use Rattle.td_cdr.specs.declared.order.Order.TheVariants.{Big, Little}
use Rattle.td_cdr.specs.Format.{Piece, ◌then◌, row}
use Rattle.td_cdr.specs.Gap.{gap}
use Rattle.td_cdr.specs.Writing.{Draft}
use Rattle.td_cdr.specs.Format.{number as number_format}
use Rattle.td_typecode.specs.Formats.{is_nonempty}
use Rattle.td_iter.specs.declared.limits.TheConstants.{LARGEST_MESSAGE}
use Rattle.td_iter.specs.declared.filling.Tail.{Tail}
use Rattle.td_iter.specs.declared.truth.Truth.{Truth}
use Rattle.td_iter.specs.Batches.{IsGreatest}
use Rattle.td_iter.specs.Truths.{content}

-- items behind their number
abbrev pub count_before : {X : Type 0} → (X → Piece) → List X → Piece
count_before write items = (number_format 4).writes (length items) then row (map write items)

-- a truth value, and then the items
abbrev pub flag_before : {X : Type 0} → (X → Piece) → List X → Bool → Piece
flag_before write items flag = (number_format 1).writes (from_bool flag)
    then count_before write items

-- a batch of next_n, and whether some are left behind it
abbrev pub next_piece : {X : Type 0} → Truth → (X → Piece) → List X → Bool → Piece
next_piece truth write items more = flag_before write items (content truth (is_nonempty items) more)

-- the items, and then what depends on whether some are left
abbrev pub first_piece : {X : Type 0} → (X → Piece) → (Bool → Piece) → List X → Bool → Piece
first_piece write tail items more = count_before write items then tail more

-- a boolean and the padding of zeros that follows it at a multiple of four, as one number
abbrev pub padded_flag : Order → Bool → ℕ
padded_flag Big true = 16777216
padded_flag Little true = 1
padded_flag order false = 0

-- how many bytes stand behind the items
abbrev pub behind : Tail → Bool → ℕ
behind tail true = tail.more
behind tail false = tail.done

-- where a message ends whose items end here, with so many bytes behind from the next multiple of four on
abbrev pub reach : ℕ → ℕ → ℕ
reach here size = here + gap 4 here + size

module _ {X : Type 0} (piece : List X → Piece) (tail : Tail) (items : List X) (old : Draft) where
  -- where the first k end
  abbrev pub end_of : ℕ → ℕ
  end_of k = length old.bytes + length (piece (take k items) old.order (length old.bytes))

  abbrev pub FitsTail : ℕ → Type 0
  FitsTail k = reach (end_of k) (behind tail (is_nonempty (drop k items))) ≤ LARGEST_MESSAGE

  -- as many as fit were written: the first k
  pub record Fills (n : ℕ) (new : Draft) (k : ℕ) : Type 0 where
    pub is_greatest : IsGreatest FitsTail n (length items) k
    pub bytes : new.bytes ≡ old.bytes ++ piece (take k items) old.order (length old.bytes)
