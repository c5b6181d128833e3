-- A number that is written first is set once it is known.
use Rattle.std.proofs.Common.{◌≡◌, ℕ, zero, suc, ◌+◌, ◌-◌, ◌≤◌, Bool, true, false, List, [], ◌∷◌, ◌++◌, length, map}
use Rattle.std.proofs.Common.{take, drop, replicate, refl, sym, ap, subst, ◌∙◌, arith, length-append, append_assoc}
use Rattle.std.specs.Int.{from_bool}
use Rattle.std.proofs.lemmas.List.{take_at, drop_at, length-replicate}
use Rattle.td_cdr.specs.declared.order.Order.{Order}
use Rattle.td_cdr.specs.declared.order.Order.TheVariants.{Big, Little}
use Rattle.td_cdr.specs.Format.{Piece, row}
use Rattle.td_cdr.specs.Gap.{gap, bytes_of}
use Rattle.td_cdr.specs.Writing.{Draft, written_number}
use Rattle.td_cdr.specs.Format.{number as number_format}
use Rattle.td_typecode.specs.Formats.{is_nonempty}
use Rattle.td_iter.specs.declared.limits.TheConstants.{LARGEST_MESSAGE, REPLY_START}
use Rattle.td_iter.specs.declared.filling.Tail.{Tail}
use Rattle.td_iter.specs.Batches.{PutsBatch, batch}
use Rattle.td_iter.specs.Filling.{behind, reach, end_of, Fills, count_before, flag_before, next_piece}
use Rattle.td_iter.specs.Filling.{padded_flag}
use Rattle.td_iter.specs.Truths.{content}
use Rattle.td_iter.specs.declared.truth.Truth.{Truth}
use Rattle.td_iter.proofs.Greatest.{greatest_of_same}
use Rattle.td_iter.proofs.Lengths.{number-length, length-bytes_of}
use Rattle.td_iter.proofs.Loading.{rows}

pub length-taken : {X : Type 0} (k : ℕ) (xs : List X) → k ≤ length xs → length (take k xs) ≡ k
length-taken zero xs le = refl
length-taken (suc k) [] le = absurd (let no : ⊥ = omega (arith, le) in no)
length-taken (suc k) (x ∷ xs) le = ap suc (length-taken k xs (omega (arith, le)))

-- four bytes are set behind a front
pub patched : (front four new body now : List ℕ) (place : ℕ) → now ≡ (front ++ four) ++ body → length front ≡ place
    → length four ≡ 4 → take place now ++ new ++ drop (place + 4) now ≡ front ++ (new ++ body)
patched front four new body now place e f g =
    let first : take place now ≡ front = ap (take place) (e ∙ append_assoc front four body)
    ∙ take_at front (four ++ body) place f in
    let last : drop (place + 4) now ≡ body = ap (drop (place + 4)) e
    ∙ drop_at (front ++ four) body (place + 4) (length-append front four
    ∙ (let s : length front + length four ≡ place + 4 = omega (arith, f, g) in s)) in
    append_assoc (take place now) new (drop (place + 4) now)
    ∙ ap (λ (b : List ℕ). b ++ (new ++ drop (place + 4) now)) first
    ∙ ap (λ (b : List ℕ). front ++ (new ++ b)) last

-- items behind a number of four bytes
pub counted-length : {X : Type 0} (write : X → Piece) (xs : List X) (order : Order) (place : ℕ)
    → length (count_before write xs order place) ≡ gap 4 place + 4 + length
    (row (map write xs) order (place + (gap 4 place + 4)))
counted-length write xs order place =
    let n = number-length 4 order place (length xs) in
    length-append ((number_format 4).writes (length xs) order place)
    (row (map write xs) order (place + length ((number_format 4).writes (length xs) order place)))
    ∙ ap (λ (k : ℕ). k + length (row (map write xs) order (place + k))) n

module _ {X : Type 0} (write : X → Piece) (tail : Tail) (items : List X) where
  -- where the first items end is the same, seen from before the number and from behind it
  same-end : (old mid : Draft) → length mid.bytes ≡ length old.bytes + (gap 4 (length old.bytes) + 4)
      → mid.order ≡ old.order → (k : ℕ) → end_of (rows write) tail items mid k ≡ end_of (count_before write) tail items
      old k
  same-end old mid long o k =
      let body : length (row (map write (take k items)) mid.order (length mid.bytes)) ≡ length
      (row (map write (take k items)) old.order (length old.bytes + (gap 4 (length old.bytes) + 4))) =
      ap (λ (r : Order). length (row (map write (take k items)) r (length mid.bytes))) o
      ∙ ap (λ (n : ℕ). length (row (map write (take k items)) old.order n)) long in
      omega (arith, long, body, counted-length write (take k items) old.order (length old.bytes))

  pub counted-fills : (old mid now new : Draft) (n k place : ℕ)
      → mid.bytes ≡ old.bytes ++ written_number 4 old.order (length old.bytes) 0 → mid.order ≡ old.order
      → place ≡ length mid.bytes - 4 → Fills (rows write) tail items mid n now k → now.order ≡ mid.order
      → new.bytes ≡ take place now.bytes ++ bytes_of now.order 4 k ++ drop (place + 4) now.bytes
      → Fills (count_before write) tail items old n new k
  counted-fills old mid now new n k place e o at f p set =
      let here = length old.bytes in
      let zeros = replicate (gap 4 here) 0 in
      let wide : length {A = ℕ} zeros ≡ gap 4 here = length-replicate (gap 4 here) 0 in
      let four = bytes_of old.order 4 0 in
      let body = row (map write (take k items)) old.order (here + (gap 4 here + 4)) in
      let count = length-taken k items f.is_greatest.there in
      let long : length mid.bytes ≡ here + (gap 4 here + 4) = ap (length {A = ℕ}) e
      ∙ length-append old.bytes (written_number 4 old.order here 0)
      ∙ ap (λ (m : ℕ). here + m) (number-length 4 old.order here 0) in
      let same = same-end old mid long o in
      let behind_it : row (map write (take k items)) mid.order (length mid.bytes) ≡ body =
      ap (λ (r : Order). row (map write (take k items)) r (length mid.bytes)) o
      ∙ ap (λ (m : ℕ). row (map write (take k items)) old.order m) long in
      let parts : now.bytes ≡ ((old.bytes ++ zeros) ++ four) ++ body =
      f.bytes ∙ ap (λ (b : List ℕ). b ++ row (map write (take k items)) mid.order (length mid.bytes)) (e
      ∙ sym (append_assoc old.bytes zeros four))
      ∙ ap (λ (b : List ℕ). ((old.bytes ++ zeros) ++ four) ++ b) behind_it in
      let front : length (old.bytes ++ zeros) ≡ place =
      omega (
        arith,
        length-append (old.bytes ++ zeros) four,
        length-append old.bytes (zeros ++ four),
        length-append zeros four,
        length-append old.bytes zeros,
        length-bytes_of old.order 4 0,
        number-length 4 old.order here 0,
        long,
        at,
        wide,
      ) in
      let number : bytes_of now.order 4 k ≡ bytes_of old.order 4 (length (take k items)) =
      ap (λ (r : Order). bytes_of r 4 k) (p ∙ o) ∙ ap (bytes_of old.order 4) (sym count) in
      record {
        is_greatest = greatest_of_same
            (λ j h. subst (λ (m : ℕ). reach m (behind tail (is_nonempty (drop j items))) ≤ LARGEST_MESSAGE) (same j) h)
            (λ j h. subst (λ (m : ℕ). reach m (behind tail (is_nonempty (drop j items))) ≤ LARGEST_MESSAGE)
            (sym (same j)) h) f.is_greatest;
        bytes = set ∙ patched (old.bytes ++ zeros) four (bytes_of now.order 4 k) body now.bytes place parts front
            (length-bytes_of old.order 4 0)
            ∙ ap (λ (b : List ℕ). (old.bytes ++ zeros) ++ (b ++ body)) number
            ∙ append_assoc old.bytes zeros (bytes_of old.order 4 (length (take k items)) ++ body)
            ∙ ap (λ (b : List ℕ). old.bytes ++ b)
            (sym (append_assoc zeros (bytes_of old.order 4 (length (take k items))) body))
            ∙ ap (λ (m : ℕ). old.bytes ++ (written_number 4 old.order here (length (take k items)) ++ row
            (map write (take k items)) old.order (here + m)))
            (sym (number-length 4 old.order here (length (take k items))));
      }

-- ---- whether some are left, before the items

behind-none : (b : Bool) → behind (record { more = 0; done = 0 }) b ≡ 0
behind-none true = refl
behind-none false = refl

flag-end : (order : Order) (b : Bool) (n : ℕ)
    → 28 + length ((number_format 4).writes n order 28)
    ≡ (24 + length ((number_format 1).writes (from_bool b) order 24)) + length
    ((number_format 4).writes n order (24 + length ((number_format 1).writes (from_bool b) order 24)))
flag-end order b n =
    let flag : length ((number_format 1).writes (from_bool b) order 24) ≡ 1 = number-length 1 order 24 (from_bool b) in
    omega (
      arith,
      number-length 4 order 28 n,
      flag,
      number-length 4 order (24 + length ((number_format 1).writes (from_bool b) order 24)) n,
    )

-- a boolean and its padding are four bytes
flag-piece : {X : Type 0} (write : X → Piece) (order : Order) (b : Bool) (xs : List X)
    → bytes_of order 4 (padded_flag order b) ++ count_before write xs order 28 ≡ flag_before write xs b order 24
flag-piece write Big true xs =
    ap (λ (m : ℕ). 1 ∷ 0 ∷ 0 ∷ 0 ∷ (bytes_of Big 4 (length xs) ++ row (map write xs) Big m))
    (flag-end Big true (length xs))
flag-piece write Big false xs =
    ap (λ (m : ℕ). 0 ∷ 0 ∷ 0 ∷ 0 ∷ (bytes_of Big 4 (length xs) ++ row (map write xs) Big m))
    (flag-end Big false (length xs))
flag-piece write Little true xs =
    ap (λ (m : ℕ). 1 ∷ 0 ∷ 0 ∷ 0 ∷ (bytes_of Little 4 (length xs) ++ row (map write xs) Little m))
    (flag-end Little true (length xs))
flag-piece write Little false xs =
    ap (λ (m : ℕ). 0 ∷ 0 ∷ 0 ∷ 0 ∷ (bytes_of Little 4 (length xs) ++ row (map write xs) Little m))
    (flag-end Little false (length xs))

module _ {X : Type 0} (truth : Truth) (write : X → Piece) (items : List X) where
  abbrev no_tail : Tail
  no_tail = record { more = 0; done = 0 }

  -- what the truth value of the first j says
  abbrev says : ℕ → Bool
  says j = content truth (is_nonempty (take j items)) (is_nonempty (drop j items))

  flagged-end : (old mid : Draft) → length old.bytes ≡ 24 → length mid.bytes ≡ 28 → mid.order ≡ old.order → (j : ℕ)
      → end_of (count_before write) no_tail items mid j ≡ length old.bytes + length (batch (next_piece truth write) items j
      old.order (length old.bytes))
  flagged-end old mid start long o j =
      let b = says j in
      let xs = take j items in
      let whole : length (batch (next_piece truth write) items j old.order (length old.bytes)) ≡ 4 + length
      (count_before write xs old.order 28) =
      ap (λ (m : ℕ). length (batch (next_piece truth write) items j old.order m)) start
      ∙ ap length (sym (flag-piece write old.order b xs))
      ∙ length-append (bytes_of old.order 4 (padded_flag old.order b)) (count_before write xs old.order 28)
      ∙ ap (λ (m : ℕ). m + length (count_before write xs old.order 28))
      (length-bytes_of old.order 4 (padded_flag old.order b)) in
      let inner : length (count_before write xs mid.order (length mid.bytes)) ≡ length (count_before write xs old.order 28) =
      ap (λ (r : Order). length (count_before write xs r (length mid.bytes))) o
      ∙ ap (λ (m : ℕ). length (count_before write xs old.order m)) long in
      omega (arith, start, long, whole, inner)

  short_there : (end size : ℕ) (b : Bool) → end ≡ size → reach end (behind no_tail b) ≤ LARGEST_MESSAGE
      → size ≤ LARGEST_MESSAGE
  short_there end size b e h = (let none = behind-none b in omega (arith, e, h, none))

  short_back : (end size : ℕ) (b : Bool) → end ≡ size → size ≤ LARGEST_MESSAGE
      → reach end (behind no_tail b) ≤ LARGEST_MESSAGE
  short_back end size b e h = (let none = behind-none b in omega (arith, e, h, none))

  pub next-puts : (old mid now new : Draft) (n k place : ℕ) (more : Bool) → length old.bytes ≡ REPLY_START
      → mid.bytes ≡ old.bytes ++ written_number 4 old.order (length old.bytes) 0 → mid.order ≡ old.order
      → Fills (count_before write) no_tail items mid n now k → now.order ≡ mid.order → place ≡ length old.bytes
      → more ≡ says k
      → new.bytes ≡ take place now.bytes ++ bytes_of now.order 4 (padded_flag now.order more) ++ drop (place + 4)
      now.bytes → PutsBatch (next_piece truth write) items n old new k
  next-puts old mid now new n k place more start e o f p at m set =
      let four = bytes_of old.order 4 0 in
      let xs = take k items in
      let same : mid.bytes ≡ old.bytes ++ four = e
      ∙ ap (λ (n : ℕ). old.bytes ++ written_number 4 old.order n 0) start in
      let long : length mid.bytes ≡ 28 = omega (
        arith,
        ap (length {A = ℕ}) same,
        length-append old.bytes four,
        length-bytes_of old.order 4 0,
        start,
      ) in
      let body = count_before write xs old.order 28 in
      let inner : count_before write xs mid.order (length mid.bytes) ≡ body =
      ap (λ (r : Order). count_before write xs r (length mid.bytes)) o
      ∙ ap (λ (n : ℕ). count_before write xs old.order n) long in
      let parts : now.bytes ≡ (old.bytes ++ four) ++ body = f.bytes
      ∙ ap (λ (b : List ℕ). b ++ count_before write xs mid.order (length mid.bytes)) same
      ∙ ap (λ (b : List ℕ). (old.bytes ++ four) ++ b) inner in
      record {
        is_batch = greatest_of_same
            (λ j h. short_there (end_of (count_before write) no_tail items mid j) _ (is_nonempty (drop j items))
            (flagged-end old mid start long o j) h)
            (λ j h. short_back (end_of (count_before write) no_tail items mid j) _ (is_nonempty (drop j items))
            (flagged-end old mid start long o j) h) f.is_greatest;
        bytes = set ∙ patched old.bytes four (bytes_of now.order 4 (padded_flag now.order more)) body now.bytes place
            parts (sym at) (length-bytes_of old.order 4 0)
            ∙ ap (λ (r : Order). old.bytes ++ (bytes_of r 4 (padded_flag r more) ++ body)) (p ∙ o)
            ∙ ap (λ (b : Bool). old.bytes ++ (bytes_of old.order 4 (padded_flag old.order b) ++ body)) m
            ∙ ap (λ (b : List ℕ). old.bytes ++ b) (flag-piece write old.order (says k) xs)
            ∙ ap (λ (n : ℕ). old.bytes ++ batch (next_piece truth write) items k old.order n) (sym start);
      }
