-- Items are written one after another, and the longest front that fits is kept in mind.
use Rattle.std.proofs.Common.{◌≡◌, ℕ, zero, suc, ◌+◌, ◌≤◌, ◌<◌, Bool, true, false, if◌then◌else◌, ◌&&◌, ◌⊎◌, inl}
use Rattle.std.proofs.Common.{inr, List, [], ◌∷◌, ◌++◌, length, map, take, drop, get_or, min, nat_le, nat_lt, refl, sym}
use Rattle.std.proofs.Common.{ap, subst, ◌∙◌, arith, length-append, append_assoc}
use Rattle.std.proofs.lemmas.Bool.{both_ways}
use Rattle.std.proofs.lemmas.List.{take_at}
use Rattle.td_cdr.specs.declared.order.Order.{Order}
use Rattle.td_cdr.specs.Format.{Piece, row}
use Rattle.td_cdr.specs.Writing.{Draft}
use Rattle.td_cdr.proofs.SequenceWriting.{goes_on}
use Rattle.td_typecode.specs.Formats.{is_nonempty}
use Rattle.td_iter.specs.declared.limits.TheConstants.{LARGEST_MESSAGE}
use Rattle.td_iter.specs.declared.filling.Tail.{Tail}
use Rattle.td_iter.specs.declared.filling.Front.{Front}
use Rattle.td_iter.specs.Filling.{behind, reach, end_of, FitsTail, Fills}

pub some-left : {X : Type 0} (k : ℕ) (xs : List X) → is_nonempty (drop k xs) ≡ nat_lt k (length xs)
some-left zero [] = refl
some-left zero (x ∷ xs) = grind arith
some-left (suc k) [] = grind arith
some-left (suc k) (x ∷ xs) = some-left k xs ∙ (let less : nat_lt k (length xs) ≡ nat_lt (suc k) (suc (length xs)) =
    grind arith in less)

-- whether the first k are any
pub some-taken : {X : Type 0} (k : ℕ) (xs : List X) → k ≤ length xs → is_nonempty (take k xs) ≡ nat_lt 0 k
some-taken zero xs le = grind arith
some-taken (suc k) [] le = absurd (let no : ⊥ = omega (arith, le) in no)
some-taken (suc k) (x ∷ xs) le = grind arith

at-most : (j i : ℕ) → (j ≤ i) ⊎ (i < j)
at-most j i = grind arith

pub le-of : {a b : ℕ} → nat_le a b ≡ true → a ≤ b
le-of h = grind (arith, h)

pub not_le-of : {a b : ℕ} → nat_le a b ≡ false → a ≤ b → ⊥
not_le-of h le = grind (arith, h, le)

pub lt-of-not_le : {a b : ℕ} → nat_le a b ≡ false → b < a
lt-of-not_le h = grind (arith, h)

pub lt-of : {a b : ℕ} → nat_lt a b ≡ true → a < b
lt-of h = grind (arith, h)

pub lt-true : {a b : ℕ} → a < b → nat_lt a b ≡ true
lt-true h = grind (arith, h)

pub and-true_left : (a b : Bool) → (a && b) ≡ true → a ≡ true
and-true_left true b h = refl
and-true_left false b h = h

pub and-false_right : (a b : Bool) → (a && b) ≡ false → a ≡ true → b ≡ false
and-false_right true b h t = h
and-false_right false b h t = absurd (both_ways false refl t)

-- what fewer items come to is the front of what more come to
front-of : {X : Type 0} (write : X → Piece) (xs : List X) (b i : ℕ) → b ≤ i → (order : Order) (place : ℕ)
    → (rest : List ℕ) × (row (map write (take i xs)) order place ≡ row (map write (take b xs)) order place ++ rest)
front-of write xs zero i le order place = (row (map write (take i xs)) order place, refl)
front-of write [] (suc b) zero le order place = ([], refl)
front-of write [] (suc b) (suc i) le order place = ([], refl)
front-of write (x ∷ xs) (suc b) zero le order place = absurd (let no : ⊥ = omega (arith, le) in no)
front-of write (x ∷ xs) (suc b) (suc i) le order place =
    let more = front-of write xs b i (omega (arith, le)) order (place + length (write x order place)) in (
      more.0,
      ap (λ (bytes : List ℕ). write x order place ++ bytes) more.1
          ∙ sym (append_assoc (write x order place) (row (map write (take b xs)) order
          (place + length (write x order place))) more.0),
    )

abbrev pub rows : {X : Type 0} → (X → Piece) → List X → Piece
rows write xs = row (map write xs)

module _ {X : Type 0} (write : X → Piece) (tail : Tail) (items : List X) (old : Draft) where
  ends : ℕ → ℕ
  ends k = end_of (rows write) tail items old k

  fits : ℕ → Type 0
  fits k = FitsTail (rows write) tail items old k

  -- the first i are written; of the fronts of at most i, that of so many items, which ends here, is the longest
  -- that fits
  pub record SoFar (now : Draft) (i count end : ℕ) : Type 0 where
    pub bytes : now.bytes ≡ old.bytes ++ row (map write (take i items)) old.order (length old.bytes)
    pub order : now.order ≡ old.order
    pub within : count ≤ i
    pub fits : FitsTail (rows write) tail items old count
    pub longest : (j : ℕ) → j ≤ i → FitsTail (rows write) tail items old j → j ≤ count
    pub ends_there : end ≡ end_of (rows write) tail items old count

  end-length : (now : Draft) (i : ℕ)
      → now.bytes ≡ old.bytes ++ row (map write (take i items)) old.order (length old.bytes)
      → length now.bytes ≡ end_of (rows write) tail items old i
  end-length now i e = ap (length {A = ℕ}) e
      ∙ length-append old.bytes (row (map write (take i items)) old.order (length old.bytes))

  -- fewer items end no later
  ends-rise : (b i : ℕ) → b ≤ i → end_of (rows write) tail items old b ≤ end_of (rows write) tail items old i
  ends-rise b i le =
      let more = front-of write items b i le old.order (length old.bytes) in
      omega (
        arith,
        ap (length {A = ℕ}) more.1,
        length-append (row (map write (take b items)) old.order (length old.bytes)) more.0,
      )

  -- the longer front where it fits
  abbrev pub fits_now : ℕ → Bool → Bool
  fits_now here more = nat_le (reach here (behind tail more)) LARGEST_MESSAGE

  so_far-by : (now next : Draft) (i : ℕ) (best : Front) (b : Bool) → SoFar now i best.count best.end
      → next.bytes ≡ old.bytes ++ row (map write (take (i + 1) items)) old.order (length old.bytes)
      → next.order ≡ old.order
      → fits_now (length next.bytes) (is_nonempty (drop (i + 1) items)) ≡ b → let r : Front =
      (if b then record { count = i + 1; end = length next.bytes } else best) in SoFar next (i + 1) r.count r.end
  so_far-by now next i best true s e o f =
      let long = end-length next (i + 1) e in
      let good : FitsTail (rows write) tail items old (i + 1) =
      subst (λ (here : ℕ). reach here (behind tail (is_nonempty (drop (i + 1) items))) ≤ LARGEST_MESSAGE) long
      (le-of f) in
      record { bytes = e; order = o; within = omega arith; fits = good; longest = λ j le g. le; ends_there = long }
  so_far-by now next i best false s e o f =
      let long = end-length next (i + 1) e in
      let bad : FitsTail (rows write) tail items old (i + 1) → ⊥ =
      λ g. not_le-of f (subst (λ (here : ℕ). reach here (behind tail (is_nonempty (drop (i + 1) items))) ≤
      LARGEST_MESSAGE) (sym long) g) in
      record {
        bytes = e;
        order = o;
        within = omega (arith, s.within);
        fits = s.fits;
        longest =
            shorter bad;
        ends_there = s.ends_there;
      }
    where
      shorter : (FitsTail (rows write) tail items old (i + 1) → ⊥) → (j : ℕ) → j ≤ i + 1
          → FitsTail (rows write) tail items old j → j ≤ best.count
      shorter bad j le g = elim (at-most j i) [
        | inl a ↦ s.longest j a g
        | inr a ↦ (let same : j ≡ i + 1 = omega (arith, a, le) in
            absurd (bad (subst (λ (k : ℕ). FitsTail (rows write) tail items old k) same g)))
      ]

  -- one item more is written
  pub so_far-more : (now next : Draft) (i : ℕ) (best r : Front) (m : X) (here size : ℕ)
      → SoFar now i best.count best.end → i < length items → m ≡ get_or items i m
      → next.bytes ≡ now.bytes ++ write m now.order (length now.bytes) → next.order ≡ now.order
      → here ≡ length next.bytes → size ≡ behind tail (nat_lt (i + 1) (length items))
      → r ≡ (if nat_le (reach here size) LARGEST_MESSAGE then record { count = i + 1; end = here } else best)
      → SoFar next (i + 1) r.count r.end
  so_far-more now next i best r m here size s lt is e o h z f =
      let step : next.bytes ≡ now.bytes ++ write m old.order (length now.bytes) = e
      ∙ ap (λ (q : Order). now.bytes ++ write m q (length now.bytes)) s.order in
      let grown = goes_on write items i m old.order old.bytes now.bytes next.bytes lt is s.bytes step in
      let long : size ≡ behind tail (is_nonempty (drop (i + 1) items)) = z
      ∙ ap (behind tail) (sym (some-left (i + 1) items)) in
      let whole : r ≡ (if fits_now (length next.bytes) (is_nonempty (drop (i + 1) items)) then record {
        count =
            i + 1;
        end = length next.bytes;
      } else best) =
      f ∙ ap (λ (p : ℕ × ℕ). if nat_le (reach p.0 p.1) LARGEST_MESSAGE then record {
        count = i + 1;
        end =
            p.0;
      } else best) (ap (λ (a : ℕ). (a, size)) h ∙ ap (λ (a : ℕ). (length next.bytes, a)) long) in
      subst (λ (p : Front). SoFar next (i + 1) p.count p.end) (sym whole)
      (so_far-by now next i best (fits_now (length next.bytes) (is_nonempty (drop (i + 1) items))) s grown (o
      ∙ s.order) refl)

  pub so_far-long : (now : Draft) (i count end : ℕ) → SoFar now i count end → end ≤ length now.bytes
  so_far-long now i count end s = omega (arith, s.ends_there, end-length now i s.bytes, ends-rise count i s.within)

  -- no more can fit, and what is behind the longest front is cut off
  pub so_far-cut : (now new : Draft) (n i most held count end : ℕ) (b : Bool) → SoFar now i count end
      → most ≡ min (length items) n → i ≤ most → held ≡ length now.bytes
      → b ≡ (nat_lt i most && nat_le held LARGEST_MESSAGE) → b ≡ false
      → new.bytes ≡ take end now.bytes → Fills (rows write) tail items old n new count
  so_far-cut now new n i most held count end b s least within h test false_is cut =
      let full : i < most → LARGEST_MESSAGE < length now.bytes =
      λ lt. (let over = lt-of-not_le (and-false_right (nat_lt i most) (nat_le held LARGEST_MESSAGE) (sym test
      ∙ false_is) (lt-true lt)) in omega (arith, over, h)) in
      let more = front-of write items count i s.within old.order (length old.bytes) in
      let front = row (map write (take count items)) old.order (length old.bytes) in
      let parts : now.bytes ≡ (old.bytes ++ front) ++ more.0 = s.bytes ∙ ap (λ (b : List ℕ). old.bytes ++ b) more.1
      ∙ sym (append_assoc old.bytes front more.0) in
      record {
        is_greatest = record {
          asked = omega (arith, s.within, within, least);
          there = omega (arith, s.within, within, least);
          holds = s.fits;
          greatest = λ j a e f. elim (at-most j i) [
            | inl le ↦ s.longest j le f
            | inr lt ↦ (let few : i < most = omega (arith, a, e, lt, least) in
                absurd (omega (arith, full few, end-length now i s.bytes, ends-rise i j (omega (arith, lt)), f)))
          ];
        };
        bytes = cut ∙ ap (take end) parts ∙ take_at (old.bytes ++ front) more.0 end (length-append old.bytes front
            ∙ sym s.ends_there);
      }
