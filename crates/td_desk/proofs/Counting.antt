-- The batch of an iterator has as many items as its count says.
use Rattle.std.proofs.Common.{◌≡◌, ℕ, zero, suc, ◌+◌, ◌≤◌, Bool, true, false, if◌then◌else◌, List, [], ◌∷◌, ◌++◌, ◌⊎◌}
use Rattle.std.proofs.Common.{inl, inr, length, drop, min, nat_lt, refl, sym, ap, subst, ◌∙◌, arith}
use Rattle.std.proofs.lemmas.Bool.{both_ways}
use Rattle.td_cdr.specs.Format.{Piece}
use Rattle.td_cdr.specs.Writing.{Draft}
use Rattle.td_typecode.specs.Formats.{is_nonempty}
use Rattle.td_iter.specs.Batches.{FitsMessage, GivesBatch, batch}
use Rattle.td_iter.specs.Heads.{next_ids, next_offers}
use Rattle.td_iter.specs.declared.item.Item.TheVariants.{Offers, Ids}
use Rattle.td_iter.specs.declared.limits.TheConstants.{LARGEST_MESSAGE, REPLY_START}
use Rattle.td_value.specs.declared.structures.Offer.{Offer}
use Rattle.td_desk.specs.Batching.{batch_count, fits, greatest}
use Rattle.td_desk.specs.Placing.{IsNext}

-- ---- the greatest number

greatest_by : (b : Bool) (m k r : ℕ) → (b ≡ true → k ≡ suc m) → (b ≡ false → r ≡ k) → (if b then suc m else r) ≡ k
greatest_by true m k r is_true is_false = sym (is_true refl)
greatest_by false m k r is_true is_false = is_false refl

at_most : (k m : ℕ) → k ≤ suc m → (k ≤ m) ⊎ (k ≡ suc m)
at_most k m le = grind (arith, le)

greatest_later : (holds : ℕ → Bool) (m k : ℕ) → (k ≤ m → greatest holds m ≡ k) → holds k ≡ true
    → holds (suc m) ≡ false → (k ≤ m) ⊎ (k ≡ suc m) → greatest holds m ≡ k
greatest_later holds m k on is off (inl small) = on small
greatest_later holds m k on is off (inr same) = absurd (both_ways true (sym is ∙ ap holds same ∙ off) refl)

greatest_is : (holds : ℕ → Bool) (m k : ℕ) → k ≤ m → holds k ≡ true
    → ((j : ℕ) → j ≤ m → holds j ≡ true → j ≤ k) → greatest holds m ≡ k
greatest_is holds zero k le is most = omega (arith, le)
greatest_is holds (suc m) k le is most = greatest_by (holds (suc m)) m k (greatest holds m)
    (λ h. (let up = most (suc m) (omega arith) h in omega (arith, up, le)))
    (λ off. greatest_later holds m k (λ small. greatest_is holds m k small is (λ j at h. most j (omega (arith, at)) h))
    is off (at_most k m le))

behind : {X : Type 0} (k : ℕ) (xs : List X) → is_nonempty (drop k xs) ≡ nat_lt k (length xs)
behind zero [] = (let none : nat_lt 0 0 ≡ false = grind arith in sym none)
behind zero (x ∷ xs) = (let less : nat_lt 0 (suc (length xs)) ≡ true = grind arith in sym less)
behind (suc k) [] = (let none : nat_lt (suc k) 0 ≡ false = grind arith in sym none)
behind (suc k) (x ∷ xs) = behind k xs
    ∙ (let less : nat_lt k (length xs) ≡ nat_lt (suc k) (suc (length xs)) = grind arith in less)

-- ---- a batch that was given

module _ {X : Type 0} (head : List X → Bool → Piece) (xs rest : List X) (n : ℕ) (w back : Draft) (more : Bool)
    (start : length w.bytes ≡ REPLY_START) (g : GivesBatch head xs n rest w back more) where
  to_fits : (j : ℕ) → FitsMessage head xs w j → fits head w.order xs j ≡ true
  to_fits j f =
      let moved : REPLY_START + length (batch head xs j w.order REPLY_START) ≤ LARGEST_MESSAGE =
      subst (λ (s : ℕ). s + length (batch head xs j w.order s) ≤ LARGEST_MESSAGE) start f in
      grind (arith, moved)

  from_fits : (j : ℕ) → fits head w.order xs j ≡ true → FitsMessage head xs w j
  from_fits j f =
      let small : REPLY_START + length (batch head xs j w.order REPLY_START) ≤ LARGEST_MESSAGE = grind (arith, f) in
      subst (λ (s : ℕ). s + length (batch head xs j w.order s) ≤ LARGEST_MESSAGE) (sym start) small

  count_is : batch_count head w.order xs n ≡ g.count
  count_is =
      let b = g.puts.is_batch in
      greatest_is (fits head w.order xs) (min n (length xs)) g.count
      (let asked = b.asked in (let there = b.there in omega (arith, asked, there))) (to_fits g.count b.holds)
      (λ j le f. b.greatest j (omega (arith, le)) (omega (arith, le)) (from_fits j f))

  pub rest_is : rest ≡ drop (batch_count head w.order xs n) xs
  rest_is = g.rest_is ∙ ap (λ (k : ℕ). drop k xs) (sym count_is)

  pub more_is : more ≡ nat_lt (batch_count head w.order xs n) (length xs)
  more_is = g.more_is ∙ ap (λ (ys : List X). is_nonempty ys) g.rest_is ∙ behind g.count xs ∙ ap (λ (k : ℕ). nat_lt k (length xs)) (sym count_is)

  pub bytes_is : back.bytes ≡ w.bytes ++ batch head xs (batch_count head w.order xs n) w.order REPLY_START
  bytes_is = g.puts.bytes
      ∙ ap (λ (s : ℕ). w.bytes ++ batch head xs g.count w.order s) start
      ∙ ap (λ (k : ℕ). w.bytes ++ batch head xs k w.order REPLY_START) (sym count_is)

-- ---- the batch of an item

pub offers_next : (n : ℕ) (xs rest : List Offer) (w back : Draft) (more : Bool) → length w.bytes ≡ REPLY_START
    → GivesBatch next_offers xs n rest w back more → IsNext n w back (Offers xs) (Offers rest) more
offers_next n xs rest w back more start g = record {
  left_is = ap (λ (ys : List Offer). Offers ys) (rest_is next_offers xs rest n w back more start g);
  more_is = more_is next_offers xs rest n w back more start g;
  bytes = bytes_is next_offers xs rest n w back more start g;
}

pub ids_next : (n : ℕ) (xs rest : List (List ℕ)) (w back : Draft) (more : Bool) → length w.bytes ≡ REPLY_START
    → GivesBatch next_ids xs n rest w back more → IsNext n w back (Ids xs) (Ids rest) more
ids_next n xs rest w back more start g = record {
  left_is = ap (λ (ys : List (List ℕ)). Ids ys) (rest_is next_ids xs rest n w back more start g);
  more_is = more_is next_ids xs rest n w back more start g;
  bytes = bytes_is next_ids xs rest n w back more start g;
}
