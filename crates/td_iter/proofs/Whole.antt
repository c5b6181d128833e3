-- A batch that has all that is left needs no reference of an iterator.
use Rattle.std.proofs.Common.{◌≡◌, ℕ, ◌+◌, ◌≤◌, ◌<◌, Bool, true, false, List, ◌++◌, length, take, drop, nat_lt, refl}
use Rattle.std.proofs.Common.{sym, ap, subst, ◌∙◌, arith}
use Rattle.std.proofs.Math.Seq.{drop-length}
use Rattle.std.proofs.lemmas.Bool.{both_ways}
use Rattle.td_cdr.specs.Format.{Piece}
use Rattle.td_cdr.specs.Writing.{Draft}
use Rattle.td_typecode.specs.Formats.{is_nonempty}
use Rattle.td_typecode.specs.declared.reference.Ior.{Ior}
use Rattle.td_iter.specs.Batches.{PutsBatch, PutsWhole, GivesWhole, IsBatch, batch}
use Rattle.td_iter.specs.Heads.{given_or_nil, nil, offers_found}
use Rattle.td_iter.specs.declared.limits.TheConstants.{LARGEST_MESSAGE}
use Rattle.td_iter.proofs.Loading.{some-left}
use Rattle.td_value.specs.declared.structures.Offer.{Offer}

none-behind : (offers : List Offer) → is_nonempty (drop (length offers) offers) ≡ false
none-behind offers = some-left (length offers) offers
    ∙ (let no : nat_lt (length offers) (length offers) ≡ false = grind arith in no)

module _ (limits : List (List ℕ)) (offers : List Offer) (old : Draft) (r : Ior) where
  -- all offers with any reference are all offers with the nil one
  same-whole : batch (offers_found nil limits) offers (length offers)
      ≡ batch (offers_found r limits) offers (length offers)
  same-whole =
      ap (λ (b : Bool). offers_found nil limits (take (length offers) offers) b) (none-behind offers)
      ∙ sym (ap (λ (b : Bool). offers_found r limits (take (length offers) offers) b) (none-behind offers))

  abbrev Fits : Piece → Type 0
  Fits piece = length old.bytes + length (piece old.order (length old.bytes)) ≤ LARGEST_MESSAGE

  pub whole-batch : (new : Draft) (n : ℕ) → PutsBatch (offers_found nil limits) offers n old new (length offers)
      → PutsBatch (offers_found r limits) offers n old new (length offers)
  whole-batch new n p = record {
    is_batch = record {
      asked = p.is_batch.asked;
      there = p.is_batch.there;
      holds = subst Fits same-whole p.is_batch.holds;
      greatest = λ j asked there holds. there;
    };
    bytes = p.bytes ∙ ap (λ (piece : Piece). old.bytes ++ piece old.order (length old.bytes)) same-whole;
  }

  pub no-whole : (new : Draft) (n k : ℕ) → PutsBatch (offers_found nil limits) offers n old new k → k < length offers
      → IsBatch (offers_found r limits) offers old n (length offers) → ⊥
  no-whole new n k p less b =
      let most = p.is_batch.greatest (length offers) b.asked b.there (subst Fits (sym same-whole) b.holds) in
      omega (arith, less, most)

-- the same of an iterator's slice
module _ (limits : List (List ℕ)) (left slice rest : List Offer) (n : ℕ) (old new : Draft) (r : Ior) where
  pub gives-all : slice ≡ left → rest ≡ drop (length left) left → (whole : Bool) → whole ≡ true
      → PutsWhole (offers_found r limits) slice n old new whole
      → GivesWhole (offers_found r limits) left n rest old new whole
  gives-all s l true e p = (
    subst (λ (xs : List Offer). PutsBatch (offers_found r limits) xs n old new (length xs)) s p,
    l ∙ drop-length left,
  )
  gives-all s l false e p = absurd (both_ways false refl e)

  pub gives-none : slice ≡ left → (whole : Bool) → whole ≡ false
      → PutsWhole (offers_found r limits) slice n old new whole
      → GivesWhole (offers_found r limits) left n left old new whole
  gives-none s false e p = (
    subst (λ (xs : List Offer). PutsWhole (offers_found r limits) xs n old new false) s p,
    refl,
  )
  gives-none s true e p = absurd (both_ways true e refl)

pub always-nil : (b : Bool) → nil ≡ given_or_nil nil b
always-nil true = refl
always-nil false = refl
