-- Bytes of one kind in front of a text, and names.
use Rattle.std.proofs.Common.{◌≡◌, ℕ, suc, ◌+◌, ◌≤◌, Bool, true, false, if◌then◌else◌, List, [], ◌∷◌, length, take}
use Rattle.std.proofs.Common.{refl, sym, ap, subst, ◌∙◌, arith}
use Rattle.std.specs.List.{list_all}
use Rattle.std.proofs.lemmas.Bool.{le-leb}
use Rattle.std.proofs.lemmas.List.{length-take-le}
use Rattle.td_cdr.specs.Names.{is_letter, is_word, IsIdentifier}
use Rattle.td_lang.specs.Lexing.{lead, byte_at}

within_if : (t : Bool) (n m : ℕ) → n ≤ m → (if t then n + 1 else 0) ≤ suc m
within_if true n m h = omega arith
within_if false n m h = omega arith

pub lead_within : (p : ℕ → Bool) (bs : List ℕ) → lead p bs ≤ length bs
lead_within p [] = omega arith
lead_within p (b ∷ bs) = within_if (p b) (lead p bs) (length bs) (lead_within p bs)

take_more : (n b : ℕ) (bs : List ℕ) → take (n + 1) (b ∷ bs) ≡ b ∷ take n bs
take_more n b bs = let same : n + 1 ≡ suc n = omega arith in ap (λ (m : ℕ). take m (b ∷ bs)) same

all_if : (p : ℕ → Bool) (b n : ℕ) (bs : List ℕ) (t : Bool) → p b ≡ t → list_all p (take n bs) ≡ true
    → list_all p (take (if t then n + 1 else 0) (b ∷ bs)) ≡ true
all_if p b n bs true is h = rw (take_more n b bs) (rw is h)
all_if p b n bs false is h = refl

pub all_lead : (p : ℕ → Bool) (bs : List ℕ) → list_all p (take (lead p bs) bs) ≡ true
all_lead p [] = refl
all_lead p (b ∷ bs) = all_if p b (lead p bs) bs (p b) refl (all_lead p bs)

identifier_front : (b : ℕ) (bs : List ℕ) (n : ℕ) → is_letter b ≡ true → n ≤ 255 → n ≤ length bs
    → list_all is_word (take n bs) ≡ true → IsIdentifier (b ∷ take n bs)
identifier_front b bs n letter short within all =
    rw letter (rw (length-take-le n bs within) (rw (le-leb n 255 short) all))

pub word_letter : (b : ℕ) → is_letter b ≡ true → is_word b ≡ true
word_letter b h = rw h refl

pub name_front : (name : List ℕ) → is_letter (byte_at name 0) ≡ true → lead is_word name ≤ 256
    → IsIdentifier (take (lead is_word name) name)
name_front [] letter short = absurd (cc)
name_front (b ∷ bs) letter short =
    let one_more : lead is_word (b ∷ bs) ≡ lead is_word bs + 1 = rw (word_letter b letter) refl in
    let front : take (lead is_word (b ∷ bs)) (b ∷ bs) ≡ b ∷ take (lead is_word bs) bs =
    ap (λ (n : ℕ). take n (b ∷ bs)) one_more ∙ take_more (lead is_word bs) b bs in
    subst (λ (w : List ℕ). IsIdentifier w) (sym front)
    (identifier_front b bs (lead is_word bs) letter (omega (arith, one_more, short)) (lead_within is_word bs)
    (all_lead is_word bs))
