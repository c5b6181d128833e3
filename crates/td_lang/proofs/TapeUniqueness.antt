-- A text has one list of tokens, and their spellings with blanks between them are the text.
use Rattle.std.proofs.Common.{◌≡◌, ℕ, zero, suc, ◌+◌, ◌-◌, ◌<◌, ◌≤◌, Bool, true, false, if◌then◌else◌, List, [], ◌∷◌}
use Rattle.std.proofs.Common.{◌++◌, length, drop, Ok, Err, ◌⊎◌, inl, inr, refl, sym, ap, subst, ◌∙◌, arith}
use Rattle.std.specs.List.{list_all}
use Rattle.std.specs.Char.{digit_value}
use Rattle.std.specs.Str.Parse.{AllDigits}
use Rattle.std.proofs.lemmas.Bool.{and_parts}
use Rattle.std.proofs.lemmas.Bool.Decides.{nat_tests}
use Rattle.std.proofs.lemmas.List.{drop_at, length-append}
use Rattle.std.proofs.lemmas.Str.Parse.{digit_from_value}
use Rattle.td_cdr.specs.Names.{is_letter, IsIdentifier}
use Rattle.td_lang.specs.declared.expr.Op.TheVariants as op
use Rattle.td_lang.specs.declared.token.Keyword.TheVariants as keyword
use Rattle.td_lang.specs.declared.token.Token.{Token}
use Rattle.td_lang.specs.declared.token.Token.TheVariants as token
use Rattle.td_lang.specs.declared.fault.LangFault.{LangFault}
use Rattle.td_lang.specs.Lexing.{NextToken, is_blank, lead, token_at}
use Rattle.td_lang.specs.Tape.{Tape, Over, Broken, Spot, spot, tape}
use Rattle.td_lang.specs.Spelling.{is_reserved, SpellsToken, Apart, BeginsWithToken, token_fault, SpellsTokens}
use Rattle.td_lang.proofs.FirstToken.{blank_tape}
use Rattle.td_lang.proofs.ReaderTurn.{tape_skips}
use Rattle.td_lang.proofs.LexerAnswers.{Found}
use Rattle.td_lang.proofs.TokenSpelling.{token_found}
use Rattle.td_lang.proofs.TokenReading.{named, token_again}

-- a spelling has a first byte, which is no blank
pub record Solid (bs : List ℕ) : Type 0 where
  pub first : ℕ
  pub others : List ℕ
  pub is : bs ≡ first ∷ others
  pub no_blank : is_blank first ≡ false

letter_no_blank : (b : ℕ) → is_letter b ≡ true → is_blank b ≡ false
letter_no_blank b h = grind (arith, nat_tests)

digit_no_blank : (c : ℕ) → digit_value c < 10 → is_blank c ≡ false
digit_no_blank c h = let r = digit_from_value c h in grind (arith, nat_tests)

solid_digits : (bs : List ℕ) → 0 < length bs → AllDigits 10 bs → Solid bs
solid_digits [] some all = absurd (omega arith)
solid_digits (c ∷ cs) some all = record { first = c; others = cs; is = refl; no_blank = digit_no_blank c all.0 }

solid_name : (w bs : List ℕ) → IsIdentifier w → (bs ≡ 92 ∷ w) ⊎ ((bs ≡ w) × (is_reserved w ≡ false)) → Solid bs
solid_name w bs i (inl is) = record { first = 92; others = w; is = is; no_blank = refl }
solid_name w bs i (inr is) =
    let n = named w i in
    record { first = n.first; others = n.others; is = is.0 ∙ n.is; no_blank = letter_no_blank n.first n.letter }

pub solid : (t : Token) (bs : List ℕ) → SpellsToken t bs → Solid bs
solid (token.Operator op.Or) bs s = record { first = 111; others = _; is = s; no_blank = refl }
solid (token.Operator op.And) bs s = record { first = 97; others = _; is = s; no_blank = refl }
solid (token.Operator op.Eq) bs s = record { first = 61; others = _; is = s; no_blank = refl }
solid (token.Operator op.Ne) bs s = record { first = 33; others = _; is = s; no_blank = refl }
solid (token.Operator op.Lt) bs s = record { first = 60; others = _; is = s; no_blank = refl }
solid (token.Operator op.Le) bs s = record { first = 60; others = _; is = s; no_blank = refl }
solid (token.Operator op.Gt) bs s = record { first = 62; others = _; is = s; no_blank = refl }
solid (token.Operator op.Ge) bs s = record { first = 62; others = _; is = s; no_blank = refl }
solid (token.Operator op.Twiddle) bs s = record { first = 126; others = _; is = s; no_blank = refl }
solid (token.Operator op.Add) bs s = record { first = 43; others = _; is = s; no_blank = refl }
solid (token.Operator op.Sub) bs s = record { first = 45; others = _; is = s; no_blank = refl }
solid (token.Operator op.Mul) bs s = record { first = 42; others = _; is = s; no_blank = refl }
solid (token.Operator op.Div) bs s = record { first = 47; others = _; is = s; no_blank = refl }
solid token.Within bs s = record { first = 105; others = _; is = s; no_blank = refl }
solid token.Not bs s = record { first = 110; others = _; is = s; no_blank = refl }
solid token.Exist bs s = record { first = 101; others = _; is = s; no_blank = refl }
solid token.Open bs s = record { first = 40; others = _; is = s; no_blank = refl }
solid token.Close bs s = record { first = 41; others = _; is = s; no_blank = refl }
solid (token.Name w) bs s = solid_name w bs s.0 s.1
solid (token.Number n) bs s = solid_digits bs s.0 s.1
solid (token.Quoted t) bs s = record { first = 39; others = _; is = s; no_blank = refl }
solid (token.Truth true) bs s = record { first = 84; others = _; is = s; no_blank = refl }
solid (token.Truth false) bs s = record { first = 70; others = _; is = s; no_blank = refl }
solid (token.Keyword keyword.First) bs s = record { first = 102; others = _; is = s; no_blank = refl }
solid (token.Keyword keyword.Random) bs s = record { first = 114; others = _; is = s; no_blank = refl }
solid (token.Keyword keyword.Min) bs s = record { first = 109; others = _; is = s; no_blank = refl }
solid (token.Keyword keyword.Max) bs s = record { first = 109; others = _; is = s; no_blank = refl }
solid (token.Keyword keyword.With) bs s = record { first = 119; others = _; is = s; no_blank = refl }

-- one blank more in front
blank_more : (ts : Tape) (b : ℕ) (bs : List ℕ) (place : ℕ) → is_blank b ≡ true → SpellsTokens (place + 1) bs ts
    → SpellsTokens place (b ∷ bs) ts
blank_more (Over end) b bs place is h = (rw is h.0, omega (arith, h.1))
blank_more (Broken f) b bs place is h =
    let there : place + 1 + length h.gap ≡ place + length (b ∷ h.gap) = omega arith in
    record {
      gap = b ∷ h.gap;
      first = h.first;
      others = h.others;
      text_is = ap (λ (xs : List ℕ). b ∷ xs) h.text_is;
      blank = rw is h.blank;
      no_blank = h.no_blank;
      none = h.none;
      fault_is = h.fault_is ∙ ap (λ (p : ℕ). token_fault p (h.first ∷ h.others)) there;
    }
blank_more (Spot at t rest) b bs place is h =
    (b ∷ h.0, h.1, ap (λ (xs : List ℕ). b ∷ xs) h.2, rw is h.3, omega (arith, h.4), h.5, h.6)

no_front : (place : ℕ) (text : List ℕ) (f : LangFault) → token_at place text ≡ Err f → (t : Token) → BeginsWithToken t text → ⊥
no_front place text f is t front =
    let there : token_at place text ≡ token_at place (front.spelling ++ front.more) =
    ap (λ (xs : List ℕ). token_at place xs) front.text_is in
    let again : token_at place (front.spelling ++ front.more) ≡ Ok (t, length front.spelling) =
    token_again t place front.spelling front.more front.spells front.apart in
    cc

spot_written : (r : NextToken) (place b : ℕ) (bs : List ℕ) → is_blank b ≡ false → token_at place (b ∷ bs) ≡ r
    → Found place (b ∷ bs) r → ((k : ℕ) → k ≤ length bs → SpellsTokens (place + 1 + k) (drop k bs) (tape k (place + 1) bs))
    → SpellsTokens place (b ∷ bs) (spot place r (λ k. tape k (place + 1) bs))
spot_written (Err f) place b bs blank is found rest =
    let here : place ≡ place + 0 = omega arith in
    record {
      gap = [];
      first = b;
      others = bs;
      text_is = refl;
      blank = refl;
      no_blank = blank;
      none = no_front place (b ∷ bs) f is;
      fault_is = found ∙ ap (λ (p : ℕ). token_fault p (b ∷ bs)) here;
    }
spot_written (Ok r) place b bs blank is found rest =
    let front = found.front in
    let s = solid r.0 front.spelling front.spells in
    let k = r.1 - 1 in
    let long : length front.spelling ≡ suc (length s.others) = ap (length {A = ℕ}) s.is in
    let next : r.1 ≡ suc k = omega (arith, found.size_is, long) in
    let whole : suc (length bs) ≡ length front.spelling + length front.more =
    ap (length {A = ℕ}) front.text_is ∙ length-append front.spelling front.more in
    let behind : drop k bs ≡ front.more =
    ap (λ (n : ℕ). drop n (b ∷ bs)) (sym next ∙ found.size_is)
    ∙ ap (λ (xs : List ℕ). drop (length front.spelling) xs) front.text_is
    ∙ drop_at front.spelling front.more (length front.spelling) refl in
    let there : place + 1 + k ≡ place + length front.spelling = omega (arith, next, found.size_is) in
    let written : SpellsTokens (place + 1 + k) (drop k bs) (tape k (place + 1) bs) =
    rest k (omega (arith, next, found.size_is, whole)) in
    let moved : SpellsTokens (place + length front.spelling) front.more (tape k (place + 1) bs) =
    subst (λ (p : ℕ). SpellsTokens p front.more (tape k (place + 1) bs)) there
    (subst (λ (xs : List ℕ). SpellsTokens (place + 1 + k) xs (tape k (place + 1) bs)) behind written) in
    ([], b ∷ bs, refl, refl, omega arith, front, moved)

written_if : (c : Bool) (b : ℕ) (bs : List ℕ) (place : ℕ) → is_blank b ≡ c
    → SpellsTokens (place + 1) bs (tape 0 (place + 1) bs)
    → (c ≡ false → SpellsTokens place (b ∷ bs) (spot place (token_at place (b ∷ bs)) (λ k. tape k (place + 1) bs)))
    → SpellsTokens place (b ∷ bs) (if c then tape 0 (place + 1) bs
    else spot place (token_at place (b ∷ bs)) (λ k. tape k (place + 1) bs))
written_if true b bs place is h k = blank_more (tape 0 (place + 1) bs) b bs place is h
written_if false b bs place is h k = k refl

written_from : (bs : List ℕ) (skip place : ℕ) → skip ≤ length bs
    → SpellsTokens (place + skip) (drop skip bs) (tape skip place bs)
written_from [] zero place h = (refl, omega arith)
written_from [] (suc skip) place h = absurd (omega arith)
written_from (b ∷ bs) (suc skip) place h =
    let there : place + 1 + skip ≡ place + suc skip = omega arith in
    subst (λ (p : ℕ). SpellsTokens p (drop skip bs) (tape skip (place + 1) bs)) there
    (written_from bs skip (place + 1) (omega arith))
written_from (b ∷ bs) zero place h =
    let here : place ≡ place + 0 = omega arith in
    let next : place + 1 + 0 ≡ place + 1 = omega arith in
    let rest : SpellsTokens (place + 1) bs (tape 0 (place + 1) bs) =
    subst (λ (p : ℕ). SpellsTokens p bs (tape 0 (place + 1) bs)) next (written_from bs 0 (place + 1) (omega arith)) in
    subst (λ (p : ℕ). SpellsTokens p (b ∷ bs) (tape 0 place (b ∷ bs))) here
    (written_if (is_blank b) b bs place refl rest
    (λ blank. spot_written (token_at place (b ∷ bs)) place b bs blank refl (token_found place b bs)
    (λ k low. written_from bs k (place + 1) low)))

-- the tokens of a text are written in it
pub written : (text : List ℕ) → SpellsTokens 0 text (tape 0 0 text)
written text = written_from text 0 0 (omega arith)

-- and no others
blank_lead : (p : ℕ → Bool) (bs : List ℕ) → list_all p bs ≡ true → lead p bs ≡ length bs
blank_lead p [] h = refl
blank_lead p (b ∷ bs) h = let k = and_parts (p b) (list_all p bs) h in rw k.0 (rw (blank_lead p bs k.1) (omega arith))

gap_tape : (gap behind : List ℕ) (place : ℕ) → list_all is_blank gap ≡ true
    → tape 0 place (gap ++ behind) ≡ tape 0 (place + length gap) behind
gap_tape [] behind place h = ap (λ (p : ℕ). tape 0 p behind) (omega arith)
gap_tape (b ∷ gap) behind place h =
    let k = and_parts (is_blank b) (list_all is_blank gap) h in
    let there : place + 1 + length gap ≡ place + length (b ∷ gap) = omega arith in
    rw k.0 (gap_tape gap behind (place + 1) k.1 ∙ ap (λ (p : ℕ). tape 0 p behind) there)

spot_tape : (t : Token) (p b size : ℕ) (bs more : List ℕ) → is_blank b ≡ false → size ≡ suc (length bs)
    → token_at p (b ∷ (bs ++ more)) ≡ Ok (t, size) → tape 0 p (b ∷ (bs ++ more)) ≡ Spot p t (tape 0 (p + size) more)
spot_tape t p b size bs more blank is found =
    let low : size - 1 ≤ length (bs ++ more) = omega (arith, is, length-append bs more) in
    let there : p + 1 + (size - 1) ≡ p + size = omega (arith, is) in
    let left : length bs ≡ size - 1 = omega (arith, is) in
    let on : tape (size - 1) (p + 1) (bs ++ more) ≡ tape 0 (p + size) more =
    tape_skips (size - 1) (p + 1) (bs ++ more) low ∙ ap (λ (q : ℕ). tape 0 q (drop (size - 1) (bs ++ more))) there
    ∙ ap (λ (xs : List ℕ). tape 0 (p + size) xs) (drop_at bs more (size - 1) left) in
    rw blank (rw found (ap (λ (rest : Tape). Spot p t rest) on))

front_tape : (t : Token) (p : ℕ) (spelling more : List ℕ) → SpellsToken t spelling → Apart t more
    → tape 0 p (spelling ++ more) ≡ Spot p t (tape 0 (p + length spelling) more)
front_tape t p spelling more spells apart =
    let s = solid t spelling spells in
    let again : token_at p (s.first ∷ (s.others ++ more)) ≡ Ok (t, length spelling) =
    ap (λ (xs : List ℕ). token_at p (xs ++ more)) (sym s.is) ∙ token_again t p spelling more spells apart in
    ap (λ (xs : List ℕ). tape 0 p (xs ++ more)) s.is
    ∙ spot_tape t p s.first (length spelling) s.others more s.no_blank (ap (length {A = ℕ}) s.is) again

halted : (r : NextToken) (p : ℕ) (text : List ℕ) (f : LangFault) (rest : ℕ → Tape) → ((t : Token) → BeginsWithToken t text → ⊥)
    → f ≡ token_fault p text → Found p text r → Broken f ≡ spot p r rest
halted (Ok r) p text f rest none is found = absurd (none r.0 found.front)
halted (Err g) p text f rest none is found = ap (λ (x : LangFault). Broken x) (is ∙ sym found)

halts_tape : (p b : ℕ) (bs : List ℕ) (f : LangFault) → is_blank b ≡ false → ((t : Token) → BeginsWithToken t (b ∷ bs) → ⊥)
    → f ≡ token_fault p (b ∷ bs) → Broken f ≡ tape 0 p (b ∷ bs)
halts_tape p b bs f blank none is =
    rw blank (halted (token_at p (b ∷ bs)) p (b ∷ bs) f (λ k. tape k (p + 1) bs) none is (token_found p b bs))

pub only : (ts : Tape) (place : ℕ) (text : List ℕ) → SpellsTokens place text ts → ts ≡ tape 0 place text
only (Over end) place text h = ap (λ (p : ℕ). Over p) h.1 ∙ sym (blank_tape text place (blank_lead is_blank text h.0))
only (Broken f) place text h =
    halts_tape (place + length h.gap) h.first h.others f h.no_blank h.none h.fault_is
    ∙ sym (gap_tape h.gap (h.first ∷ h.others) place h.blank) ∙ ap (λ (xs : List ℕ). tape 0 place xs) (sym h.text_is)
only (Spot at t rest) place text h =
    let front = h.5 in
    let p = place + length h.0 in
    ap (λ (x : Tape). Spot at t x) (only rest (at + length front.spelling) front.more h.6)
    ∙ ap (λ (q : ℕ). Spot q t (tape 0 (q + length front.spelling) front.more)) h.4
    ∙ sym (front_tape t p front.spelling front.more front.spells front.apart)
    ∙ ap (λ (xs : List ℕ). tape 0 p xs) (sym front.text_is)
    ∙ sym (gap_tape h.0 h.1 place h.3)
    ∙ ap (λ (xs : List ℕ). tape 0 place xs) (sym h.2)
