-- The tokens that a text is read as have spellings.
use Rattle.std.proofs.Common.{ℕ, zero, suc, ◌+◌, ◌-◌, Bool, true, false, if◌then◌else◌, List, [], ◌∷◌, Ok, Err}
use Rattle.td_lang.specs.declared.token.Token.{Token}
use Rattle.td_lang.specs.declared.token.Token.TheVariants as token
use Rattle.td_lang.specs.Lexing.{NextToken, is_blank, token_at, HasSpelling}
use Rattle.td_lang.specs.Spelling.{SpellsToken}
use Rattle.td_lang.specs.Tape.{Tape, Over, Broken, Spot, spot, tape}
use Rattle.td_lang.proofs.LexerAnswers.{Found}
use Rattle.td_lang.proofs.TokenSpelling.{token_found}

spelled : (t : Token) (bs : List ℕ) → SpellsToken t bs → HasSpelling t
spelled (token.Name n) bs s = s.0
spelled (token.Number n) bs s = s.3
spelled t bs s = tt

abbrev Kept : NextToken → Type 0
Kept (Ok r) = HasSpelling r.0
Kept (Err f) = Unit {0}

kept : (place : ℕ) (text : List ℕ) (r : NextToken) → Found place text r → Kept r
kept place text (Ok r) h = spelled r.0 h.front.spelling h.front.spells
kept place text (Err f) h = tt

-- each token of the tape has a spelling
abbrev pub AllOnTape : Tape → Type 0
AllOnTape (Over place) = Unit {0}
AllOnTape (Broken f) = Unit {0}
AllOnTape (Spot place t rest) = HasSpelling t × AllOnTape rest

tape_if : (c : Bool) (x y : Tape) → AllOnTape x → AllOnTape y → AllOnTape (if c then x else y)
tape_if true x y h k = h
tape_if false x y h k = k

spot_kept : (place : ℕ) (r : NextToken) (rest : ℕ → Tape) → Kept r → ((k : ℕ) → AllOnTape (rest k))
    → AllOnTape (spot place r rest)
spot_kept place (Ok t) rest h more = (h, more (t.1 - 1))
spot_kept place (Err f) rest h more = tt

pub tape_kept : (bs : List ℕ) (skip place : ℕ) → AllOnTape (tape skip place bs)
tape_kept [] skip place = tt
tape_kept (b ∷ bs) (suc skip) place = tape_kept bs skip (place + 1)
tape_kept (b ∷ bs) zero place =
    let rest : ℕ → Tape = λ k. tape k (place + 1) bs in
    tape_if (is_blank b) (tape 0 (place + 1) bs) (spot place (token_at place (b ∷ bs)) rest)
    (tape_kept bs 0 (place + 1))
    (spot_kept place (token_at place (b ∷ bs)) rest
    (kept place (b ∷ bs) (token_at place (b ∷ bs)) (token_found place b bs)) (λ k. tape_kept bs k (place + 1)))
