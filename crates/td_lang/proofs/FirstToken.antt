-- Where the first token of a text stands.
use Rattle.std.proofs.Common.{◌≡◌, ℕ, suc, ◌+◌, ◌<◌, Bool, true, false, List, [], ◌∷◌, length, drop, Ok, Err, refl, sym}
use Rattle.std.proofs.Common.{ap, ◌∙◌, arith}
use Rattle.td_lang.specs.declared.expr.Constraint.TheVariants as constraint
use Rattle.td_lang.specs.Lexing.{NextToken, is_blank, lead, token_at}
use Rattle.td_lang.specs.Reading.{start}
use Rattle.td_lang.specs.Tape.{Tape, Over, spot, tape, read_tape, ◌>>=◌}
use Rattle.td_lang.specs.Constraints.{tape_constraint}

blank_over : (t : Bool) (b : ℕ) (bs : List ℕ) (place : ℕ) → is_blank b ≡ t → lead is_blank (b ∷ bs) ≡ length (b ∷ bs)
    → (lead is_blank bs ≡ length bs → tape 0 (place + 1) bs ≡ Over (place + 1 + length bs))
    → tape 0 place (b ∷ bs) ≡ Over (place + length (b ∷ bs))
blank_over true b bs place is h more =
    let less : lead is_blank bs + 1 ≡ suc (length bs) = rw is at h in
    rw is (more (omega (arith, less)) ∙ ap (λ (p : ℕ). Over p) (omega arith))
blank_over false b bs place is h more =
    let none : 0 ≡ suc (length bs) = rw is at h in
    absurd (omega (arith, none))

-- blanks alone
pub blank_tape : (bs : List ℕ) (place : ℕ) → lead is_blank bs ≡ length bs → tape 0 place bs ≡ Over (place + length bs)
blank_tape [] place h = ap (λ (p : ℕ). Over p) (omega arith)
blank_tape (b ∷ bs) place h = blank_over (is_blank b) b bs place refl h (λ k. blank_tape bs (place + 1) k)

spot_asked : (place : ℕ) (r : NextToken) (rest : ℕ → Tape)
    → tape_constraint (spot place r rest) ≡ (read_tape start (spot place r rest) >>= λ e. Ok (constraint.Is e))
spot_asked place (Ok t) rest = refl
spot_asked place (Err f) rest = refl

abbrev Behind : ℕ → List ℕ → Type 0
Behind place bs =
    tape_constraint (tape 0 place bs)
    ≡ (read_tape start (tape 0 (place + lead is_blank bs) (drop (lead is_blank bs) bs)) >>= λ e. Ok (constraint.Is e))

drop_more_blanks : (n b : ℕ) (bs : List ℕ) → drop (n + 1) (b ∷ bs) ≡ drop n bs
drop_more_blanks n b bs = let same : n + 1 ≡ suc n = omega arith in ap (λ (m : ℕ). drop m (b ∷ bs)) same

asked_if : (t : Bool) (b : ℕ) (bs : List ℕ) (place : ℕ) → is_blank b ≡ t → lead is_blank (b ∷ bs) < length (b ∷ bs)
    → (lead is_blank bs < length bs → Behind (place + 1) bs) → Behind place (b ∷ bs)
asked_if true b bs place is h more =
    let n = lead is_blank bs in
    let one_more : lead is_blank (b ∷ bs) ≡ n + 1 = rw is refl in
    let there : tape 0 (place + 1 + n) (drop n bs)
    ≡ tape 0 (place + lead is_blank (b ∷ bs)) (drop (lead is_blank (b ∷ bs)) (b ∷ bs)) =
    ap (λ (p : ℕ). tape 0 p (drop n bs)) (omega (arith, one_more))
    ∙ ap (λ (xs : List ℕ). tape 0 (place + lead is_blank (b ∷ bs)) xs)
    (sym (ap (λ (k : ℕ). drop k (b ∷ bs)) one_more ∙ drop_more_blanks n b bs)) in
    let here : tape 0 place (b ∷ bs) ≡ tape 0 (place + 1) bs = rw is refl in
    ap (λ (t : Tape). tape_constraint t) here ∙ more (omega (arith, one_more, h))
    ∙ ap (λ (t : Tape). read_tape start t >>= λ e. Ok (constraint.Is e)) there
asked_if false b bs place is h more =
    let none : lead is_blank (b ∷ bs) ≡ 0 = rw is refl in
    let here : (p : ℕ) → tape 0 p (b ∷ bs) ≡ spot p (token_at p (b ∷ bs)) (λ k. tape k (p + 1) bs) = λ p. rw is refl in
    let there : tape 0 place (b ∷ bs)
    ≡ tape 0 (place + lead is_blank (b ∷ bs)) (drop (lead is_blank (b ∷ bs)) (b ∷ bs)) =
    ap (λ (p : ℕ). tape 0 p (b ∷ bs)) (omega (arith, none))
    ∙ ap (λ (k : ℕ). tape 0 (place + lead is_blank (b ∷ bs)) (drop k (b ∷ bs))) (sym none) in
    ap (λ (t : Tape). tape_constraint t) (here place)
    ∙ spot_asked place (token_at place (b ∷ bs)) (λ k. tape k (place + 1) bs)
    ∙ ap (λ (t : Tape). read_tape start t >>= λ e. Ok (constraint.Is e)) (sym (here place) ∙ there)

-- blanks, and then something else
pub asked_behind : (bs : List ℕ) (place : ℕ) → lead is_blank bs < length bs
    → tape_constraint (tape 0 place bs)
    ≡ (read_tape start (tape 0 (place + lead is_blank bs) (drop (lead is_blank bs) bs))
    >>= λ e. Ok (constraint.Is e))
asked_behind [] place h = absurd (omega arith)
asked_behind (b ∷ bs) place h = asked_if (is_blank b) b bs place refl h (λ k. asked_behind bs (place + 1) k)
