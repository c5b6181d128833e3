-- One turn of the reader.
use Rattle.std.proofs.Common.{◌≡◌, ℕ, zero, suc, ◌+◌, ◌-◌, ◌<◌, ◌≤◌, false, List, [], ◌∷◌, length, drop, get_or, Ok, ap}
use Rattle.std.proofs.Common.{subst, ◌∙◌, arith, length-drop}
use Rattle.std.proofs.lemmas.List.{drop_more, drop-drop}
use Rattle.td_lang.specs.declared.token.Token.{Token}
use Rattle.td_lang.specs.Machine.{MachineState, step}
use Rattle.td_lang.specs.Lexing.{is_blank, token_at}
use Rattle.td_lang.specs.Tape.{Tape, tape, at_place, read_tape}

pub tape_skips : (k place : ℕ) (bs : List ℕ) → k ≤ length bs → tape k place bs ≡ tape 0 (place + k) (drop k bs)
tape_skips zero place bs h = ap (λ (p : ℕ). tape 0 p bs) (omega arith)
tape_skips (suc k) place [] h = absurd (omega arith)
tape_skips (suc k) place (b ∷ bs) h =
    tape_skips k (place + 1) bs (omega arith) ∙ ap (λ (p : ℕ). tape 0 p (drop k bs)) (omega arith)

pub here : (b : ℕ) (rest : List ℕ) (place size : ℕ) (token : Token) (s next : MachineState) → 0 < size → is_blank b ≡ false
    → token_at place (b ∷ rest) ≡ Ok (token, size) → size - 1 ≤ length rest → at_place place (step s token) ≡ Ok next
    → read_tape s (tape 0 place (b ∷ rest)) ≡ read_tape next (tape 0 (place + size) (drop (size - 1) rest))
here b rest place size token s next some blank found low taken =
    rw blank (rw found (rw taken
    (ap (λ (t : Tape). read_tape next t)
    (tape_skips (size - 1) (place + 1) rest low
    ∙ ap (λ (p : ℕ). tape 0 p (drop (size - 1) rest)) (omega arith)))))

pub turns : (text left : List ℕ) (place size : ℕ) (token : Token) (s next : MachineState) → left ≡ drop place text
    → place < length text → 0 < size → size ≤ length left → is_blank (get_or text place 0) ≡ false
    → token_at place left ≡ Ok (token, size) → at_place place (step s token) ≡ Ok next
    → read_tape s (tape 0 place (drop place text)) ≡ read_tape next (tape 0 (place + size) (drop (place + size) text))
turns text left place size token s next is lt some low blank found taken =
    let b = get_or text place 0 in
    let rest = drop (place + 1) text in
    let front : drop place text ≡ b ∷ rest = drop_more text place 0 lt in
    let found' : token_at place (b ∷ rest) ≡ Ok (token, size) =
    subst (λ (xs : List ℕ). token_at place xs ≡ Ok (token, size)) (is ∙ front) found in
    let on : drop (size - 1) rest ≡ drop (place + size) text =
    drop-drop (size - 1) (place + 1) text ∙ ap (λ (n : ℕ). drop n text) (omega arith) in
    ap (λ (xs : List ℕ). read_tape s (tape 0 place xs)) front
    ∙ here b rest place size token s next some blank found'
    (omega (arith, ap (length {A = ℕ}) is, length-drop place text, length-drop (place + 1) text)) taken
    ∙ ap (λ (xs : List ℕ). read_tape next (tape 0 (place + size) xs)) on
