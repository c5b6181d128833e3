-- A printed tree is read again.
use Rattle.std.proofs.Common.{◌≡◌, ℕ, suc, ◌+◌, ◌≤◌, List, [], ◌∷◌, ◌++◌, length, drop, Result, Ok, Err, refl, sym, ap}
use Rattle.std.proofs.Common.{subst, ◌∙◌, append_assoc, arith, length-append}
use Rattle.std.proofs.lemmas.List.{drop_at, append-nil}
use Rattle.td_lang.specs.declared.expr.Expr.{Expr}
use Rattle.td_lang.specs.declared.token.Token.{Token}
use Rattle.td_lang.specs.declared.machine.Stop.{Stop}
use Rattle.td_lang.specs.Machine.{MachineState, step, end_of}
use Rattle.td_lang.specs.Lexing.{token_at, HasSpelling, AllSpelled}
use Rattle.td_lang.specs.Printing.{bytes_of, put, put_all}
use Rattle.td_lang.specs.Reading.{run, start, read}
use Rattle.td_lang.specs.Reading as reading
use Rattle.td_lang.specs.Tape.{Tape, Spot, tape, read_tape, at_place}
use Rattle.td_lang.proofs.NextToken.{spot_here}
use Rattle.td_lang.proofs.PrintedTokens.{Spaced, token_again, solid, row_of}

abbrev pub finish : Result MachineState Stop → Result Expr Stop
finish r = reading.◌>>=◌ r (λ s. end_of s.stack s.state)

pub apart : (ts : List Token) → Spaced (row_of ts)
apart [] = tt
apart (t ∷ ts) = refl

placed_ok : (place : ℕ) (r : Result Expr Stop) (e : Expr) → r ≡ Ok e → at_place place r ≡ Ok e
placed_ok place (Ok x) e h = cc
placed_ok place (Err x) e h = absurd (cc)

-- a printed token stands on the tape
pub tape_token : (t : Token) (rest : List ℕ) (place : ℕ) → HasSpelling t → Spaced rest
    → tape 0 place (bytes_of t ++ rest) ≡ Spot place t (tape 0 (place + length (bytes_of t)) rest)
tape_token t rest place spelled with_space =
    let b = solid t spelled in
    let size = length (bytes_of t) in
    let long : size ≡ suc (length b.others) = ap (length {A = ℕ}) b.is in
    let parts : bytes_of t ++ rest ≡ b.first ∷ (b.others ++ rest) = ap (λ (x : List ℕ). x ++ rest) b.is in
    let found : token_at place (b.first ∷ (b.others ++ rest)) ≡ Ok (t, size) =
    subst (λ (x : List ℕ). token_at place x ≡ Ok (t, size)) parts (token_again t place rest spelled with_space) in
    let on : drop size (b.first ∷ (b.others ++ rest)) ≡ rest =
    ap (drop size) (sym parts) ∙ drop_at (bytes_of t) rest size refl in
    let within : size ≤ length (b.first ∷ (b.others ++ rest)) = omega (arith, long, length-append b.others rest) in
    ap (λ (x : List ℕ). tape 0 place x) parts
    ∙ spot_here place size b.first (b.others ++ rest) t b.no_blank (omega (arith, long)) within found
    ∙ ap (λ (x : List ℕ). Spot place t (tape 0 (place + size) x)) on

token_first : (t : Token) (rest : List ℕ) (place : ℕ) (s next : MachineState) → HasSpelling t → Spaced rest
    → at_place place (step s t) ≡ Ok next
    → read_tape s (tape 0 place (bytes_of t ++ rest)) ≡ read_tape next (tape 0 (place + length (bytes_of t)) rest)
token_first t rest place s next spelled with_space taken =
    ap (λ (x : Tape). read_tape s x) (tape_token t rest place spelled with_space) ∙ rw taken refl

stepped : (r : Result MachineState Stop) (t : Token) (ts : List Token) (s : MachineState) (place : ℕ) (e : Expr) → HasSpelling t
    → step s t ≡ r → finish (reading.◌>>=◌ r (λ next. run next ts)) ≡ Ok e
    → ((next : MachineState) (p : ℕ) → finish (run next ts) ≡ Ok e → read_tape next (tape 0 p (row_of ts)) ≡ Ok e)
    → read_tape s (tape 0 place (bytes_of t ++ row_of ts)) ≡ Ok e
stepped (Ok next) t ts s place e spelled is h more =
    token_first t (row_of ts) place s next spelled (apart ts) (rw is refl) ∙ more next (place + length (bytes_of t)) h
stepped (Err x) t ts s place e spelled is h more = absurd (cc)

pub row_reads : (ts : List Token) (s : MachineState) (place : ℕ) (e : Expr) → AllSpelled ts → finish (run s ts) ≡ Ok e
    → read_tape s (tape 0 place (row_of ts)) ≡ Ok e
row_reads [] s place e a h = placed_ok place (end_of s.stack s.state) e h
row_reads (t ∷ ts) s place e a h =
    stepped (step s t) t ts s (place + 1) e a.0 refl h (λ next p k. row_reads ts next p e a.1 k)

put_grows : (ts : List Token) (x : ℕ) (xs : List ℕ) → put_all (x ∷ xs) ts ≡ (x ∷ xs) ++ row_of ts
unfolding put
put_grows [] x xs = sym (append-nil (x ∷ xs))
put_grows (t ∷ ts) x xs = put_grows ts x (xs ++ 32 ∷ bytes_of t) ∙ append_assoc (x ∷ xs) (32 ∷ bytes_of t) (row_of ts)

pub put_first : (t : Token) (ts : List Token) → HasSpelling t → put_all [] (t ∷ ts) ≡ bytes_of t ++ row_of ts
unfolding put
put_first t ts s =
    let b = solid t s in
    ap (λ (x : List ℕ). put_all x ts) b.is ∙ put_grows ts b.first b.others
    ∙ ap (λ (x : List ℕ). x ++ row_of ts) (sym b.is)

pub put_reads : (ts : List Token) (e : Expr) → AllSpelled ts → read ts ≡ Ok e
    → read_tape start (tape 0 0 (put_all [] ts)) ≡ Ok e
put_reads [] e a h = absurd (cc)
put_reads (t ∷ ts) e a h =
    ap (λ (x : List ℕ). read_tape start (tape 0 0 x)) (put_first t ts a.0)
    ∙ stepped (step start t) t ts start 0 e a.0 refl h (λ next p k. row_reads ts next p e a.1 k)
