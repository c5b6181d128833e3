-- The next token of a text.
use Rattle.std.proofs.Common.{◌≡◌, ℕ, suc, ◌+◌, ◌-◌, ◌<◌, ◌≤◌, Bool, true, false, List, [], ◌∷◌, length, drop, Ok, Err}
use Rattle.std.proofs.Common.{refl, sym, ap, subst, ◌∙◌, arith}
use Rattle.std.proofs.lemmas.List.{drop-drop, drop_all}
use Rattle.td_lang.specs.declared.token.Token.{Token}
use Rattle.td_lang.specs.declared.fault.LangFault.{LangFault}
use Rattle.td_lang.specs.Lexing.{is_blank, lead, token_at, GivesFault}
use Rattle.td_lang.specs.Preferences.{LooksAhead}
use Rattle.td_lang.specs.declared.fault.LangFault.TheVariants as fault
use Rattle.td_lang.specs.Tape.{Tape, Over, Broken, Spot, tape}
use Rattle.td_lang.proofs.ReaderTurn.{tape_skips}

-- the text behind its blanks
abbrev solid_part : List ℕ → List ℕ
solid_part bs = drop (lead is_blank bs) bs

abbrev Skips : ℕ → List ℕ → Type 0
Skips place bs = tape 0 place bs ≡ tape 0 (place + lead is_blank bs) (solid_part bs)

skip_if : (t : Bool) (b : ℕ) (bs : List ℕ) (place : ℕ) → is_blank b ≡ t → Skips (place + 1) bs → Skips place (b ∷ bs)
skip_if true b bs place is more =
    let n = lead is_blank bs in
    let size : lead is_blank (b ∷ bs) ≡ suc n = rw is (omega arith) in
    let here : tape 0 place (b ∷ bs) ≡ tape 0 (place + 1) bs = rw is refl in
    here ∙ more ∙ ap (λ (p : ℕ). tape 0 p (drop n bs)) (omega arith)
    ∙ ap (λ (k : ℕ). tape 0 (place + k) (drop k (b ∷ bs))) (sym size)
skip_if false b bs place is more =
    let none : lead is_blank (b ∷ bs) ≡ 0 = rw is refl in
    ap (λ (p : ℕ). tape 0 p (b ∷ bs)) (omega arith) ∙ ap (λ (k : ℕ). tape 0 (place + k) (drop k (b ∷ bs))) (sym none)

-- blanks are passed over
pub skips_blanks : (bs : List ℕ) (place : ℕ) → Skips place bs
skips_blanks [] place = ap (λ (p : ℕ). tape 0 p []) (omega arith)
skips_blanks (b ∷ bs) place = skip_if (is_blank b) b bs place refl (skips_blanks bs (place + 1))

-- what stands behind the blanks, where anything does
pub record Lands (bs : List ℕ) : Type 0 where
  pub first : ℕ
  pub others : List ℕ
  pub is : solid_part bs ≡ first ∷ others
  pub no_blank : is_blank first ≡ false

lands_if : (t : Bool) (b : ℕ) (bs : List ℕ) → is_blank b ≡ t → lead is_blank (b ∷ bs) < length (b ∷ bs)
    → (lead is_blank bs < length bs → Lands bs) → Lands (b ∷ bs)
lands_if true b bs is h more =
    let size : lead is_blank (b ∷ bs) ≡ suc (lead is_blank bs) = rw is (omega arith) in
    let l = more (omega (arith, size, h)) in
    let onward : solid_part (b ∷ bs) ≡ solid_part bs = ap (λ (k : ℕ). drop k (b ∷ bs)) size in
    record {
      first = l.first;
      others = l.others;
      is = ◌∙◌ {b = solid_part bs} {c = l.first ∷ l.others} onward l.is;
      no_blank = l.no_blank;
    }
lands_if false b bs is h more =
    let none : lead is_blank (b ∷ bs) ≡ 0 = rw is refl in
    record { first = b; others = bs; is = ap (λ (k : ℕ). drop k (b ∷ bs)) none; no_blank = is }

pub lands : (bs : List ℕ) → lead is_blank bs < length bs → Lands bs
lands [] h = absurd (omega arith)
lands (b ∷ bs) h = lands_if (is_blank b) b bs refl h (λ k. lands bs k)

pub none_ahead : (text rest : List ℕ) (from blanks : ℕ) → rest ≡ drop from text → blanks ≡ lead is_blank rest
    → blanks ≡ length rest → (place : ℕ) × (tape 0 from (drop from text) ≡ Over place)
none_ahead text rest from blanks is count all =
    let whole : drop (lead is_blank rest) rest ≡ [] =
    nothing_left rest (lead is_blank rest) (omega (arith, count, all)) in (
      from + lead is_blank rest,
      ap (λ (x : List ℕ). tape 0 from x) (sym is) ∙ skips_blanks rest from
          ∙ ap (λ (x : List ℕ). tape 0 (from + lead is_blank rest) x) whole,
    )
  where
    nothing_left : (xs : List ℕ) (n : ℕ) → length xs ≤ n → drop n xs ≡ []
    nothing_left xs n h = drop_all n xs h

pub spot_here : (place size : ℕ) (b : ℕ) (others : List ℕ) (t : Token) → is_blank b ≡ false → 0 < size
    → size ≤ length (b ∷ others) → token_at place (b ∷ others) ≡ Ok (t, size)
    → tape 0 place (b ∷ others) ≡ Spot place t (tape 0 (place + size) (drop size (b ∷ others)))
spot_here place size b others t blank some within found =
    let size_is : suc (size - 1) ≡ size = omega arith in
    let back : drop (size - 1) others ≡ drop size (b ∷ others) = ap (λ (k : ℕ). drop k (b ∷ others)) size_is in
    rw blank (rw found (ap (λ (x : Tape). Spot place t x)
    (tape_skips (size - 1) (place + 1) others (omega arith)
    ∙ ap (λ (p : ℕ). tape 0 p (drop (size - 1) others)) (omega arith)
    ∙ ap (λ (x : List ℕ). tape 0 (place + size) x) back)))

broken_here : (place : ℕ) (b : ℕ) (others : List ℕ) (f : LangFault) → is_blank b ≡ false
    → token_at place (b ∷ others) ≡ Err f → tape 0 place (b ∷ others) ≡ Broken f
broken_here place b others f blank found = rw blank (rw found refl)

-- where a token stands behind the blanks
pub token_ahead : (text rest solid : List ℕ) (from blanks place size : ℕ) (t : Token) → rest ≡ drop from text
    → blanks ≡ lead is_blank rest → blanks < length rest → solid ≡ drop blanks rest → place ≡ from + blanks
    → token_at place solid ≡ Ok (t, size) → 0 < size → size ≤ length solid
    → tape 0 from (drop from text) ≡ Spot place t (tape 0 (place + size) (drop (place + size) text))
token_ahead text rest solid from blanks place size t is count some part at found one within =
    let l = lands rest (omega (arith, count, some)) in
    let solid_is : solid ≡ l.first ∷ l.others = part ∙ ap (λ (k : ℕ). drop k rest) count ∙ l.is in
    let start : tape 0 from (drop from text) ≡ tape 0 place solid =
    ap (λ (x : List ℕ). tape 0 from x) (sym is) ∙ skips_blanks rest from
    ∙ ap (λ (k : ℕ). tape 0 (from + k) (drop k rest)) (sym count)
    ∙ ap (λ (x : List ℕ). tape 0 (from + blanks) x) (sym part) ∙ ap (λ (p : ℕ). tape 0 p solid) (sym at) in
    let token : token_at place (l.first ∷ l.others) ≡ Ok (t, size) =
    subst (λ (x : List ℕ). token_at place x ≡ Ok (t, size)) solid_is found in
    let long : length solid ≡ length (l.first ∷ l.others) = ap length solid_is in
    let total : from + (blanks + size) ≡ place + size = omega (arith, at) in
    let back : drop size solid ≡ drop (place + size) text =
    ap (drop size) part ∙ drop-drop size blanks rest ∙ ap (drop (blanks + size)) is
    ∙ drop-drop (blanks + size) from text ∙ ap (λ (n : ℕ). drop n text) total in
    start ∙ ap (λ (x : List ℕ). tape 0 place x) solid_is
    ∙ spot_here place size l.first l.others t l.no_blank one (omega (arith, long)) token
    ∙ ap (λ (x : List ℕ). Spot place t (tape 0 (place + size) x)) (ap (drop size) (sym solid_is) ∙ back)

pub broken_ahead : (text rest solid : List ℕ) (from blanks place : ℕ) (f : LangFault) → rest ≡ drop from text
    → blanks ≡ lead is_blank rest → blanks < length rest → solid ≡ drop blanks rest → place ≡ from + blanks
    → token_at place solid ≡ Err f → tape 0 from (drop from text) ≡ Broken f
broken_ahead text rest solid from blanks place f is count some part at found =
    let l = lands rest (omega (arith, count, some)) in
    let solid_is : solid ≡ l.first ∷ l.others = part ∙ ap (λ (k : ℕ). drop k rest) count ∙ l.is in
    let start : tape 0 from (drop from text) ≡ tape 0 place solid =
    ap (λ (x : List ℕ). tape 0 from x) (sym is) ∙ skips_blanks rest from
    ∙ ap (λ (k : ℕ). tape 0 (from + k) (drop k rest)) (sym count)
    ∙ ap (λ (x : List ℕ). tape 0 (from + blanks) x) (sym part) ∙ ap (λ (p : ℕ). tape 0 p solid) (sym at) in
    let token : token_at place (l.first ∷ l.others) ≡ Err f =
    subst (λ (x : List ℕ). token_at place x ≡ Err f) solid_is found in
    start ∙ ap (λ (x : List ℕ). tape 0 place x) solid_is ∙ broken_here place l.first l.others f l.no_blank token

-- where no token stands behind the blanks
pub fault_ahead : (text rest solid : List ℕ) (from blanks place : ℕ) (f : LangFault) → rest ≡ drop from text
    → blanks ≡ lead is_blank rest → blanks < length rest → solid ≡ drop blanks rest → place ≡ from + blanks
    → GivesFault (λ (r : Token × ℕ). r) (Err f) (token_at place solid)
    → LooksAhead text (tape 0 from (drop from text)) (Err f)
fault_ahead text rest solid from blanks place fault.Memory is count some part at given = tt
fault_ahead text rest solid from blanks place fault.TooLong is count some part at given =
    broken_ahead text rest solid from blanks place fault.TooLong is count some part at given
fault_ahead text rest solid from blanks place (fault.Syntax p) is count some part at given =
    broken_ahead text rest solid from blanks place (fault.Syntax p) is count some part at given
fault_ahead text rest solid from blanks place (fault.Float p) is count some part at given =
    broken_ahead text rest solid from blanks place (fault.Float p) is count some part at given
fault_ahead text rest solid from blanks place (fault.Depth p) is count some part at given =
    broken_ahead text rest solid from blanks place (fault.Depth p) is count some part at given
