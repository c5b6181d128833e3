-- What is read of the other items is spelled so, and what is spelled so is read.
use Rattle.std.proofs.Common.{◌≡◌, ℕ, ℤ, zero, suc, ◌+◌, ◌-◌, ◌<◌, ◌≤◌, Bool, true, false, not, cond, eqb, get_or, List}
use Rattle.std.proofs.Common.{[], ◌∷◌, ◌++◌, length, take, drop, Result, Ok, Err, refl, sym, ap, subst, ◌∙◌}
use Rattle.std.proofs.Common.{append_assoc, arith, length-append}
use Rattle.std.proofs.lemmas.Bool.{eqb-true, eqb-false, ne_eqb, and_parts, not-true}
use Rattle.std.proofs.lemmas.List.{take_at, drop_at, get_or_at, take_more, take_all, nil_from_length}
use Rattle.std.specs.Int.{Width, cast_signed}
use Rattle.td_cdr.specs.declared.order.Order.{Order}
use Rattle.td_cdr.specs.declared.fault.CdrFault.{CdrFault}
use Rattle.td_cdr.specs.declared.fault.CdrFault.TheVariants.{BadString}
use Rattle.td_cdr.specs.Truth.{truth}
use Rattle.td_cdr.specs.Text.{text_of, has_nul, HasNoNul, ends_in_nul, front}
use Rattle.td_cdr.specs.Gap.{gap}
use Rattle.td_cdr.specs.Place.{At}
use Rattle.td_cdr.specs.Reading.{after, next_aligned, number, ◌>>=◌, number_at, signed_at, boolean_at, octets_at}
use Rattle.td_cdr.specs.Reading.{string_at}
use Rattle.td_cdr.specs.Spelling.{SpellsSigned, SpellsBoolean, SpellsString, IsText, closed, absent, SpellsThen, IsFlag}
use Rattle.td_cdr.specs.Spelling.{FoundSpelling, Joins}
use Rattle.td_cdr.specs.Items.{read_then}
use Rattle.td_cdr.specs.Joined.{bind_ok, ok_is, number-found, number-only, octets-found, octets-only, moved-place}
use Rattle.td_cdr.specs.Joined.{after-after, Found-then}

-- ---- signed numbers

signed-found : (width : Width) (size : ℕ) (a : At) (v : ℤ) (next : At) → signed_at width size a
    ≡ Ok (v, next) → FoundSpelling (SpellsSigned width size) a v next
unfolding signed_at
signed-found width size a v next e =
    let made : ℤ × At = (v, next) in
    let n = bind_ok (number_at size a) (λ n. Ok (cast_signed width n.0, n.1)) made e in
    let f = number-found size a n.0.0 n.0.1 n.1 in
    let here : FoundSpelling (SpellsSigned width size) a (cast_signed width n.0.0) n.0.1 = record {
      bytes = f.bytes;
      spelled = record { long = f.spelled.long; value = ap (cast_signed width) f.spelled.value };
      parts = f.parts;
      moved = f.moved;
    } in
    subst (λ (p : ℤ × At). FoundSpelling (SpellsSigned width size) a p.0 p.1)
    (ok_is (cast_signed width n.0.0, n.0.1) made n.2) here

signed-only : (width : Width) (size : ℕ) (a : At) (v : ℤ) (b rest : List ℕ)
    → SpellsSigned width size a.order (a.place - a.origin) v b → a.rest ≡ b ++ rest
    → signed_at width size a ≡ Ok (v, after (length b) a)
unfolding signed_at
signed-only width size a v b rest s e =
    let n = number a.order size (drop (gap size (a.place - a.origin)) b) in
    let one = number-only size a n b rest (record { long = s.long; value = refl }) e in
    rw (one, s.value) refl

pub signed-joins : (width : Width) (size : ℕ)
    → Joins (SpellsSigned width size) (signed_at width size)
signed-joins width size = record {
  found = λ a v next _ e. signed-found width size a v next e;
  only = λ a v b rest _ s e. signed-only width size a v b rest s e;
}

-- ---- booleans

pub truth-found : (place n : ℕ) (b : Bool) → truth place n ≡ Ok b → IsFlag b n
truth-found place zero b e = subst (λ (x : Bool). IsFlag x 0) (ok_is false b e) refl
truth-found place (suc zero) b e = subst (λ (x : Bool). IsFlag x 1) (ok_is true b e) refl
truth-found place (suc (suc n)) b e = absurd cc

pub truth-only : (place n : ℕ) (b : Bool) → IsFlag b n → truth place n ≡ Ok b
truth-only place n false content = rw content refl
truth-only place n true content = rw content refl

boolean-found : (a : At) (v : Bool) (next : At) → boolean_at a ≡ Ok (v, next)
    → FoundSpelling SpellsBoolean a v next
unfolding boolean_at
boolean-found a v next e =
    let made : Bool × At = (v, next) in
    let n = bind_ok (number_at 1 a) (λ n. truth a.place n.0 >>= λ b. Ok (b, n.1)) made e in
    let t = bind_ok (truth a.place n.0.0) (λ b. Ok (b, n.0.1)) made n.2 in
    let f = number-found 1 a n.0.0 n.0.1 n.1 in
    let here : FoundSpelling SpellsBoolean a t.0 n.0.1 = record {
      bytes = f.bytes;
      spelled = record {
        flag = n.0.0;
        content = truth-found a.place n.0.0 t.0 t.1;
        octet = f.spelled;
      };
      parts = f.parts;
      moved = f.moved;
    } in
    subst (λ (p : Bool × At). FoundSpelling SpellsBoolean a p.0 p.1) (ok_is (t.0, n.0.1) made t.2)
    here

boolean-only : (a : At) (v : Bool) (b rest : List ℕ)
    → SpellsBoolean a.order (a.place - a.origin) v b
    → a.rest ≡ b ++ rest → boolean_at a ≡ Ok (v, after (length b) a)
unfolding boolean_at
boolean-only a v b rest s e =
    let one = number-only 1 a s.flag b rest s.octet e in
    let two = truth-only a.place s.flag v s.content in
    rw (one, two) refl

pub boolean-joins : Joins SpellsBoolean boolean_at
boolean-joins = record {
  found = λ a v next _ e. boolean-found a v next e;
  only = λ a v b rest _ s e. boolean-only a v b rest s e;
}

-- ---- strings

-- a text and a NUL end in a NUL
pub ends_in_nul-closed : (text : List ℕ) → HasNoNul text → ends_in_nul (text ++ 0 ∷ []) ≡ true
ends_in_nul-closed text free =
    let long : length (text ++ 0 ∷ []) - 1
    ≡ length text = omega (arith, length-append text (0 ∷ [])) in
    let last : get_or (text ++ 0 ∷ []) (length text) 0
    ≡ 0 = get_or_at text 0 [] 0 (length text) refl in
    let before : take (length text) (text ++ 0 ∷ [])
    ≡ text = take_at text (0 ∷ []) (length text) refl in
    rw (long, last, before, free) refl

pub text_of-closed : (place : ℕ) (text : List ℕ) → HasNoNul text → text_of place (text ++ 0 ∷ [])
    ≡ Ok text
text_of-closed place text free =
    let long : length (text ++ 0 ∷ []) - 1
    ≡ length text = omega (arith, length-append text (0 ∷ [])) in
    let some : eqb (length (text ++ 0 ∷ [])) 0 ≡ false =
    ne_eqb _ _ (λ e. absurd (omega (arith, length-append text (0 ∷ [])))) in
    let before : take (length text) (text ++ 0 ∷ [])
    ≡ text = take_at text (0 ∷ []) (length text) refl in
    rw (some, ends_in_nul-closed text free, long, before) refl

-- bytes that end in a NUL are those before it and the NUL
pub closed-ends_in_nul : (kept : List ℕ) → 0 < length kept → ends_in_nul kept ≡ true
    → HasNoNul (front kept) × (kept ≡ front kept ++ 0 ∷ [])
closed-ends_in_nul kept some e =
    let both = and_parts (eqb (get_or kept (length kept - 1) 0) 0) (not (has_nul (front kept))) e in
    let last : get_or kept (length kept - 1) 0 ≡ 0 = eqb-true _ _ both.0 in
    let split : take (length kept - 1 + 1) kept ≡ take (length kept - 1) kept
    ++ get_or kept (length kept - 1) 0 ∷ [] =
    take_more kept (length kept - 1) 0 (omega arith) in
    let whole : take (length kept - 1 + 1) kept
    ≡ kept = take_all (length kept - 1 + 1) kept (omega arith) in (
      not-true (has_nul (front kept)) both.1,
      sym whole ∙ split
          ∙ ap (λ (x : ℕ). front kept ++ x ∷ []) last,
    )

text-found-some : (place : ℕ) (kept text : List ℕ) (t : Bool) → t ≡ ends_in_nul kept
    → 0 < length kept
    → cond t (Ok (front kept)) (Err (BadString place)) ≡ Ok text → IsText text kept
text-found-some place kept text true is some e =
    let both = closed-ends_in_nul kept some (sym is) in
    subst (λ (x : List ℕ). IsText x kept) (ok_is (front kept) text e) (closed both.0 both.1)
text-found-some place kept text false is some e = absurd cc

text-found-at : (place : ℕ) (kept text : List ℕ) (empty : Bool) → empty ≡ eqb (length kept) 0
    → cond empty (Ok []) (cond (ends_in_nul kept) (Ok (front kept)) (Err (BadString place)))
    ≡ Ok text → IsText text kept
text-found-at place kept text true is e = absent (sym (ok_is [] text e))
    (nil_from_length kept (eqb-true _ _ (sym is)))
text-found-at place kept text false is e =
    let some : 0 < length kept = omega (arith, eqb-false _ _ (sym is)) in
    text-found-some place kept text (ends_in_nul kept) refl some e

pub text-found : (place : ℕ) (kept text : List ℕ) → text_of place kept ≡ Ok text → IsText text kept
text-found place kept text e = text-found-at place kept text (eqb (length kept) 0) refl e

pub text-only : (place : ℕ) (kept text : List ℕ) → IsText text kept → text_of place kept ≡ Ok text
text-only place kept text (closed free is) = rw is (text_of-closed place text free)
text-only place kept text (absent none is) = rw (is, none) refl

string-found : (a : At) (v : List ℕ) (next : At) → a.origin ≤ a.place → string_at a ≡ Ok (v, next)
    → FoundSpelling SpellsString a v next
unfolding string_at
string-found a v next h e =
    let made : List ℕ × At = (v, next) in
    let o = bind_ok (octets_at a)
    (λ bytes. text_of (next_aligned 4 a) bytes.0 >>= λ text. Ok (text, bytes.1)) made e in
    let t = bind_ok (text_of (next_aligned 4 a) o.0.0) (λ text. Ok (text, o.0.1)) made o.2 in
    let f = octets-found a o.0.0 o.0.1 h o.1 in
    let here : FoundSpelling SpellsString a t.0 o.0.1 = record {
      bytes = f.bytes;
      spelled = record {
        kept = o.0.0;
        text = text-found (next_aligned 4 a) o.0.0 t.0 t.1;
        octets = f.spelled;
      };
      parts = f.parts;
      moved = f.moved;
    } in
    subst (λ (p : List ℕ × At). FoundSpelling SpellsString a p.0 p.1) (ok_is (t.0, o.0.1) made t.2)
    here

string-only : (a : At) (v b rest : List ℕ) → a.origin ≤ a.place
    → SpellsString a.order (a.place - a.origin) v b
    → a.rest ≡ b ++ rest → string_at a ≡ Ok (v, after (length b) a)
unfolding string_at
string-only a v b rest h s e =
    let one = octets-only a s.kept b rest h s.octets e in
    let two = text-only (next_aligned 4 a) s.kept v s.text in
    rw (one, two) refl

pub string-joins : Joins SpellsString string_at
string-joins = record { found = string-found; only = string-only }

-- ---- one item after another

module _ {X Y : Type 0} (first : Order → ℕ → X → List ℕ → Type 0)
    (second : X → Order → ℕ → Y → List ℕ → Type 0) (read_first : At → Result (X × At) CdrFault)
    (read_second : X → At → Result (Y × At) CdrFault) where
  then-found : Joins first read_first → ((x : X) → Joins (second x) (read_second x))
      → (a : At) (v : X × Y) (next : At)
      → a.origin ≤ a.place → read_then read_first read_second a ≡ Ok (v, next)
      → FoundSpelling (SpellsThen first second) a v next
  then-found j k a v next h e =
      let made : (X × Y) × At = (v, next) in
      let x = bind_ok (read_first a) (λ v. read_second v.0 v.1 >>= λ w. Ok ((v.0, w.0), w.1))
      made e in
      let y = bind_ok (read_second x.0.0 x.0.1) (λ w. Ok ((x.0.0, w.0), w.1)) made x.2 in
      let f = j.found a x.0.0 x.0.1 h x.1 in
      let on : x.0.1.origin ≤ x.0.1.place = rw f.moved (omega arith) in
      let g = (k x.0.0).found x.0.1 y.0.0 y.0.1 on y.1 in
      let here = Found-then first second a x.0.1 y.0.1 x.0.0 y.0.0 h f g in
      subst (λ (p : (X × Y) × At). FoundSpelling (SpellsThen first second) a p.0 p.1)
      (ok_is ((x.0.0, y.0.0), y.0.1) made y.2) here

  then-only : Joins first read_first → ((x : X) → Joins (second x) (read_second x))
      → (a : At) (v : X × Y) (b rest : List ℕ) → a.origin ≤ a.place
      → SpellsThen first second a.order (a.place - a.origin) v b → a.rest ≡ b ++ rest
      → read_then read_first read_second a ≡ Ok (v, after (length b) a)
  then-only j k a v b rest h s e =
      let next = after (length s.front) a in
      let whole : a.rest ≡ s.front ++ (s.back ++ rest) =
      e ∙ ap (λ (x : List ℕ). x ++ rest) s.parts ∙ append_assoc s.front s.back rest in
      let one : read_first a ≡ Ok (v.0, next) = j.only a v.0 s.front (s.back ++ rest)
      h s.spelled whole in
      let left : next.rest ≡ s.back
      ++ rest = rw whole (drop_at s.front (s.back ++ rest) (length s.front) refl) in
      let spelled : second v.0 next.order (next.place - next.origin) v.1 s.back =
      rw (moved-place (length s.front) a h) s.then_spelled in
      let two : read_second v.0 next ≡ Ok (v.1, after (length s.back) next) =
      (k v.0).only next v.1 s.back rest (omega arith) spelled left in
      let long : length s.front + length s.back ≡ length b =
      sym (ap (length {A = ℕ}) s.parts ∙ length-append s.front s.back) in
      rw (one, two, after-after (length s.front) (length s.back) a, long) refl

  pub then-joins : Joins first read_first → ((x : X) → Joins (second x) (read_second x))
      → Joins (SpellsThen first second) (read_then read_first read_second)
  then-joins j k = record { found = then-found j k; only = then-only j k }
