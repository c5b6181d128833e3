-- A reading is refused exactly where an item is at fault.
use Rattle.std.proofs.Common.{◌≡◌, ℕ, zero, suc, ◌+◌, ◌-◌, ◌<◌, ◌≤◌, Bool, true, false, cond, ltb, eqb, List, [], ◌∷◌}
use Rattle.std.proofs.Common.{length, take, drop, Result, Ok, Err, refl, sym, ap, ◌∙◌, arith, length-append, ◌⊎◌, inl}
use Rattle.std.proofs.Common.{inr}
use Rattle.std.proofs.lemmas.Bool.{ltb-true, lt-ltb, eqb-false, ne_eqb}
use Rattle.std.specs.Int.{Width, cast_signed}
use Rattle.td_cdr.specs.declared.order.Order.{Order}
use Rattle.td_cdr.specs.declared.fault.CdrFault.{CdrFault}
use Rattle.td_cdr.specs.declared.fault.CdrFault.TheVariants.{Short, BadBoolean, BadString, TooLong}
use Rattle.td_cdr.specs.Truth.{truth, order_of}
use Rattle.td_cdr.specs.Text.{text_of, ends_in_nul, front}
use Rattle.td_cdr.specs.Place.{At}
use Rattle.td_cdr.specs.Reading.{after, padding, next_aligned, number, ◌>>=◌, cell_at, number_at, signed_at, boolean_at}
use Rattle.td_cdr.specs.Reading.{octets_at, string_at, inside, encapsulation_at}
use Rattle.td_cdr.specs.Spelling.{SpellsNumber, SpellsOctets, FoundSpelling, Joins}
use Rattle.td_cdr.specs.Format.{as_fault}
use Rattle.td_cdr.specs.LawfulFormats.{fault_ok}
use Rattle.td_cdr.specs.Faults.{NumberFault, BooleanFault, OctetsFault, StringFault, IsClosed, OuterFault, WithinFault}
use Rattle.td_cdr.specs.Faults.{ThenFault, order_place, within_at, Refuses}
use Rattle.td_cdr.specs.Joined.{bind_ok, ok_is, number-found, number-joins, octets-found, octets-joins}
use Rattle.td_cdr.specs.Found.{text_of-closed, closed-ends_in_nul, truth-found, truth-only}

abbrev refusal : (A : Type 0) → CdrFault → Result A CdrFault
refusal A f = Err f

err_is : (A : Type 0) (x y : CdrFault) → refusal A x ≡ refusal A y → x ≡ y
err_is A x y e = cc

pub bind_err : {F A B : Type 0} (r : Result A F) (f : A → Result B F) (d : F) → (r >>= f) ≡ Err d
    → (r ≡ Err d) ⊎ ((x : A) × (r ≡ Ok x) × (f x ≡ Err d))
bind_err (Ok x) f d e = inr (x, refl, e)
bind_err (Err c) f d e = inl cc

pub guard_err : {A : Type 0} (b : Bool) (d f : CdrFault) (x : A) → cond b (Err d) (Ok x) ≡ Err f
    → (b ≡ true) × (f ≡ d)
guard_err true d f x e = (refl, cc)
guard_err false d f x e = absurd cc

-- a fault of an outer layer is that of a cause
pub outer_cause : {E F A : Type 0} (c : E → F) (r : Result A E) (f : F) → as_fault c r ≡ Err f
    → (e : E) × (r ≡ Err e) × (f ≡ c e)
outer_cause c (Ok x) f e = absurd cc
outer_cause c (Err d) f e = (d, refl, cc)

-- what was found is what is read
pub read_again : {F Y : Type 0} (spells : Order → ℕ → Y → List ℕ → Type 0)
    (reading : At → Result (Y × At) F)
    → Joins spells reading → (a : At) (v : Y) (next : At) → a.origin ≤ a.place
    → FoundSpelling spells a v next → reading a ≡ Ok (v, next)
read_again {F = F} {Y = Y} spells reading j a v next h f =
    let made : At → Result (Y × At) F = λ x. Ok (v, x) in
    j.only a v f.bytes next.rest h f.spelled f.parts ∙ ap made (sym f.moved)

-- ---- numbers

number-content : (size : ℕ) (a : At) (f : CdrFault) → number_at size a ≡ Err f
    → NumberFault size a f
unfolding number_at cell_at
number-content size a f e =
    let p = padding size a in
    elim (bind_err (cell_at size a) (λ c. Ok (number a.order size c.0, c.1)) f e) [
      | inl r ↦ let g =
          guard_err (ltb (length a.rest) (p + size)) (Short (next_aligned size a)) f
          (take size (drop p a.rest), after (p + size) a) r in
          record { past = ltb-true _ _ g.0; fault = g.1 }
      | inr r ↦ absurd (cc r.2)
    ]

number-refused : (size : ℕ) (a : At) (f : CdrFault) → NumberFault size a f → number_at size a
    ≡ Err f
unfolding number_at cell_at
number-refused size a f n =
    let past : ltb (length a.rest) (padding size a + size) ≡ true = lt-ltb _ _ n.past in
    rw (past, n.fault) refl

pub number-refuses : (size : ℕ) → Refuses (NumberFault size) (number_at size)
number-refuses size = record {
  content = λ a f _ e. number-content size a f e;
  only = λ a f _ n. number-refused size a f n;
}

pub signed-refuses : (width : Width) (size : ℕ) → Refuses (NumberFault size) (signed_at width size)
unfolding signed_at
signed-refuses width size = record {
  content =
      λ a f _ e. elim (bind_err (number_at size a) (λ n. Ok (cast_signed width n.0, n.1)) f e)
      [ inl r ↦ number-content size a f r | inr r ↦ absurd (cc r.2) ];
  only = λ a f _ n. rw (number-refused size a f n) refl;
}

-- ---- booleans

pub truth-content : (place n : ℕ) (f : CdrFault) → truth place n ≡ Err f → (1 < n)
    × (f ≡ BadBoolean place)
truth-content place zero f e = absurd cc
truth-content place (suc zero) f e = absurd cc
truth-content place (suc (suc n)) f e = (omega arith, cc)

pub truth-refused : (place n : ℕ) → 1 < n → truth place n ≡ Err (BadBoolean place)
truth-refused place zero lt = absurd (omega arith)
truth-refused place (suc zero) lt = absurd (omega arith)
truth-refused place (suc (suc n)) lt = refl

boolean-content : (a : At) (f : CdrFault) → boolean_at a ≡ Err f → BooleanFault a f
unfolding boolean_at
boolean-content a f e =
    elim (bind_err (number_at 1 a) (λ n. truth a.place n.0 >>= λ b. Ok (b, n.1)) f e) [
      | inl r ↦ BooleanFault.cut (number-content 1 a f r)
      | inr r ↦ elim (bind_err (truth a.place r.0.0) (λ b. Ok (b, r.0.1)) f r.2) [
        | inl t ↦ let g = truth-content a.place r.0.0 f t in
            BooleanFault.above r.0.0 r.0.1 (number-found 1 a r.0.0 r.0.1 r.1) g.0 g.1
        | inr t ↦ absurd (cc t.2)
      ]
    ]

boolean-refused : (a : At) (f : CdrFault) → a.origin ≤ a.place → BooleanFault a f
    → boolean_at a ≡ Err f
unfolding boolean_at
boolean-refused a f h (BooleanFault.cut n) = rw (number-refused 1 a f n) refl
boolean-refused a f h (BooleanFault.above octet next found lt fault) =
    let one = read_again (SpellsNumber 1) (number_at 1) (number-joins 1) a octet next h found in
    rw (one, truth-refused a.place octet lt, fault) refl

pub boolean-refuses : Refuses BooleanFault boolean_at
boolean-refuses = record { content = λ a f _ e. boolean-content a f e; only = boolean-refused }

-- ---- octets

octets-content : (a : At) (f : CdrFault) → octets_at a ≡ Err f → OctetsFault a f
unfolding octets_at
octets-content a f e =
    elim (bind_err (number_at 4 a)
    (λ n. cond (ltb (length n.1.rest) n.0) (Err (TooLong (next_aligned 4 a)))
    (Ok (take n.0 n.1.rest, after n.0 n.1))) f e) [
      | inl r ↦ OctetsFault.cut (number-content 4 a f r)
      | inr r ↦ let g =
          guard_err (ltb (length r.0.1.rest) r.0.0)
          (TooLong (next_aligned 4 a)) f (take r.0.0 r.0.1.rest, after r.0.0 r.0.1) r.2 in
          OctetsFault.above r.0.0 r.0.1 (number-found 4 a r.0.0 r.0.1 r.1) (ltb-true _ _ g.0) g.1
    ]

octets-refused : (a : At) (f : CdrFault) → a.origin ≤ a.place → OctetsFault a f
    → octets_at a ≡ Err f
unfolding octets_at
octets-refused a f h (OctetsFault.cut n) = rw (number-refused 4 a f n) refl
octets-refused a f h (OctetsFault.above count next found lt fault) =
    let one = read_again (SpellsNumber 4) (number_at 4) (number-joins 4) a count next h found in
    let past : ltb (length next.rest) count ≡ true = lt-ltb _ _ lt in
    rw (one, past, fault) refl

pub octets-refuses : Refuses OctetsFault octets_at
octets-refuses = record { content = λ a f _ e. octets-content a f e; only = octets-refused }

-- ---- strings

text_of-content-some : (place : ℕ) (kept : List ℕ) (f : CdrFault) (t : Bool) → t ≡ ends_in_nul kept
    → cond t (Ok (front kept)) (Err (BadString place)) ≡ Err f → (ends_in_nul kept ≡ false)
    × (f ≡ BadString place)
text_of-content-some place kept f true is e = absurd cc
text_of-content-some place kept f false is e = (sym is, cc)

text_of-content-at : (place : ℕ) (kept : List ℕ) (f : CdrFault) (empty : Bool)
    → empty ≡ eqb (length kept) 0
    → cond empty (Ok []) (cond (ends_in_nul kept) (Ok (front kept)) (Err (BadString place))) ≡ Err f
    → (0 < length kept) × (ends_in_nul kept ≡ false) × (f ≡ BadString place)
text_of-content-at place kept f true is e = absurd cc
text_of-content-at place kept f false is e =
    let g = text_of-content-some place kept f (ends_in_nul kept) refl e in
    (omega (arith, eqb-false _ _ (sym is)), g.0, g.1)

text_of-content : (place : ℕ) (kept : List ℕ) (f : CdrFault) → text_of place kept ≡ Err f
    → (0 < length kept) × ¬ (IsClosed kept) × (f ≡ BadString place)
text_of-content place kept f e =
    let g = text_of-content-at place kept f (eqb (length kept) 0) refl e in
    let open_ended : ¬ (IsClosed kept) =
    λ c. absurd (cc (text_of-closed place c.text c.free, ap (text_of place) c.ends, e)) in
    (g.0, open_ended, g.2)

text_of-refused-at : (place : ℕ) (kept : List ℕ) → 0 < length kept → ¬ (IsClosed kept) → (t : Bool)
    → t ≡ ends_in_nul kept → cond t (Ok (front kept)) (Err (BadString place))
    ≡ Err (BadString place)
text_of-refused-at place kept some not_closed true is =
    let c = closed-ends_in_nul kept some (sym is) in
    absurd (not_closed (record { text = front kept; free = c.0; ends = c.1 }))
text_of-refused-at place kept some not_closed false is = refl

text_of-refused : (place : ℕ) (kept : List ℕ) → 0 < length kept → ¬ (IsClosed kept)
    → text_of place kept ≡ Err (BadString place)
text_of-refused place kept some not_closed =
    let nonempty : eqb (length kept) 0 ≡ false = ne_eqb _ _ (λ e. absurd (omega arith)) in
    rw nonempty (text_of-refused-at place kept some not_closed (ends_in_nul kept) refl)

string-content : (a : At) (f : CdrFault) → a.origin ≤ a.place → string_at a ≡ Err f
    → StringFault a f
unfolding string_at
string-content a f h e =
    elim (bind_err (octets_at a)
    (λ bytes. text_of (next_aligned 4 a) bytes.0 >>= λ text. Ok (text, bytes.1)) f e) [
      | inl r ↦ StringFault.octets (octets-content a f r)
      | inr r ↦ elim (bind_err (text_of (next_aligned 4 a) r.0.0) (λ text. Ok (text, r.0.1)) f r.2) [
        | inl t ↦ let g = text_of-content (next_aligned 4 a) r.0.0 f t in
            StringFault.unclosed r.0.0 r.0.1 (octets-found a r.0.0 r.0.1 h r.1) g.0 g.1 g.2
        | inr t ↦ absurd (cc t.2)
      ]
    ]

string-refused : (a : At) (f : CdrFault) → a.origin ≤ a.place → StringFault a f
    → string_at a ≡ Err f
unfolding string_at
string-refused a f h (StringFault.octets o) = rw (octets-refused a f h o) refl
string-refused a f h (StringFault.unclosed kept next found some not_closed fault) =
    let one = read_again SpellsOctets octets_at octets-joins a kept next h found in
    rw (one, text_of-refused (next_aligned 4 a) kept some not_closed, fault) refl

pub string-refuses : Refuses StringFault string_at
string-refuses = record { content = string-content; only = string-refused }

-- ---- faults of an outer layer, and values seen as others

pub outer-refuses : {E F Y : Type 0} (c : E → F) (faults : At → E → Type 0)
    (reading : At → Result (Y × At) E)
    → Refuses faults reading → Refuses (OuterFault c faults) (λ a. as_fault c (reading a))
outer-refuses c faults reading r = record {
  content =
      λ a f h e. let t = outer_cause c (reading a) f e in
      record { cause = t.0; holds = r.content a t.0 h t.1; fault = t.2 };
  only = λ a f h o. rw (r.only a o.cause h o.holds, o.fault) refl;
}

pub mapped-refuses : {F X Y : Type 0} (faults : At → F → Type 0) (reading : At → Result (X × At) F)
    (map : X × At → Y × At)
    → Refuses faults reading → Refuses faults (λ a. reading a >>= λ x. Ok (map x))
mapped-refuses faults reading map r = record {
  content =
      λ a f h e. elim (bind_err (reading a) (λ x. Ok (map x)) f e)
      [ inl t ↦ r.content a f h t | inr t ↦ absurd (cc t.2) ];
  only = λ a f h d. rw (r.only a f h d) refl;
}

-- the same reading, said in another way
pub same-refuses : {F Y : Type 0} (faults : At → F → Type 0)
    (reading other : At → Result (Y × At) F)
    → ((a : At) → reading a ≡ other a) → Refuses faults reading → Refuses faults other
same-refuses faults reading other same r = record {
  content = λ a f h e. r.content a f h (same a ∙ e);
  only = λ a f h d. sym (same a) ∙ r.only a f h d;
}

-- ---- one item after another

pub moved-on : {X : Type 0} (spells : Order → ℕ → X → List ℕ → Type 0) (a : At) (v : X) (next : At)
    → a.origin ≤ a.place → FoundSpelling spells a v next → next.origin ≤ next.place
moved-on spells a v next h f = rw f.moved (omega arith)

chain-refused : {F X Y : Type 0} (spells : Order → ℕ → X → List ℕ → Type 0)
    (first : At → F → Type 0) (second : X → At → F → Type 0) (read_first : At → Result (X × At) F)
    (read_second : X → At → Result (Y × At) F)
    → Joins spells read_first → Refuses first read_first
    → ((x : X) → Refuses (second x) (read_second x))
    → (a : At) (f : F) → a.origin ≤ a.place → ThenFault spells first second a f
    → (read_first a >>= λ x. read_second x.0 x.1) ≡ Err f
chain-refused spells first second read_first read_second j r s a f h (ThenFault.first d) = rw
    (r.only a f h d) refl
chain-refused spells first second read_first read_second j r s a f h
    (ThenFault.second v next found d) =
    rw (read_again spells read_first j a v next h found)
    ((s v).only next f (moved-on spells a v next h found) d)

-- the second reading may depend on what the first one gave
pub chain-refuses : {F X Y : Type 0} (spells : Order → ℕ → X → List ℕ → Type 0)
    (first : At → F → Type 0) (second : X → At → F → Type 0) (read_first : At → Result (X × At) F)
    (read_second : X → At → Result (Y × At) F)
    → Joins spells read_first → Refuses first read_first
    → ((x : X) → Refuses (second x) (read_second x))
    → Refuses (ThenFault spells first second) (λ a. read_first a >>= λ x. read_second x.0 x.1)
chain-refuses spells first second read_first read_second j r s = record {
  content = λ a f h e. elim (bind_err (read_first a) (λ x. read_second x.0 x.1) f e) [
    | inl t ↦ ThenFault.first (r.content a f h t)
    | inr t ↦ let found = j.found a t.0.0 t.0.1 h t.1 in
        ThenFault.second t.0.0 t.0.1 found
        ((s t.0.0).content t.0.1 f (moved-on spells a t.0.0 t.0.1 h found) t.2)
  ];
  only = chain-refused spells first second read_first read_second j r s;
}

abbrev pub both_read : {F X Y : Type 0} → (At → Result (X × At) F) → (X → At → Result (Y × At) F)
    → At → Result ((X × Y) × At) F
both_read first second a = first a >>= λ x. second x.0 x.1 >>= λ y. Ok ((x.0, y.0), y.1)

pub pair-refuses : {F X Y : Type 0} (spells : Order → ℕ → X → List ℕ → Type 0)
    (first : At → F → Type 0) (second : X → At → F → Type 0) (read_first : At → Result (X × At) F)
    (read_second : X → At → Result (Y × At) F)
    → Joins spells read_first → Refuses first read_first
    → ((x : X) → Refuses (second x) (read_second x))
    → Refuses (ThenFault spells first second) (both_read read_first read_second)
pair-refuses spells first second read_first read_second j r s =
    chain-refuses spells first second read_first
    (λ x a. read_second x a >>= λ y. Ok ((x, y.0), y.1)) j r
    (λ x. mapped-refuses (second x) (read_second x) (λ y. ((x, y.0), y.1)) (s x))

-- ---- encapsulations

octets-end : (a : At) (v : List ℕ) (next : At) → FoundSpelling SpellsOctets a v next
    → next.place ≡ order_place a + length v
octets-end a v next f =
    omega (
      arith,
      ap (λ (x : At). x.place) f.moved,
      ap (length {A = ℕ}) f.spelled.parts,
      length-append f.spelled.count v,
      f.spelled.counted.long,
    )

order-stands : (a : At) (flag : ℕ) (body : List ℕ) (next : At)
    → FoundSpelling SpellsOctets a (flag ∷ body) next → next.place - suc (length body)
    ≡ order_place a
order-stands a flag body next f = omega (arith, octets-end a (flag ∷ body) next f)

body-stands : (a : At) (flag : ℕ) (body : List ℕ) (next : At)
    → FoundSpelling SpellsOctets a (flag ∷ body) next → next.place - length body ≡ order_place a + 1
body-stands a flag body next f = omega (arith, octets-end a (flag ∷ body) next f)

abbrev stands_at : At → List ℕ → Bool → At
stands_at next body little = record {
  rest = body;
  place = next.place - length body;
  origin = next.place - suc (length body);
  order = order_of little;
}

abbrev ok_at : At → Result At CdrFault
ok_at x = Ok x

abbrev pub enclosed_read : {F Y : Type 0} → (CdrFault → F) → (At → Result (Y × At) F) → At
    → Result (Y × At) F
enclosed_read c inner a = as_fault c (encapsulation_at a) >>= λ e. inner e.0 >>= λ v. Ok (v.0, e.1)

module _ {F Y : Type 0} (c : CdrFault → F) (inner : At → F → Type 0)
    (reading : At → Result (Y × At) F) where
  -- the octets were read, and none of them is a place inside
  inside-content : (a : At) (bytes : List ℕ) (next : At) (f : CdrFault) (g : F)
      → FoundSpelling SpellsOctets a bytes next
      → inside (next_aligned 4 a) next.place bytes ≡ Err f → g ≡ c f → WithinFault c inner a g
  inside-content a [] next f g found e is =
      WithinFault.empty next found (is ∙ ap c (sym (err_is At (Short (next_aligned 4 a)) f e)))
  inside-content a (flag ∷ body) next f g found e is =
      let place = next.place - suc (length body) in
      elim (bind_err (truth place flag)
      (λ little. Ok (record {
        rest = body;
        place = next.place - length body;
        origin = place;
        order = order_of little;
      }))
      f e) [
        | inl t ↦ let content = truth-content place flag f t in
            WithinFault.order flag body next found content.0
            (is ∙ ap c (content.1 ∙ ap BadBoolean (order-stands a flag body next found)))
        | inr t ↦ absurd (cc t.2)
      ]

  stands-within : (a : At) (flag : ℕ) (body : List ℕ) (next : At) (little : Bool)
      → FoundSpelling SpellsOctets a (flag ∷ body) next → stands_at next body little
      ≡ within_at a little body
  stands-within a flag body next little found =
      rw (order-stands a flag body next found, body-stands a flag body next found) refl

  -- the octets were read, and what is inside is refused
  value-content : Refuses inner reading → (a : At) (bytes : List ℕ) (next : At) (f : F) (x : At)
      → FoundSpelling SpellsOctets a bytes next → inside (next_aligned 4 a) next.place bytes ≡ Ok x
      → reading x ≡ Err f → WithinFault c inner a f
  value-content r a [] next f x found e d = absurd (cc e)
  value-content r a (flag ∷ body) next f x found e d =
      let place = next.place - suc (length body) in
      let t =
      bind_ok (truth place flag)
      (λ little. Ok (record {
        rest = body;
        place = next.place - length body;
        origin = place;
        order = order_of little;
      }))
      x e in
      let here : x ≡ within_at a t.0 body =
      sym (ok_is (stands_at next body t.0) x t.2) ∙ stands-within a flag body next t.0 found in
      let refused : reading (within_at a t.0 body) ≡ Err f = rw (← here) d in
      WithinFault.inside t.0 flag body next found (truth-found place flag t.0 t.1)
      (r.content (within_at a t.0 body) f (omega arith) refused)

  enclosing-content : (a : At) (e : CdrFault) (f : F) → a.origin ≤ a.place → encapsulation_at a
      ≡ Err e
      → f ≡ c e → WithinFault c inner a f
  unfolding encapsulation_at
  enclosing-content a e f h t is =
      elim (bind_err (octets_at a)
      (λ bytes. inside (next_aligned 4 a) bytes.1.place bytes.0 >>= λ inner. Ok (inner, bytes.1)) e
      t) [
        | inl o ↦ WithinFault.octets
            (record { cause = e; holds = octets-content a e o; fault = is })
        | inr o ↦ elim (bind_err (inside (next_aligned 4 a) o.0.1.place o.0.0)
            (λ inner. Ok (inner, o.0.1)) e o.2) [
              | inl i ↦ inside-content a o.0.0 o.0.1 e f (octets-found a o.0.0 o.0.1 h o.1) i is
              | inr i ↦ absurd (cc i.2)
            ]
      ]

  enclosed-content : Refuses inner reading → (a : At) (enclosed : At × At) (f : F) → a.origin
      ≤ a.place
      → encapsulation_at a ≡ Ok enclosed → reading enclosed.0 ≡ Err f → WithinFault c inner a f
  unfolding encapsulation_at
  enclosed-content r a enclosed f h t u =
      let o =
      bind_ok (octets_at a) (λ bytes. inside (next_aligned 4 a) bytes.1.place bytes.0 >>= λ inner.
      Ok (inner, bytes.1)) enclosed t in
      let i = bind_ok (inside (next_aligned 4 a) o.0.1.place o.0.0)
      (λ inner. Ok (inner, o.0.1)) enclosed o.2 in
      let same : i.0 ≡ enclosed.0 = ap (λ (p : At × At). p.0) (ok_is (i.0, o.0.1) enclosed i.2) in
      value-content r a o.0.0 o.0.1 f enclosed.0 (octets-found a o.0.0 o.0.1 h o.1)
      (i.1 ∙ ap ok_at same) u

  within-content : Refuses inner reading → (a : At) (f : F) → a.origin ≤ a.place
      → enclosed_read c reading a ≡ Err f → WithinFault c inner a f
  within-content r a f h e =
      elim (bind_err (as_fault c (encapsulation_at a)) (λ e. reading e.0 >>= λ v. Ok (v.0, e.1))
      f e) [
        | inl t ↦ let cause = outer_cause c (encapsulation_at a) f t
            in enclosing-content a cause.0 f h
            cause.1 cause.2
        | inr t ↦ elim (bind_err (reading t.0.0) (λ v. Ok (v.0, t.0.1)) f t.2) [
          | inl u ↦ enclosed-content r a t.0 f h (fault_ok c (encapsulation_at a) t.0 t.1) u
          | inr u ↦ absurd (cc u.2)
        ]
      ]

  within-refused : Refuses inner reading → (a : At) (f : F) → a.origin ≤ a.place
      → WithinFault c inner a f → enclosed_read c reading a ≡ Err f
  unfolding encapsulation_at
  within-refused r a f h (WithinFault.octets o) = rw (octets-refused a o.cause h o.holds, o.fault)
      refl
  within-refused r a f h (WithinFault.empty next found fault) =
      let one = read_again SpellsOctets octets_at octets-joins a [] next h found in
      rw (one, fault) refl
  within-refused r a f h (WithinFault.order flag body next found lt fault) =
      let one = read_again SpellsOctets octets_at octets-joins a (flag ∷ body) next h found in
      let two = truth-refused (next.place - suc (length body)) flag lt in
      rw (one, two, order-stands a flag body next found, fault) refl
  within-refused r a f h (WithinFault.inside little flag body next found content d) =
      let one = read_again SpellsOctets octets_at octets-joins a (flag ∷ body) next h found in
      let two = truth-only (next.place - suc (length body)) flag little content in
      let three : reading (stands_at next body little) ≡ Err f =
      rw (stands-within a flag body next little found)
      (r.only (within_at a little body) f (omega arith) d) in
      rw (one, two, three) refl

  pub within-refuses : Refuses inner reading
      → Refuses (WithinFault c inner) (enclosed_read c reading)
  within-refuses r = record { content = within-content r; only = within-refused r }
