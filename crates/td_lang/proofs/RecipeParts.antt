-- A recipe is read as its parts are spelled, and only so.
use Rattle.std.proofs.Common.{◌≡◌, ◌≢◌, ℕ, suc, ◌+◌, ◌<◌, ◌≤◌, ◌⊎◌, inl, inr, nat_eq, nat_lt, Bool, true, false, List}
use Rattle.std.proofs.Common.{[], ◌∷◌, ◌++◌, length, take, drop, get_or, add-one, drop-cons, Option, Some, None, refl}
use Rattle.std.proofs.Common.{sym, ap, subst, ◌∙◌, arith, if◌then◌else◌, append_assoc, append-nil, nat_le, ◌&&◌}
use Rattle.std.proofs.Common.{length-drop, length-take-le}
use Rattle.std.specs.List.{list_all, position, position_or_len}
use Rattle.std.specs.Option.{option_and_then}
use Rattle.std.proofs.lemmas.Bool.{eqb-true, lt-ltb, ne_eqb}
use Rattle.std.proofs.lemmas.Bool.Decides.{nat_tests}
use Rattle.std.proofs.lemmas.List.{take-append-drop, length-append, take_at, drop_at}
use Rattle.std.proofs.Math.Seq.{take-append-add}
use Rattle.std.proofs.lemmas.List.Quantifiers.{position-Some}
use Rattle.td_cdr.specs.Names.{identifier, is_letter, is_word}
use Rattle.td_lang.specs.declared.expr.Part.{Part}
use Rattle.td_lang.specs.declared.expr.Part.TheVariants as part
use Rattle.td_lang.proofs.Conjunction.{and-left, and-right}
use Rattle.td_lang.proofs.Words.{word_letter}
use Rattle.td_lang.specs.Recipes.{SpellsPart, BeginsWithPart, SpellsParts, IsRefusedAt, part_in_front, escape_part}
use Rattle.td_lang.specs.Recipes.{dollar_part}
use Rattle.td_lang.specs.Recipes.{property_part, named_part}

-- ---- what stands in front is spelled

pub record Front (bytes : List ℕ) (p : Part) (size : ℕ) : Type 0 where
  pub spells : SpellsPart p (take size bytes)
  pub some : 0 < size
  pub within : size ≤ length bytes

abbrev found : Part → ℕ → Option (Part × ℕ)
found p size = Some (p, size)

pub part-is : (p q : Part) (m n : ℕ) → found p m ≡ Some (q, n) → p ≡ q
part-is p q m n e = let h : (p, m) ≡ (q, n) = cc in ap (λ (x : Part × ℕ). x.0) h

pub size-is : (p q : Part) (m n : ℕ) → found p m ≡ Some (q, n) → m ≡ n
size-is p q m n e = let h : (p, m) ≡ (q, n) = cc in ap (λ (x : Part × ℕ). x.1) h

front_same : (bytes : List ℕ) (p q : Part) (m n : ℕ) → found p m ≡ Some (q, n) → Front bytes p m → Front bytes q n
front_same bytes p q m n e h =
    subst (λ (x : Part). Front bytes x n) (part-is p q m n e) (subst (λ (x : ℕ). Front bytes p x) (size-is p q m n e) h)

-- what a choice between two answers gives
tape_preference : (t : Bool) (x y : Option (Part × ℕ)) (p : Part) (size : ℕ) → (if t then x else y) ≡ Some (p, size)
    → ((t ≡ true) × (x ≡ Some (p, size))) ⊎ ((t ≡ false) × (y ≡ Some (p, size)))
tape_preference true x y p size e = inl (refl, e)
tape_preference false x y p size e = inr (refl, e)

unequal : (b n : ℕ) → nat_eq b n ≡ false → b ≢ n
unequal b n e = grind (arith, nat_tests)

escaped-front : (more : List ℕ) (p : Part) (size : ℕ) → escape_part more ≡ Some (p, size) → Front (92 ∷ more) p size
escaped-front [] p size e = absurd cc
escaped-front (b ∷ more) p size e =
    front_same (92 ∷ b ∷ more) (part.Byte b) p 2 size e
    (record { spells = inr refl; some = omega arith; within = omega arith })

abbrev is_end : ℕ → Bool
is_end b = nat_eq b 41

named-front : (more : List ℕ) (n : ℕ) (p : Part) (size : ℕ) → position is_end more ≡ Some n
    → named_part more n ≡ Some (p, size) → Front (36 ∷ 40 ∷ more) p size
named-front more n p size at e =
    let h = position-Some is_end more n 0 at in
    let byte = eqb-true (get_or more n 0) 41 h.1 in
    let cut : drop n more ≡ 41 ∷ drop (n + 1) more =
    rw add-one (drop-cons more n 0 h.0 ∙ ap (λ (x : ℕ). x ∷ drop (suc n) more) byte) in
    let whole : more ≡ take n more ++ 41 ∷ drop (n + 1) more =
    sym (take-append-drop n more) ∙ ap (λ (x : List ℕ). take n more ++ x) cut in
    let text : List ℕ = 36 ∷ 40 ∷ (take n more ++ 41 ∷ []) in
    let long : n + 3 ≡ length text =
    omega (arith, length-append (take n more) (41 ∷ []), length-take-le n more (omega (arith, h.0))) in
    let front : take (n + 3) (36 ∷ 40 ∷ more) ≡ text =
    ap (λ (x : List ℕ). take (n + 3) (36 ∷ 40 ∷ x))
    (whole ∙ sym (append_assoc (take n more) (41 ∷ []) (drop (n + 1) more)))
    ∙ take_at text (drop (n + 1) more) (n + 3) (sym long) in
    elim (tape_preference (identifier (take n more)) _ _ p size e) [
      | inl k ↦ front_same (36 ∷ 40 ∷ more) (part.Property (take n more)) p (n + 3) size k.1
          (record { spells = (k.0, front); some = omega arith; within = omega (arith, h.0) })
      | inr k ↦ absurd cc
    ]

property-front : (more : List ℕ) (p : Part) (size : ℕ) → property_part more ≡ Some (p, size)
    → Front (36 ∷ 40 ∷ more) p size
unfolding property_part
property-front more p size e = by_place (position is_end more) refl e
  where
    by_place : (o : Option ℕ) → position is_end more ≡ o → option_and_then (named_part more) o ≡ Some (p, size)
        → Front (36 ∷ 40 ∷ more) p size
    by_place (Some n) at h = named-front more n p size at h
    by_place None at h = absurd cc

replaced-front : (more : List ℕ) (p : Part) (size : ℕ) → dollar_part more ≡ Some (p, size) → Front (36 ∷ more) p size
replaced-front [] p size e = absurd cc
replaced-front (b ∷ more) p size e =
    elim (tape_preference (nat_eq b 42) _ _ p size e) [
      | inl h ↦ subst (λ (x : ℕ). Front (36 ∷ x ∷ more) p size) (sym (eqb-true b 42 h.0))
          (front_same (36 ∷ 42 ∷ more) part.Constraint p 2 size h.1
          (record { spells = refl; some = omega arith; within = omega arith }))
      | inr h ↦ elim (tape_preference (nat_eq b 40) _ _ p size h.1) [
        | inl k ↦ subst (λ (x : ℕ). Front (36 ∷ x ∷ more) p size) (sym (eqb-true b 40 k.0))
            (property-front more p size k.1)
        | inr k ↦ absurd cc
      ]
    ]

pub front-found : (bytes : List ℕ) (p : Part) (size : ℕ) → part_in_front bytes ≡ Some (p, size) → Front bytes p size
front-found [] p size e = absurd cc
front-found (b ∷ more) p size e =
    elim (tape_preference (nat_eq b 92) _ _ p size e) [
      | inl h ↦ subst (λ (x : ℕ). Front (x ∷ more) p size) (sym (eqb-true b 92 h.0)) (escaped-front more p size h.1)
      | inr h ↦ elim (tape_preference (nat_eq b 36) _ _ p size h.1) [
        | inl k ↦ subst (λ (x : ℕ). Front (x ∷ more) p size) (sym (eqb-true b 36 k.0)) (replaced-front more p size k.1)
        | inr k ↦ front_same (b ∷ more) (part.Byte b) p 1 size k.1
            (record {
              spells = inl (unequal b 36 k.0, unequal b 92 h.0, refl);
              some = omega arith;
              within = omega arith;
            })
      ]
    ]

-- ---- what is spelled stands in front

end-place : (name more : List ℕ) → list_all is_word name ≡ true
    → position_or_len is_end (name ++ 41 ∷ more) ≡ length name
end-place [] more e = refl
end-place (x ∷ name) more e =
    let byte = and-left (is_word x) (list_all is_word name) e in
    let other : nat_eq x 41 ≡ false = grind (arith, nat_tests) in
    let rest = end-place name more (and-right (is_word x) (list_all is_word name) e) in
    rw other (omega (arith, rest))

all-words : (name : List ℕ) → identifier name ≡ true → list_all is_word name ≡ true
all-words [] e = absurd cc
all-words (b ∷ others) e =
    let letter =
    and-left (is_letter b) (nat_le (length others) 255)
    (and-left (is_letter b && nat_le (length others) 255) (list_all is_word others) e) in
    rw (word_letter b letter) (and-right (is_letter b && nat_le (length others) 255) (list_all is_word others) e)

at_place : (xs : List ℕ) (i : ℕ) → position_or_len is_end xs ≡ i → i < length xs → position is_end xs ≡ Some i
at_place xs i e h =
    ap (λ (n : ℕ). if nat_lt n (length xs) then (let o : Option ℕ = Some n in o) else None) e
    ∙ ap (λ (t : Bool). if t then (let o : Option ℕ = Some i in o) else None) (lt-ltb i (length xs) h)

property-only : (name more : List ℕ) → identifier name ≡ true
    → property_part (name ++ 41 ∷ more) ≡ Some (part.Property name, length name + 3)
unfolding property_part
property-only name more e =
    let whole : List ℕ = name ++ 41 ∷ more in
    let lt : length name < length whole = omega (arith, length-append name (41 ∷ more)) in
    let place = at_place whole (length name) (end-place name more (all-words name e)) lt in
    let front : take (length name) whole ≡ name = take_at name (41 ∷ more) (length name) refl in
    ap (λ (o : Option ℕ). option_and_then (named_part whole) o) place
    ∙ ap (λ (x : List ℕ). if identifier x then found (part.Property x) (length name + 3) else None) front
    ∙ ap (λ (t : Bool). if t then found (part.Property name) (length name + 3) else None) e

plain-only : (b : ℕ) (more : List ℕ) → b ≢ 36 → b ≢ 92 → part_in_front (b ∷ more) ≡ Some (part.Byte b, 1)
plain-only b more h k = rw (ne_eqb b 92 k) (rw (ne_eqb b 36 h) refl)

named-only : (name more : List ℕ) → identifier name ≡ true
    → part_in_front ((36 ∷ 40 ∷ (name ++ 41 ∷ [])) ++ more)
    ≡ Some (part.Property name, length (36 ∷ 40 ∷ (name ++ 41 ∷ [])))
named-only name more e =
    ap (λ (x : List ℕ). property_part x) (append_assoc name (41 ∷ []) more) ∙ property-only name more e
    ∙ ap (λ (n : ℕ). found (part.Property name) n) (omega (arith, length-append name (41 ∷ [])))

abbrev Leads : Part → List ℕ → List ℕ → Type 0
Leads p more piece = part_in_front (piece ++ more) ≡ Some (p, length piece)

pub front-only : (p : Part) (piece more : List ℕ) → SpellsPart p piece → Leads p more piece
front-only (part.Byte b) piece more (inl h) = subst (Leads (part.Byte b) more) (sym h.2) (plain-only b more h.0 h.1)
front-only (part.Byte b) piece more (inr h) = subst (Leads (part.Byte b) more) (sym h) refl
front-only part.Constraint piece more h = subst (Leads part.Constraint more) (sym h) refl
front-only (part.Property name) piece more h =
    subst (Leads (part.Property name) more) (sym h.1) (named-only name more h.0)

-- what begins a text is what stands in its front
pub begins-front : (bytes : List ℕ) (p : Part) (rest : List ℕ) (b : BeginsWithPart bytes p rest)
    → part_in_front bytes ≡ Some (p, length b.piece)
begins-front bytes p rest b = ap part_in_front b.whole ∙ front-only p b.piece rest b.spells

pub begins-rest : (bytes : List ℕ) (p : Part) (rest : List ℕ) (b : BeginsWithPart bytes p rest)
    → drop (length b.piece) bytes ≡ rest
begins-rest bytes p rest b = ap (drop (length b.piece)) b.whole ∙ drop_at b.piece rest (length b.piece) refl

front-none : (bytes : List ℕ) → part_in_front bytes ≡ None → (p : Part) (more : List ℕ) → BeginsWithPart bytes p more → ⊥
front-none bytes e p more b = let h = begins-front bytes p more b in absurd (cc)

-- ---- reading part by part

pub spells-more : (parts : List Part) (front piece : List ℕ) (p : Part) → SpellsParts parts front → SpellsPart p piece
    → SpellsParts (parts ++ p ∷ []) (front ++ piece)
spells-more [] front piece p h s =
    ([], record { piece = piece; spells = s; whole = ap (λ (x : List ℕ). x ++ piece) h ∙ sym (append-nil piece) }, refl)
spells-more (q ∷ parts) front piece p h s = (
  h.0 ++ piece,
  record {
    piece = h.1.piece;
    spells = h.1.spells;
    whole = ap (λ (x : List ℕ). x ++ piece) h.1.whole ∙ append_assoc h.1.piece h.0 piece;
  },
  spells-more parts h.0 piece p h.2 s,
)

cut : (text : List ℕ) (place size : ℕ) → place ≤ length text
    → take (place + size) text ≡ take place text ++ take size (drop place text)
cut text place size h =
    ap (λ (n : ℕ). take (n + size) text) (sym (length-take-le place text h))
    ∙ ap (λ (x : List ℕ). take (length (take place text) + size) x) (sym (take-append-drop place text))
    ∙ take-append-add (take place text) (drop place text) size

pub step : (text rest : List ℕ) (place size : ℕ) (parts : List Part) (p : Part) → SpellsParts parts (take place text)
    → place ≤ length text → rest ≡ drop place text → part_in_front rest ≡ Some (p, size)
    → SpellsParts (parts ++ p ∷ []) (take (place + size) text)
step text rest place size parts p so_far within is e =
    let f = front-found rest p size e in
    rw (cut text place size within)
    (spells-more parts (take place text) (take size (drop place text)) p so_far
    (subst (λ (x : List ℕ). SpellsPart p (take size x)) is f.spells))

pub moves : (text rest : List ℕ) (place size : ℕ) (p : Part) → place ≤ length text → rest ≡ drop place text
    → part_in_front rest ≡ Some (p, size) → (0 < size) × (place + size ≤ length text)
moves text rest place size p within is e =
    let f = front-found rest p size e in
    let long : length rest ≡ length (drop place text) = ap length is in
    (f.some, omega (arith, f.within, long, length-drop place text))

pub refused : (text rest : List ℕ) (place : ℕ) (parts : List Part) → SpellsParts parts (take place text)
    → place < length text → rest ≡ drop place text → part_in_front rest ≡ None → IsRefusedAt text place
refused text rest place parts so_far lt is e = record {
  front = take place text;
  parts = parts;
  rest = rest;
  before = so_far;
  whole = sym (take-append-drop place text) ∙ ap (λ (x : List ℕ). take place text ++ x) (sym is);
  there = sym (length-take-le place text (omega arith));
  goes_on =
      λ nothing. let long : length rest ≡ length (drop place text) = ap length is in
      let short : length rest ≡ 0 = ap length nothing in
      absurd (omega (arith, long, short, length-drop place text));
  none = front-none rest e;
}

-- ---- the laws

same-part : (bytes : List ℕ) (p q : Part) (r s : List ℕ) → BeginsWithPart bytes p r → BeginsWithPart bytes q s → p ≡ q
same-part bytes p q r s b c =
    part-is p q (length b.piece) (length c.piece) (sym (begins-front bytes p r b) ∙ begins-front bytes q s c)

same-size : (bytes : List ℕ) (p q : Part) (r s : List ℕ) (b : BeginsWithPart bytes p r) (c : BeginsWithPart bytes q s)
    → length b.piece ≡ length c.piece
same-size bytes p q r s b c =
    size-is p q (length b.piece) (length c.piece) (sym (begins-front bytes p r b) ∙ begins-front bytes q s c)

same-rest : (bytes : List ℕ) (p q : Part) (r s : List ℕ) → BeginsWithPart bytes p r → BeginsWithPart bytes q s → r ≡ s
same-rest bytes p q r s b c =
    sym (begins-rest bytes p r b) ∙ ap (λ (n : ℕ). drop n bytes) (same-size bytes p q r s b c) ∙ begins-rest bytes q s c

nothing-begins : (bytes : List ℕ) (p : Part) (r : List ℕ) → bytes ≡ [] → BeginsWithPart bytes p r → ⊥
nothing-begins bytes p r e b = front-none bytes (ap part_in_front e) p r b

pub one_recipe : (ps qs : List Part) (text : List ℕ) → SpellsParts ps text → SpellsParts qs text → ps ≡ qs
one_recipe [] [] text h k = refl
one_recipe [] (q ∷ qs) text h k = absurd (nothing-begins text q k.0 h k.1)
one_recipe (p ∷ ps) [] text h k = absurd (nothing-begins text p h.0 k h.1)
one_recipe (p ∷ ps) (q ∷ qs) text h k =
    let on : SpellsParts qs h.0 = subst (SpellsParts qs) (sym (same-rest text p q h.0 k.0 h.1 k.1)) k.2 in
    ap (λ (x : Part). x ∷ ps) (same-part text p q h.0 k.0 h.1 k.1)
    ∙ ap (λ (x : List Part). q ∷ x) (one_recipe ps qs h.0 h.2 on)

lead-size : (p q : Part) (piece other r s : List ℕ) → SpellsPart p piece → SpellsPart q other → piece ++ r ≡ other ++ s
    → length piece ≡ length other
lead-size p q piece other r s h k e =
    size-is p q (length piece) (length other)
    (sym (front-only p piece r h) ∙ ap part_in_front e ∙ front-only q other s k)

-- a part that begins the front begins the whole
begins-on : (front rest r : List ℕ) (p : Part) → BeginsWithPart front p r → BeginsWithPart (front ++ rest) p (r ++ rest)
begins-on front rest r p b = record {
  piece = b.piece;
  spells = b.spells;
  whole = ap (λ (x : List ℕ). x ++ rest) b.whole ∙ append_assoc b.piece r rest;
}

never : (ps qs : List Part) (front rest : List ℕ) → SpellsParts ps front → rest ≢ []
    → ((p : Part) (more : List ℕ) → BeginsWithPart rest p more → ⊥) → SpellsParts qs (front ++ rest) → ⊥
never [] [] front rest h some none k = some (sym (ap (λ (x : List ℕ). x ++ rest) h) ∙ k)
never [] (q ∷ qs) front rest h some none k = none q k.0 (subst (λ (x : List ℕ). BeginsWithPart (x ++ rest) q k.0) h k.1)
never (p ∷ ps) [] front rest h some none k =
    nothing-begins (front ++ rest) p (h.0 ++ rest) k (begins-on front rest h.0 p h.1)
never (p ∷ ps) (q ∷ qs) front rest h some none k =
    let same = same-rest (front ++ rest) q p k.0 (h.0 ++ rest) k.1 (begins-on front rest h.0 p h.1) in
    never ps qs h.0 rest h.2 some none (subst (SpellsParts qs) same k.2)

pub not_both : (text : List ℕ) (place : ℕ) (parts : List Part) → IsRefusedAt text place → SpellsParts parts text → ⊥
not_both text place parts r h =
    never r.parts parts r.front r.rest r.before r.goes_on r.none (subst (SpellsParts parts) r.whole h)

front-is : (front rest piece r : List ℕ) → front ≡ piece ++ r → piece ++ (r ++ rest) ≡ front ++ rest
front-is front rest piece r e = sym (ap (λ (x : List ℕ). x ++ rest) e ∙ append_assoc piece r rest)

as-far : (ps qs : List Part) (front rest other left : List ℕ) → SpellsParts ps front → SpellsParts qs other
    → front ++ rest ≡ other ++ left → ((p : Part) (more : List ℕ) → BeginsWithPart rest p more → ⊥)
    → ((p : Part) (more : List ℕ) → BeginsWithPart left p more → ⊥) → length front ≡ length other
as-far [] [] front rest other left h k e none none' = ap length h ∙ sym (ap length k)
as-far [] (q ∷ qs) front rest other left h k e none none' =
    let whole : other ++ left ≡ rest = sym e ∙ ap (λ (x : List ℕ). x ++ rest) h in
    absurd (none q (k.0 ++ left)
    (subst (λ (x : List ℕ). BeginsWithPart x q (k.0 ++ left)) whole (begins-on other left k.0 q k.1)))
as-far (p ∷ ps) [] front rest other left h k e none none' =
    let whole : front ++ rest ≡ left = e ∙ ap (λ (x : List ℕ). x ++ left) k in
    absurd (none' p (h.0 ++ rest)
    (subst (λ (x : List ℕ). BeginsWithPart x p (h.0 ++ rest)) whole (begins-on front rest h.0 p h.1)))
as-far (p ∷ ps) (q ∷ qs) front rest other left h k e none none' =
    let b = begins-on front rest h.0 p h.1 in
    let c : BeginsWithPart (front ++ rest) q (k.0 ++ left) =
    subst (λ (x : List ℕ). BeginsWithPart x q (k.0 ++ left)) (sym e) (begins-on other left k.0 q k.1) in
    let back =
    as-far ps qs h.0 rest k.0 left h.2 k.2 (same-rest (front ++ rest) p q (h.0 ++ rest) (k.0 ++ left) b c) none
    none' in
    let size : length h.1.piece ≡ length k.1.piece =
    lead-size p q h.1.piece k.1.piece (h.0 ++ rest) (k.0 ++ left) h.1.spells k.1.spells
    (front-is front rest h.1.piece h.0 h.1.whole ∙ e ∙ sym (front-is other left k.1.piece k.0 k.1.whole)) in
    ap length h.1.whole ∙ length-append h.1.piece h.0 ∙ (omega (arith, back, size))
    ∙ sym (ap length k.1.whole ∙ length-append k.1.piece k.0)

pub one_place : (text : List ℕ) (place other : ℕ) → IsRefusedAt text place → IsRefusedAt text other → place ≡ other
one_place text place other r s =
    r.there ∙ as-far r.parts s.parts r.front r.rest s.front s.rest r.before s.before (sym r.whole ∙ s.whole) r.none
    s.none
    ∙ sym s.there

-- no part begins at a `$`, or a `\` ends the text
pub refused_bytes : (rest : List ℕ) → rest ≢ [] → ((p : Part) (more : List ℕ) → BeginsWithPart rest p more → ⊥)
    → (rest ≡ 92 ∷ []) ⊎ (get_or rest 0 0 ≡ 36)
refused_bytes [] some none = absurd (some refl)
refused_bytes (b ∷ []) some none = by_byte (nat_eq b 92) (nat_eq b 36) refl refl
  where
    by_byte : (s t : Bool) → nat_eq b 92 ≡ s → nat_eq b 36 ≡ t → (b ∷ [] ≡ 92 ∷ []) ⊎ (b ≡ 36)
    by_byte true t e k = inl (ap (λ (x : ℕ). x ∷ []) (eqb-true b 92 e))
    by_byte false true e k = inr (eqb-true b 36 k)
    by_byte false false e k =
        absurd (none (part.Byte b) []
        (record { piece = b ∷ []; spells = inl (unequal b 36 k, unequal b 92 e, refl); whole = refl }))
refused_bytes (b ∷ c ∷ more) some none = by_byte (nat_eq b 92) (nat_eq b 36) refl refl
  where
    by_byte : (s t : Bool) → nat_eq b 92 ≡ s → nat_eq b 36 ≡ t → (b ∷ c ∷ more ≡ 92 ∷ []) ⊎ (b ≡ 36)
    by_byte true t e k =
        absurd (none (part.Byte c) more
        (record { piece = 92 ∷ c ∷ []; spells = inr refl; whole = ap (λ (x : ℕ). x ∷ c ∷ more) (eqb-true b 92 e) }))
    by_byte false true e k = inr (eqb-true b 36 k)
    by_byte false false e k =
        absurd (none (part.Byte b) (c ∷ more)
        (record { piece = b ∷ []; spells = inl (unequal b 36 k, unequal b 92 e, refl); whole = refl }))
