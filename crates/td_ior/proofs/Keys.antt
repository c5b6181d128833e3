-- Keys are read as they are spelled, and only so.
use Rattle.std.proofs.Common.{codes, ◌≡◌, ℕ, ◌+◌, ◌^◌, ◌<◌, ◌&&◌, ◌⊎◌, inl, inr, nat_eq, nat_lt, nat_le, Bool, true}
use Rattle.std.proofs.Common.{false, List, [], ◌∷◌, ◌++◌, length, take, drop, get_or, suc, add-one, drop-cons, Option}
use Rattle.std.proofs.Common.{Some, None, refl, sym, ap, subst, ◌∙◌, arith, if◌then◌else◌}
use Rattle.std.specs.List.{list_all, position, position_or_len}
use Rattle.std.specs.Str.{bytes_eq}
use Rattle.std.specs.Fmt.{decimal}
use Rattle.std.proofs.lemmas.Bool.{eqb-true, lt-ltb}
use Rattle.std.proofs.lemmas.Bool.Decides.{nat_tests}
use Rattle.std.proofs.lemmas.List.{take-append-drop, length-append, take_at, drop_at, drop-drop}
use Rattle.std.proofs.lemmas.Slice.Eq.{bytes_eq-Decides}
use Rattle.std.proofs.lemmas.List.Quantifiers.{position-Some}
use Rattle.td_cdr.specs.Names.{trader_name, is_trader_byte, IsTraderName}
use Rattle.td_value.specs.declared.key.Kind.{Kind}
use Rattle.td_value.specs.declared.key.Kind.TheVariants.{Lookup, Register, Link, Proxy, Admin, Types, Iterator}
use Rattle.td_value.specs.declared.key.ObjectKey.{ObjectKey}
use Rattle.td_ior.specs.Laws.{ReadsWhatIsSpelled}
use Rattle.td_ior.specs.Number.{number_of}
use Rattle.td_ior.specs.Keys.{SpellsKey, IsKind, kind_piece, written_key, ◌>>=◌, key_of, kind_of, at_slash, named_key}
use Rattle.td_ior.specs.Keys.{letter_kind, one_letter, iterator_of}
use Rattle.td_ior.proofs.Numbers.{and-left, and-right, below-read, below-only}

pub bind-Some : {A B : Type 0} (o : Option A) (f : A → Option B) (y : B) → (o >>= f) ≡ Some y
    → (x : A) × (o ≡ Some x) × (f x ≡ Some y)
bind-Some (Some x) f y e = (x, refl, e)
bind-Some None f y e = absurd cc

abbrev some : {A : Type 0} → A → Option A
some x = Some x

pub some-is : {A : Type 0} (x y : A) → some x ≡ Some y → x ≡ y
some-is x y e = cc

pub same-bytes : (a b : List ℕ) → bytes_eq a b ≡ true → a ≡ b
same-bytes a b e = (bytes_eq-Decides a b).0 e

-- ---- the slash

abbrev is_slash : ℕ → Bool
is_slash b = nat_eq b 47

cut-found : (octets : List ℕ) (p : List ℕ × List ℕ) → at_slash octets ≡ Some p → octets ≡ p.0 ++ 47 ∷ p.1
cut-found octets p e =
    let b = bind-Some (position is_slash octets) (λ (i : ℕ). Some (take i octets, drop (i + 1) octets)) p e in
    let at = position-Some is_slash octets b.0 0 b.1 in
    let byte = eqb-true (get_or octets b.0 0) 47 at.1 in
    let cut : drop b.0 octets ≡ 47 ∷ drop (b.0 + 1) octets =
    rw add-one (drop-cons octets b.0 0 at.0 ∙ ap (λ (x : ℕ). x ∷ drop (suc b.0) octets) byte) in
    let whole = sym (take-append-drop b.0 octets) ∙ ap (λ (x : List ℕ). take b.0 octets ++ x) cut in
    whole ∙ ap (λ (q : List ℕ × List ℕ). q.0 ++ 47 ∷ q.1) (some-is (take b.0 octets, drop (b.0 + 1) octets) p b.2)

slash-place : (name object : List ℕ) → list_all is_trader_byte name ≡ true
    → position_or_len is_slash (name ++ 47 ∷ object) ≡ length name
slash-place [] object e = refl
slash-place (x ∷ name) object e =
    let byte = and-left (is_trader_byte x) (list_all is_trader_byte name) e in
    let other : nat_eq x 47 ≡ false = grind (arith, nat_tests) in
    let rest = slash-place name object (and-right (is_trader_byte x) (list_all is_trader_byte name) e) in
    rw other (omega (arith, rest))

placed : (xs : List ℕ) (i : ℕ) → position_or_len is_slash xs ≡ i → i < length xs → position is_slash xs ≡ Some i
placed xs i e h =
    ap (λ (n : ℕ). if nat_lt n (length xs) then some n else None) e
    ∙ ap (λ (t : Bool). if t then some i else None) (lt-ltb i (length xs) h)

all-bytes : (name : List ℕ) → trader_name name ≡ true → list_all is_trader_byte name ≡ true
all-bytes name e = and-right (nat_le 1 (length name) && nat_le (length name) 32) (list_all is_trader_byte name) e

cut-only : (name object : List ℕ) → IsTraderName name → at_slash (name ++ 47 ∷ object) ≡ Some (name, object)
cut-only name object e =
    let whole : List ℕ = name ++ 47 ∷ object in
    let bytes = all-bytes name e in
    let lt : length name < length whole = omega (arith, length-append name (47 ∷ object)) in
    let place = placed whole (length name) (slash-place name object bytes) lt in
    let front = take_at name (47 ∷ object) (length name) refl in
    let back : drop (length name + 1) whole ≡ object =
    sym (drop-drop 1 (length name) whole) ∙ ap (drop 1) (drop_at name (47 ∷ object) (length name) refl) in
    ap (λ (o : Option ℕ). o >>= λ (i : ℕ). some (take i whole, drop (i + 1) whole)) place
    ∙ ap (λ (x : List ℕ). some (x, drop (length name + 1) whole)) front ∙ ap (λ (x : List ℕ). some (name, x)) back

-- ---- the kinds

abbrev IsSpelledKind : List ℕ → Kind → Type 0
IsSpelledKind object kind = IsKind kind × (object ≡ kind_piece kind)

if_kind : (t : Bool) (k kind : Kind) (later : Option Kind) → (if t then Some k else later) ≡ Some kind
    → ((t ≡ true) × (k ≡ kind)) ⊎ (later ≡ Some kind)
if_kind true k kind later e = inl (refl, some-is k kind e)
if_kind false k kind later e = inr e

letter-is : (b n : ℕ) (k kind : Kind) → IsKind k → n ∷ [] ≡ kind_piece k → (nat_eq b n ≡ true) × (k ≡ kind)
    → IsSpelledKind (b ∷ []) kind
letter-is b n k kind ok e h = subst (IsSpelledKind (b ∷ [])) h.1 (ok, ap (λ (x : ℕ). x ∷ []) (eqb-true b n h.0) ∙ e)

letter-found : (b : ℕ) (kind : Kind) → letter_kind b ≡ Some kind → IsSpelledKind (b ∷ []) kind
letter-found b kind e =
    elim (if_kind (nat_eq b 76) Lookup kind _ e) [
      | inl h ↦ letter-is b 76 Lookup kind tt refl h
      | inr e ↦ elim (if_kind (nat_eq b 82) Register kind _ e) [
        | inl h ↦ letter-is b 82 Register kind tt refl h
        | inr e ↦ elim (if_kind (nat_eq b 75) Link kind _ e) [
          | inl h ↦ letter-is b 75 Link kind tt refl h
          | inr e ↦ elim (if_kind (nat_eq b 80) Proxy kind _ e) [
            | inl h ↦ letter-is b 80 Proxy kind tt refl h
            | inr e ↦ elim (if_kind (nat_eq b 65) Admin kind _ e) [
              | inl h ↦ letter-is b 65 Admin kind tt refl h
              | inr e ↦ elim (if_kind (nat_eq b 84) Types kind _ e) [
                | inl h ↦ letter-is b 84 Types kind tt refl h
                | inr e ↦ absurd cc
              ]
            ]
          ]
        ]
      ]
    ]

one-found : (object : List ℕ) (kind : Kind) → one_letter object ≡ Some kind → IsSpelledKind object kind
one-found [] kind e = absurd cc
one-found (b ∷ []) kind e = letter-found b kind e
one-found (b ∷ c ∷ more) kind e = absurd cc

counted : (t : Bool) (n : ℕ) (kind : Kind) → nat_eq n 0 ≡ t → (if t then None else Some (Iterator n)) ≡ Some kind
    → (0 < n) × (Iterator n ≡ kind)
counted true n kind z e = absurd cc
counted false n kind z e = (grind (arith, nat_tests), some-is (Iterator n) kind e)

iterator-found : (object word : List ℕ) (kind : Kind) → object ≡ codes "I/" ++ word → iterator_of word ≡ Some kind
    → IsSpelledKind object kind
iterator-found object word kind whole e =
    let b = bind-Some (number_of word) (λ (n : ℕ). if nat_eq n 0 then None else Some (Iterator n)) kind e in
    let s = below-read (2 ^ 64) word b.0 (omega arith) b.1 in
    let k = counted (nat_eq b.0 0) b.0 kind refl b.2 in
    subst (IsSpelledKind object) k.1 ((k.0, s.below), whole ∙ ap (λ (x : List ℕ). codes "I/" ++ x) s.printed)

kind-found-at : (t : Bool) (object : List ℕ) (kind : Kind) → bytes_eq (take 2 object) (codes "I/") ≡ t
    → (if t then iterator_of (drop 2 object) else one_letter object) ≡ Some kind → IsSpelledKind object kind
kind-found-at true object kind front e =
    let whole =
    sym (take-append-drop 2 object)
    ∙ ap (λ (x : List ℕ). x ++ drop 2 object) (same-bytes (take 2 object) (codes "I/") front) in
    iterator-found object (drop 2 object) kind whole e
kind-found-at false object kind front e = one-found object kind e

kind-found : (object : List ℕ) (kind : Kind) → kind_of object ≡ Some kind → IsSpelledKind object kind
kind-found object kind e = kind-found-at (bytes_eq (take 2 object) (codes "I/")) object kind refl e

iterator-only : (n : ℕ) → 0 < n → n < 2 ^ 64 → iterator_of (decimal n) ≡ Some (Iterator n)
iterator-only n some short =
    let e = below-only (2 ^ 64) (decimal n) n (omega arith) (record { below = short; printed = refl }) in
    let z : nat_eq n 0 ≡ false = grind (arith, nat_tests) in
    rw (e, z) refl

kind-only : (kind : Kind) → IsKind kind → kind_of (kind_piece kind) ≡ Some kind
kind-only Lookup h = refl
kind-only Register h = refl
kind-only Link h = refl
kind-only Proxy h = refl
kind-only Admin h = refl
kind-only Types h = refl
kind-only (Iterator n) h = iterator-only n h.0 h.1

-- ---- the whole key

abbrev with_parts : List ℕ × List ℕ → Option ObjectKey
with_parts parts = kind_of parts.1 >>= named_key parts.0

key-steps : (octets : List ℕ) → key_of octets ≡ (at_slash octets >>= with_parts)
unfolding key_of
key-steps octets = refl

named-at : (t : Bool) (name : List ℕ) (kind : Kind) (key : ObjectKey) → trader_name name ≡ t
    → (if t then some (record { trader = name; kind = kind }) else None) ≡ Some key
    → IsTraderName name × (record { trader = name; kind = kind } ≡ key)
named-at true name kind key e h = (rw e refl, some-is (record { trader = name; kind = kind }) key h)
named-at false name kind key e h = absurd cc

key-found : (octets : List ℕ) (key : ObjectKey) → key_of octets ≡ Some key → SpellsKey octets key
key-found octets key e =
    let p = bind-Some (at_slash octets) with_parts key (sym (key-steps octets) ∙ e) in
    let k = bind-Some (kind_of p.0.1) (named_key p.0.0) key p.2 in
    let n = named-at (trader_name p.0.0) p.0.0 k.0 key refl k.2 in
    let s = kind-found p.0.1 k.0 k.1 in
    let here : SpellsKey octets (record { trader = p.0.0; kind = k.0 }) =
    record {
      trader = n.0;
      kind = s.0;
      written = cut-found octets p.0 p.1 ∙ ap (λ (x : List ℕ). p.0.0 ++ 47 ∷ x) s.1;
    } in
    subst (SpellsKey octets) n.1 here

key-only : (octets : List ℕ) (key : ObjectKey) → SpellsKey octets key → key_of octets ≡ Some key
key-only octets key s =
    let cut : at_slash octets ≡ Some (key.trader, kind_piece key.kind) =
    ap at_slash s.written ∙ cut-only key.trader (kind_piece key.kind) s.trader in
    let name : trader_name key.trader ≡ true = s.trader in
    key-steps octets ∙ rw (cut, kind-only key.kind s.kind, name) refl

pub keys-agree : ReadsWhatIsSpelled SpellsKey key_of
keys-agree = record { found = key-found; only = key-only }

-- no two keys are written alike
pub one-key : (key other : ObjectKey) → IsTraderName key.trader → IsTraderName other.trader → IsKind key.kind
    → IsKind other.kind → written_key key ≡ written_key other → key ≡ other
one-key key other n m k l e =
    let one = key-only (written_key key) key (record { trader = n; kind = k; written = refl }) in
    let two = key-only (written_key key) other (record { trader = m; kind = l; written = e }) in
    some-is key other (sym one ∙ two)

pub written-found : (key : ObjectKey) → IsTraderName key.trader → IsKind key.kind → key_of (written_key key) ≡ Some key
written-found key n k = key-only (written_key key) key (record { trader = n; kind = k; written = refl })
