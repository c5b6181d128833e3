-- The places at which ids are declared, found one after the other.
use Rattle.std.proofs.Common.{◌≡◌, ℕ, zero, suc, ◌+◌, ◌≤◌, ◌<◌, Bool, true, false, ◌&&◌, ◌||◌, inl, inr, List, [], ◌∷◌}
use Rattle.std.proofs.Common.{◌++◌, length, get_or, refl, sym, ap, ◌∙◌, arith}
use Rattle.std.specs.Prelude.{nat_lt, nat_eq}
use Rattle.std.specs.Str.{bytes_eq}
use Rattle.std.proofs.lemmas.Bool.{false≢true, cases_order, cases_lt, lt-ltb, le-ltb, eq-eqb, ne_eqb, and_from}
use Rattle.std.proofs.lemmas.Bool.{and_right, or_left, or_right, or_cases}
use Rattle.std.proofs.lemmas.List.Folds.{list_any-append}
use Rattle.std.proofs.lemmas.List.{get_or_past}
use Rattle.td_types.specs.Repository.{InterfaceBases, is_among}
use Rattle.td_types.specs.Reaching.{declares, is_in, ArePlaces, AreLinks, id_at, bases_at, links_at}
use Rattle.td_types.proofs.Chains.{same-bytes}

pub declares-at : (declared : InterfaceBases) (ids : List (List ℕ)) (place : ℕ) (d : List ℕ × List (List ℕ))
    → place < length declared → declares declared ids place ≡ is_among (get_or declared place d).0 ids
declares-at [] ids place d h = absurd (omega (arith, h))
declares-at (entry ∷ declared) ids zero d h = refl
declares-at (entry ∷ declared) ids (suc place) d h = declares-at declared ids place d (omega (arith, h))

pub declares-past : (declared : InterfaceBases) (ids : List (List ℕ)) (place : ℕ) → length declared ≤ place
    → declares declared ids place ≡ false
declares-past [] ids place h = refl
declares-past (entry ∷ declared) ids zero h = absurd (omega (arith, h))
declares-past (entry ∷ declared) ids (suc place) h = declares-past declared ids place (omega (arith, h))

pub declares-within : (declared : InterfaceBases) (ids : List (List ℕ)) (place : ℕ) → declares declared ids place ≡ true
    → place < length declared
declares-within [] ids place h = absurd (false≢true h)
declares-within (entry ∷ declared) ids zero h = omega arith
declares-within (entry ∷ declared) ids (suc place) h = let i = declares-within declared ids place h in omega (arith, i)

pub declares-none : (declared : InterfaceBases) (place : ℕ) → declares declared [] place ≡ false
declares-none [] place = refl
declares-none (entry ∷ declared) zero = refl
declares-none (entry ∷ declared) (suc place) = declares-none declared place

-- what is declared there is one of the ids
pub declares-among : (declared : InterfaceBases) (ids : List (List ℕ)) (place : ℕ) → declares declared ids place ≡ true
    → is_among (id_at declared place) ids ≡ true
declares-among [] ids place h = absurd (false≢true h)
declares-among (entry ∷ declared) ids zero h = h
declares-among (entry ∷ declared) ids (suc place) h = declares-among declared ids place h

-- one id alone
pub among-one : (id known : List ℕ) → is_among id (known ∷ []) ≡ true → id ≡ known
among-one id known h =
    elim (or_cases (bytes_eq id known) false h)
    [ inl here ↦ same-bytes id known here | inr there ↦ absurd (false≢true there) ]

-- one of the ids is declared there if this one is
pub declares-one_of : (declared : InterfaceBases) (ids : List (List ℕ)) (id : List ℕ) (place : ℕ) → is_among id ids ≡ true
    → declares declared (id ∷ []) place ≡ true → declares declared ids place ≡ true
declares-one_of [] ids id place h d = d
declares-one_of (entry ∷ declared) ids id zero h d = rw (among-one entry.0 id d) h
declares-one_of (entry ∷ declared) ids id (suc place) h d = declares-one_of declared ids id place h d

-- ---- a loop that finds the places

-- those before n are found
abbrev pub Placed : InterfaceBases → List (List ℕ) → List ℕ → ℕ → Type 0
Placed declared ids places n = (place : ℕ) → is_in place places ≡ (nat_lt place n && declares declared ids place)

none_more : (test : ℕ → Bool) (n place : ℕ) → test n ≡ false
    → (nat_lt place n && test place) ≡ (nat_lt place (n + 1) && test place)
none_more test n place h =
    elim (cases_order place n) [
      | inl same ↦
          let k : test place ≡ false = rw same h in
          and_right (nat_lt place n) (test place) k ∙ sym (and_right (nat_lt place (n + 1)) (test place) k)
      | inr other ↦
          elim other [
            | inl below ↦ ap (λ (b : Bool). b && test place)
                (lt-ltb place n below ∙ sym (lt-ltb place (n + 1) (omega (arith, below))))
            | inr above ↦ ap (λ (b : Bool). b && test place)
                (le-ltb place n (omega (arith, above)) ∙ sym (le-ltb place (n + 1) (omega (arith, above))))
          ]
    ]

or-nothing : (b : Bool) → (b || (false || false)) ≡ b
or-nothing true = refl
or-nothing false = refl

one_more : (test : ℕ → Bool) (n place : ℕ) → test n ≡ true
    → ((nat_lt place n && test place) || (nat_eq place n || false)) ≡ (nat_lt place (n + 1) && test place)
one_more test n place h =
    elim (cases_order place n) [
      | inl same ↦
          let k : test place ≡ true = rw same h in
          or_right (nat_lt place n && test place) (nat_eq place n || false)
          (or_left (nat_eq place n) false (eq-eqb place n same))
          ∙ sym (and_from (nat_lt place (n + 1)) (test place) (lt-ltb place (n + 1) (omega (arith, same))) k)
      | inr other ↦
          elim other [
            | inl below ↦ rw (
              lt-ltb place n below,
              lt-ltb place (n + 1) (omega (arith, below)),
              ne_eqb place n (λ e. omega (arith, e, below)),
            )
                (or-nothing (test place))
            | inr above ↦ rw (
              le-ltb place n (omega (arith, above)),
              le-ltb place (n + 1) (omega (arith, above)),
              ne_eqb place n (λ e. omega (arith, e, above)),
            )
                refl
          ]
    ]

pub placed_skip : (declared : InterfaceBases) (ids : List (List ℕ)) (places : List ℕ) (n : ℕ)
    → declares declared ids n ≡ false → Placed declared ids places n → Placed declared ids places (n + 1)
placed_skip declared ids places n h p place = p place ∙ none_more (declares declared ids) n place h

pub placed_push : (declared : InterfaceBases) (ids : List (List ℕ)) (places : List ℕ) (n : ℕ) → declares declared ids n ≡ true
    → Placed declared ids places n → Placed declared ids (places ++ n ∷ []) (n + 1)
placed_push declared ids places n h p place =
    list_any-append (nat_eq place) places (n ∷ [])
    ∙ (ap (λ (b : Bool). b || (nat_eq place n || false)) (p place) ∙ one_more (declares declared ids) n place h)

pub placed_all : (declared : InterfaceBases) (ids : List (List ℕ)) (places : List ℕ) (n : ℕ) → length declared ≤ n
    → Placed declared ids places n → ArePlaces declared ids places
placed_all declared ids places n h p place =
    p place ∙ elim (cases_lt place n) [
      | inl below ↦ ap (λ (b : Bool). b && declares declared ids place) (lt-ltb place n below)
      | inr past ↦ ap (λ (b : Bool). b && declares declared ids place) (le-ltb place n past)
          ∙ sym (declares-past declared ids place (omega (arith, h, past)))
    ]

-- what the loop's test says of the place
pub declared_here : (declared : InterfaceBases) (ids : List (List ℕ)) (n : ℕ) (entry : List ℕ × List (List ℕ)) (id : List ℕ)
    (answer test : Bool)
    → n < length declared → entry ≡ get_or declared n entry → id ≡ entry.0 → answer ≡ is_among id ids → answer ≡ test
    → declares declared ids n ≡ test
declared_here declared ids n entry id answer test h r i a t =
    declares-at declared ids n entry h
    ∙ (ap (λ (e : List ℕ × List (List ℕ)). is_among e.0 ids) (sym r)
    ∙ (ap (λ (x : List ℕ). is_among x ids) (sym i) ∙ (sym a ∙ t)))

-- ---- a loop that finds the first place

abbrev pub NoneBefore : InterfaceBases → List ℕ → ℕ → Type 0
NoneBefore declared id n = (place : ℕ) → place < n → declares declared (id ∷ []) place ≡ false

pub none_before_more : (declared : InterfaceBases) (id : List ℕ) (n : ℕ) (entry : List ℕ × List (List ℕ)) (known : List ℕ)
    (answer : Bool)
    → n < length declared → entry ≡ get_or declared n entry → known ≡ entry.0 → answer ≡ bytes_eq known id
    → answer ≡ false → NoneBefore declared id n → NoneBefore declared id (n + 1)
none_before_more declared id n entry known answer h r i a t before place b =
    elim (cases_lt place n) [
      | inl earlier ↦ before place earlier
      | inr here ↦
          let e : place ≡ n = omega (arith, b, here) in
          rw e (declared_here declared (id ∷ []) n entry known (answer || false) false h r i
          (ap (λ (x : Bool). x || false) a) (ap (λ (x : Bool). x || false) t))
    ]

pub none_before_all : (declared : InterfaceBases) (id : List ℕ) (n : ℕ) → length declared ≤ n → NoneBefore declared id n
    → (place : ℕ) → declares declared (id ∷ []) place ≡ false
none_before_all declared id n h before place =
    elim (cases_lt place n) [
      | inl earlier ↦ before place earlier
      | inr past ↦ declares-past declared (id ∷ []) place (omega (arith, h, past))
    ]

-- ---- a loop that finds the links of each declaration

pub record Linked (declared : InterfaceBases) (links : List (List ℕ)) (n : ℕ) : Type 0 where
  pub count : length links ≡ n
  pub each : (place : ℕ) → place < n → ArePlaces declared (bases_at declared place) (links_at links place)

pub linked_all : (declared : InterfaceBases) (links : List (List ℕ)) (n : ℕ) → n ≡ length declared → Linked declared links n
    → AreLinks declared links
linked_all declared links n h l = record {
  count = l.count ∙ h;
  each = λ place. elim (cases_lt place n) [
    | inl earlier ↦ l.each place earlier
    | inr past ↦
        let bases : bases_at declared place ≡ [] =
        ap (λ (x : List ℕ × List (List ℕ)). x.1) (get_or_past declared place ([], []) (omega (arith, past, h))) in
        let places : links_at links place ≡ [] = get_or_past links place [] (omega (arith, past, l.count)) in
        rw (bases, places) (λ to. sym (declares-none declared to))
  ];
}
