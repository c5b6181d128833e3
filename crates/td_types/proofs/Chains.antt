-- Chains of declared bases: one exists exactly where one exists that is no longer than the list of
-- declarations.
use Rattle.std.proofs.Common.{◌≡◌, ℕ, zero, suc, ◌≤◌, ◌<◌, Bool, true, ◌&&◌, ◌||◌, cond, ◌⊎◌, inl, inr, List, [], ◌∷◌}
use Rattle.std.proofs.Common.{length, refl, sym, ap, subst, ◌∙◌, arith}
use Rattle.std.specs.Prelude.{nat_eq}
use Rattle.std.proofs.lemmas.List.{nil_from_length}
use Rattle.std.specs.List.{list_any}
use Rattle.std.specs.Str.{bytes_eq}
use Rattle.std.proofs.lemmas.Slice.Eq.{bytes_eq-Decides}
use Rattle.std.proofs.lemmas.Bool.{false≢true, both_ways, eqb-true, cases_Bool, or_cases, or_left, or_right, and_parts}
use Rattle.std.proofs.lemmas.Bool.{and_from}
use Rattle.td_types.specs.Repository.{InterfaceBases, is_among}
use Rattle.td_types.specs.Interfaces.{some_base, is_base, IsChain, LeadsTo, InterfaceConforms, leads_within}
use Rattle.td_types.specs.Interfaces.{interface_conforms}

pub bytes-same : (a b : List ℕ) → a ≡ b → bytes_eq a b ≡ true
bytes-same a b e = (bytes_eq-Decides a b).1 e

pub same-bytes : (a b : List ℕ) → bytes_eq a b ≡ true → a ≡ b
same-bytes a b e = (bytes_eq-Decides a b).0 e

-- ---- one id among several, and one base among those declared

-- some id that passes the test
pub any-found : (test : List ℕ → Bool) (ids : List (List ℕ)) → list_any test ids ≡ true
    → (id : List ℕ) × (is_among id ids ≡ true) × (test id ≡ true)
any-found test [] h = absurd (false≢true h)
any-found test (x ∷ ids) h =
    elim (or_cases (test x) (list_any test ids) h) [
      | inl here ↦ (x, or_left (bytes_eq x x) (is_among x ids) (bytes-same x x refl), here)
      | inr there ↦ let f = any-found test ids there in (f.0, or_right (bytes_eq f.0 x) (is_among f.0 ids) f.1, f.2)
    ]

pub any-from : (test : List ℕ → Bool) (ids : List (List ℕ)) (id : List ℕ) → is_among id ids ≡ true → test id ≡ true
    → list_any test ids ≡ true
any-from test [] id h t = absurd (false≢true h)
any-from test (x ∷ ids) id h t =
    elim (or_cases (bytes_eq id x) (is_among id ids) h) [
      | inl here ↦ or_left (test x) (list_any test ids) (sym (ap test (same-bytes id x here)) ∙ t)
      | inr there ↦ or_right (test x) (list_any test ids) (any-from test ids id there t)
    ]

pub base-found : (declared : InterfaceBases) (id : List ℕ) (test : List ℕ → Bool) → some_base declared id test ≡ true
    → (base : List ℕ) × (is_base declared id base ≡ true) × (test base ≡ true)
base-found [] id test h = absurd (false≢true h)
base-found (entry ∷ declared) id test h =
    elim (or_cases (bytes_eq entry.0 id && list_any test entry.1) (some_base declared id test) h) [
      | inl here ↦
          let p = and_parts (bytes_eq entry.0 id) (list_any test entry.1) here in
          let f = any-found test entry.1 p.1 in (
            f.0,
            or_left (bytes_eq entry.0 id && is_among f.0 entry.1) (is_base declared id f.0)
                (and_from (bytes_eq entry.0 id) (is_among f.0 entry.1) p.0 f.1),
            f.2,
          )
      | inr there ↦
          let f = base-found declared id test there in
          (f.0, or_right (bytes_eq entry.0 id && is_among f.0 entry.1) (is_base declared id f.0) f.1, f.2)
    ]

pub base-from : (declared : InterfaceBases) (id : List ℕ) (test : List ℕ → Bool) (base : List ℕ)
    → is_base declared id base ≡ true → test base ≡ true → some_base declared id test ≡ true
base-from [] id test base h t = absurd (false≢true h)
base-from (entry ∷ declared) id test base h t =
    elim (or_cases (bytes_eq entry.0 id && is_among base entry.1) (is_base declared id base) h) [
      | inl here ↦
          let p = and_parts (bytes_eq entry.0 id) (is_among base entry.1) here in
          or_left (bytes_eq entry.0 id && list_any test entry.1) (some_base declared id test)
          (and_from (bytes_eq entry.0 id) (list_any test entry.1) p.0 (any-from test entry.1 base p.1 t))
      | inr there ↦
          or_right (bytes_eq entry.0 id && list_any test entry.1) (some_base declared id test)
          (base-from declared id test base there t)
    ]

-- ---- without the declarations of one interface

without : List ℕ → InterfaceBases → InterfaceBases
without id [] = []
without id (entry ∷ declared) = cond (bytes_eq entry.0 id) (without id declared) (entry ∷ without id declared)

length-without : (id : List ℕ) (declared : InterfaceBases) → length (without id declared) ≤ length declared
unfolding without
length-without id [] = omega arith
length-without id (entry ∷ declared) =
    let i = length-without id declared in
    elim (cases_Bool (bytes_eq entry.0 id)) [
      | inl here ↦ rw here (omega (arith, i))
      | inr other ↦ rw other (omega (arith, i))
    ]

without-shorter : (id base : List ℕ) (declared : InterfaceBases) → is_base declared id base ≡ true
    → length (without id declared) < length declared
unfolding without
without-shorter id base [] h = absurd (false≢true h)
without-shorter id base (entry ∷ declared) h =
    elim (or_cases (bytes_eq entry.0 id && is_among base entry.1) (is_base declared id base) h) [
      | inl here ↦
          let p = and_parts (bytes_eq entry.0 id) (is_among base entry.1) here in
          let i = length-without id declared in
          rw p.0 (omega (arith, i))
      | inr there ↦
          let i = without-shorter id base declared there in
          elim (cases_Bool (bytes_eq entry.0 id)) [
            | inl here ↦ rw here (omega (arith, i))
            | inr other ↦ rw other (omega (arith, i))
          ]
    ]

-- a base of another interface stays one
base-kept : (id other base : List ℕ) (declared : InterfaceBases) → (other ≡ id → ⊥) → is_base declared other base ≡ true
    → is_base (without id declared) other base ≡ true
unfolding without
base-kept id other base [] n h = absurd (false≢true h)
base-kept id other base (entry ∷ declared) n h =
    elim (or_cases (bytes_eq entry.0 other && is_among base entry.1) (is_base declared other base) h) [
      | inl here ↦
          let p = and_parts (bytes_eq entry.0 other) (is_among base entry.1) here in
          elim (cases_Bool (bytes_eq entry.0 id)) [
            | inl same ↦ absurd (n (sym (same-bytes entry.0 other p.0) ∙ same-bytes entry.0 id same))
            | inr differs ↦ rw differs
                (or_left (bytes_eq entry.0 other && is_among base entry.1) (is_base (without id declared) other base)
                here)
          ]
      | inr there ↦
          let i = base-kept id other base declared n there in
          elim (cases_Bool (bytes_eq entry.0 id)) [
            | inl same ↦ rw same i
            | inr differs ↦ rw differs
                (or_right (bytes_eq entry.0 other && is_among base entry.1) (is_base (without id declared) other base)
                i)
          ]
    ]

-- and is one of what was declared
base-was : (id other base : List ℕ) (declared : InterfaceBases) → is_base (without id declared) other base ≡ true
    → is_base declared other base ≡ true
unfolding without
base-was id other base [] h = h
base-was id other base (entry ∷ declared) h =
    elim (cases_Bool (bytes_eq entry.0 id)) [
      | inl same ↦ or_right (bytes_eq entry.0 other && is_among base entry.1) (is_base declared other base)
          (base-was id other base declared (rw same at h))
      | inr differs ↦
          elim (or_cases (bytes_eq entry.0 other && is_among base entry.1) (is_base (without id declared) other base)
          (rw differs at h)) [
            | inl here ↦ or_left (bytes_eq entry.0 other && is_among base entry.1) (is_base declared other base) here
            | inr there ↦ or_right (bytes_eq entry.0 other && is_among base entry.1) (is_base declared other base)
                (base-was id other base declared there)
          ]
    ]

-- the interface itself has none left
base-gone : (id base : List ℕ) (declared : InterfaceBases) → is_base (without id declared) id base ≡ true → ⊥
unfolding without
base-gone id base [] h = false≢true h
base-gone id base (entry ∷ declared) h =
    elim (cases_Bool (bytes_eq entry.0 id)) [
      | inl same ↦ base-gone id base declared (rw same at h)
      | inr differs ↦
          elim (or_cases (bytes_eq entry.0 id && is_among base entry.1) (is_base (without id declared) id base)
          (rw differs at h)) [
            | inl here ↦ both_ways (bytes_eq entry.0 id) differs
                (and_parts (bytes_eq entry.0 id) (is_among base entry.1) here).0
            | inr there ↦ base-gone id base declared there
          ]
    ]

-- ---- chains within so many steps

pub within-reflexive : (steps : ℕ) (declared : InterfaceBases) (id : List ℕ) → leads_within steps declared id id ≡ true
unfolding leads_within
within-reflexive zero declared id = bytes-same id id refl
within-reflexive (suc steps) declared id =
    or_left (bytes_eq id id) (some_base declared id (λ next. leads_within steps declared next id))
    (bytes-same id id refl)

-- an interface leads to itself
pub within-equal : (declared : InterfaceBases) (first last : List ℕ) → bytes_eq first last ≡ true
    → leads_within (length declared) declared first last ≡ true
within-equal declared first last e =
    subst (λ (id : List ℕ). leads_within (length declared) declared first id ≡ true) (same-bytes first last e)
    (within-reflexive (length declared) declared first)

-- more declarations lead as far
within-mono : (steps : ℕ) (few many : InterfaceBases)
    → ((id base : List ℕ) → is_base few id base ≡ true → is_base many id base ≡ true) → (first last : List ℕ)
    → leads_within steps few first last ≡ true → leads_within steps many first last ≡ true
unfolding leads_within
within-mono zero few many more first last h = h
within-mono (suc steps) few many more first last h =
    elim (or_cases (bytes_eq first last) (some_base few first (λ next. leads_within steps few next last)) h) [
      | inl here ↦ or_left (bytes_eq first last) (some_base many first (λ next. leads_within steps many next last)) here
      | inr there ↦
          let f = base-found few first (λ next. leads_within steps few next last) there in
          or_right (bytes_eq first last) (some_base many first (λ next. leads_within steps many next last))
          (base-from many first (λ next. leads_within steps many next last) f.0 (more first f.0 f.1)
          (within-mono steps few many more f.0 last f.2))
    ]

pub chain-from_within : (steps : ℕ) (declared : InterfaceBases) (first last : List ℕ)
    → leads_within steps declared first last ≡ true → LeadsTo declared first last
unfolding leads_within
chain-from_within zero declared first last h = ([], same-bytes first last h)
chain-from_within (suc steps) declared first last h =
    elim (or_cases (bytes_eq first last) (some_base declared first (λ next. leads_within steps declared next last)) h) [
      | inl here ↦ ([], same-bytes first last here)
      | inr there ↦
          let f = base-found declared first (λ next. leads_within steps declared next last) there in
          let rest = chain-from_within steps declared f.0 last f.2 in
          (f.0 ∷ rest.0, (f.1, rest.1))
    ]

-- a chain that leaves an interface for the last time, by one of its bases
Turned : List ℕ → InterfaceBases → List ℕ → Type 0
Turned id declared last = (base : List ℕ) × (is_base declared id base ≡ true) × LeadsTo (without id declared) base last

-- a chain never leaves this interface, or does so for a last time
last_turn : (id : List ℕ) (declared : InterfaceBases) (first : List ℕ) (ids : List (List ℕ)) (last : List ℕ)
    → IsChain declared first ids last → LeadsTo (without id declared) first last ⊎ Turned id declared last
unfolding Turned
last_turn id declared first [] last h = inl ([], h)
last_turn id declared first (next ∷ ids) last h =
    elim (last_turn id declared next ids last h.1) [
      | inr turned ↦ inr turned
      | inl rest ↦
          elim (cases_Bool (bytes_eq first id)) [
            | inl same ↦ inr (next, rw (same-bytes first id same) at h.0, rest)
            | inr differs ↦ inl (
              next ∷ rest.0,
              (
                base-kept id first next declared (λ e. both_ways (bytes_eq first id) differs (bytes-same first id e))
                    h.0,
                rest.1,
              ),
            )
          ]
    ]

-- a chain on which an interface has no base left doesn't leave it
never_left : (steps : ℕ) (declared : InterfaceBases) (first : List ℕ) (ids : List (List ℕ)) (last : List ℕ)
    → IsChain (without first declared) first ids last → leads_within steps declared first last ≡ true
never_left steps declared first [] last h =
    subst (λ (id : List ℕ). leads_within steps declared first id ≡ true) h (within-reflexive steps declared first)
never_left steps declared first (next ∷ ids) last h = absurd (base-gone first next declared h.0)

left_for_good : (steps : ℕ) (declared : InterfaceBases) → length declared ≤ suc steps → (first last : List ℕ)
    → ((few : InterfaceBases) → length few ≤ steps → (a : List ℕ) (ids : List (List ℕ)) → IsChain few a ids last
    → leads_within steps few a last ≡ true)
    → Turned first declared last → leads_within (suc steps) declared first last ≡ true
unfolding Turned leads_within
left_for_good steps declared short first last shorter turned =
    let s = without-shorter first turned.0 declared turned.1 in
    or_right (bytes_eq first last) (some_base declared first (λ next. leads_within steps declared next last))
    (base-from declared first (λ next. leads_within steps declared next last) turned.0 turned.1
    (within-mono steps (without first declared) declared (λ id base h. base-was first id base declared h) turned.0 last
    (shorter (without first declared) (omega (arith, s, short)) turned.0 turned.2.0 turned.2.1)))

-- a chain has no need of more steps than there are declarations
pub within-from_chain : (steps : ℕ) (declared : InterfaceBases) → length declared ≤ steps
    → (first : List ℕ) (ids : List (List ℕ)) (last : List ℕ) → IsChain declared first ids last
    → leads_within steps declared first last ≡ true
unfolding leads_within
within-from_chain zero [] short first [] last h = bytes-same first last h
within-from_chain zero [] short first (next ∷ ids) last h = absurd (false≢true h.0)
within-from_chain zero (entry ∷ declared) short first ids last h = absurd (omega (arith, short))
within-from_chain (suc steps) declared short first ids last h =
    elim (last_turn first declared first ids last h) [
      | inl rest ↦ never_left (suc steps) declared first rest.0 last rest.1
      | inr turned ↦ left_for_good steps declared short first last
          (λ few s a is c. within-from_chain steps few s a is last c) turned
    ]

-- ---- the test and the relation

follow : (declared : InterfaceBases) (first : List ℕ) (ids : List (List ℕ)) (middle last : List ℕ)
    → IsChain declared first ids middle → LeadsTo declared middle last → LeadsTo declared first last
follow declared first [] middle last a b = subst (λ (id : List ℕ). LeadsTo declared id last) (sym a) b
follow declared first (next ∷ ids) middle last a b =
    let rest = follow declared next ids middle last a.1 b in
    (next ∷ rest.0, (a.0, rest.1))

pub joined : (declared : InterfaceBases) (first middle last : List ℕ) → LeadsTo declared first middle
    → LeadsTo declared middle last → LeadsTo declared first last
joined declared first middle last a b = follow declared first a.0 middle last a.1 b

pub leads-within : (declared : InterfaceBases) (first last : List ℕ) → LeadsTo declared first last
    → leads_within (length declared) declared first last ≡ true
leads-within declared first last h = within-from_chain (length declared) declared (omega arith) first h.0 last h.1

pub conforms-from_relation : (declared : InterfaceBases) (sub base : List ℕ) → InterfaceConforms declared sub base
    → interface_conforms declared sub base ≡ true
unfolding interface_conforms
conforms-from_relation declared sub base h =
    let empty_base = nat_eq (length base) 0 in
    let leads = leads_within (length declared) declared sub base in
    elim h [
      | inl empty ↦
          elim empty [
            | inl s ↦ or_left (nat_eq (length sub) 0 || empty_base) leads
                (or_left (nat_eq (length sub) 0) empty_base (ap (λ (id : List ℕ). nat_eq (length id) 0) s))
            | inr b ↦ or_left (nat_eq (length sub) 0 || empty_base) leads
                (or_right (nat_eq (length sub) 0) empty_base (ap (λ (id : List ℕ). nat_eq (length id) 0) b))
          ]
      | inr chain ↦ or_right (nat_eq (length sub) 0 || empty_base) leads (leads-within declared sub base chain)
    ]

pub relation-from_conforms : (declared : InterfaceBases) (sub base : List ℕ) → interface_conforms declared sub base ≡ true
    → InterfaceConforms declared sub base
unfolding interface_conforms
relation-from_conforms declared sub base h =
    let empty_base = nat_eq (length base) 0 in
    let leads = leads_within (length declared) declared sub base in
    elim (or_cases (nat_eq (length sub) 0 || empty_base) leads h) [
      | inl empty ↦
          elim (or_cases (nat_eq (length sub) 0) empty_base empty) [
            | inl s ↦ inl (inl (nil_from_length sub (eqb-true (length sub) 0 s)))
            | inr b ↦ inl (inr (nil_from_length base (eqb-true (length base) 0 b)))
          ]
      | inr chain ↦ inr (chain-from_within (length declared) declared sub base chain)
    ]
