-- What the marks of a walk say of the interfaces.
use Rattle.std.proofs.Common.{◌≡◌, ℕ, zero, suc, ◌+◌, ◌<◌, Bool, true, false, ◌&&◌, ◌||◌, ◌⊎◌, inl, inr, List, [], ◌∷◌}
use Rattle.std.proofs.Common.{◌++◌, length, get_or, refl, sym, subst, ◌∙◌, arith}
use Rattle.std.specs.Str.{bytes_eq}
use Rattle.std.proofs.lemmas.Bool.{false≢true, both_ways, or_cases, or_left, or_right, and_parts, and_from}
use Rattle.td_types.specs.Repository.{InterfaceBases, is_among}
use Rattle.td_types.specs.Interfaces.{is_base, IsChain, leads_within}
use Rattle.td_types.specs.Reaching.{declares, is_in, is_marked, ArePlaces, AreLinks, IsLeast, Reaches, id_at}
use Rattle.td_types.specs.Reaching.{bases_at, links_at, names_base}
use Rattle.td_types.proofs.Chains.{same-bytes, bytes-same, joined, leads-within, chain-from_within, within-reflexive}
use Rattle.td_types.proofs.Placing.{among-one, declares-among, declares-one_of, declares-within}

-- two tests of which each is true where the other is
pub same-tests : (a b : Bool) → (a ≡ true → b ≡ true) → (b ≡ true → a ≡ true) → a ≡ b
same-tests true b f g = sym (f refl)
same-tests false true f g = g refl
same-tests false false f g = refl

-- ---- bases by their places

base-placed : (declared : InterfaceBases) (id base : List ℕ) → is_base declared id base ≡ true
    → (place : ℕ) × (declares declared (id ∷ []) place ≡ true) × (is_among base (bases_at declared place) ≡ true)
base-placed [] id base h = absurd (false≢true h)
base-placed (entry ∷ declared) id base h =
    elim (or_cases (bytes_eq entry.0 id && is_among base entry.1) (is_base declared id base) h) [
      | inl here ↦
          let p = and_parts (bytes_eq entry.0 id) (is_among base entry.1) here in
          (0, or_left (bytes_eq entry.0 id) false p.0, p.1)
      | inr there ↦ let f = base-placed declared id base there in (suc f.0, f.1, f.2)
    ]

base-at : (declared : InterfaceBases) (place : ℕ) (base : List ℕ) → is_among base (bases_at declared place) ≡ true
    → is_base declared (id_at declared place) base ≡ true
base-at [] place base h = absurd (false≢true h)
base-at (entry ∷ declared) zero base h =
    or_left (bytes_eq entry.0 entry.0 && is_among base entry.1) (is_base declared entry.0 base)
    (and_from (bytes_eq entry.0 entry.0) (is_among base entry.1) (bytes-same entry.0 entry.0 refl) h)
base-at (entry ∷ declared) (suc place) base h =
    or_right (bytes_eq entry.0 (id_at declared place) && is_among base entry.1)
    (is_base declared (id_at declared place) base) (base-at declared place base h)

-- ---- what the marked declarations name

named-at : (declared : InterfaceBases) (marks : List Bool) (base : List ℕ) → names_base declared marks base ≡ true
    → (place : ℕ) × (is_marked marks place ≡ true) × (is_among base (bases_at declared place) ≡ true)
named-at [] marks base h = absurd (false≢true h)
named-at (entry ∷ declared) [] base h = absurd (false≢true h)
named-at (entry ∷ declared) (mark ∷ marks) base h =
    elim (or_cases (mark && is_among base entry.1) (names_base declared marks base) h) [
      | inl here ↦ let p = and_parts mark (is_among base entry.1) here in (0, p.0, p.1)
      | inr there ↦ let f = named-at declared marks base there in (suc f.0, f.1, f.2)
    ]

named-from : (declared : InterfaceBases) (marks : List Bool) (base : List ℕ) (place : ℕ) → is_marked marks place ≡ true
    → is_among base (bases_at declared place) ≡ true → names_base declared marks base ≡ true
named-from [] marks base place m h = absurd (false≢true h)
named-from (entry ∷ declared) [] base place m h = absurd (false≢true m)
named-from (entry ∷ declared) (mark ∷ marks) base zero m h =
    or_left (mark && is_among base entry.1) (names_base declared marks base) (and_from mark (is_among base entry.1) m h)
named-from (entry ∷ declared) (mark ∷ marks) base (suc place) m h =
    or_right (mark && is_among base entry.1) (names_base declared marks base) (named-from declared marks base place m h)

-- ---- the marks and the chains

module _ (declared : InterfaceBases) (links : List (List ℕ)) (starts : List ℕ) (marks : List Bool) (id : List ℕ)
    (are : AreLinks declared links) (from : ArePlaces declared (id ∷ []) starts)
    (least : IsLeast links starts marks) where
  -- where all declarations of an interface are marked, a chain from it ends there or at a name
  chain-named : (first : List ℕ) (ids : List (List ℕ)) (last : List ℕ)
      → ((place : ℕ) → declares declared (first ∷ []) place ≡ true → is_marked marks place ≡ true)
      → IsChain declared first ids last → (first ≡ last) ⊎ (names_base declared marks last ≡ true)
  chain-named first [] last marked h = inl h
  chain-named first (next ∷ ids) last marked h =
      let base = base-placed declared first next h.0 in
      let is_named = named-from declared marks next base.0 (marked base.0 base.1) base.2 in
      let rest : (next ≡ last) ⊎ (names_base declared marks last ≡ true) =
      chain-named next ids last
      (λ to d. least.closed base.0 to (marked base.0 base.1)
      (are.each base.0 to ∙ declares-one_of declared (bases_at declared base.0) next to base.2 d))
      h.1 in
      elim rest [
        | inl same ↦ inr (subst (λ (x : List ℕ). names_base declared marks x ≡ true) same is_named)
        | inr further ↦ inr further
      ]

  leads-named : (last : List ℕ) → leads_within (length declared) declared id last ≡ true
      → (bytes_eq id last || names_base declared marks last) ≡ true
  leads-named last h =
      let chain = chain-from_within (length declared) declared id last h in
      elim (chain-named id chain.0 last (λ place d. least.holds_starts place (from place ∙ d)) chain.1) [
        | inl same ↦ or_left (bytes_eq id last) (names_base declared marks last) (bytes-same id last same)
        | inr further ↦ or_right (bytes_eq id last) (names_base declared marks last) further
      ]

  -- the interface leads to each whose declaration is marked
  marked-led : (place : ℕ) → is_marked marks place ≡ true
      → leads_within (length declared) declared id (id_at declared place) ≡ true
  marked-led = least.least (λ place. leads_within (length declared) declared id (id_at declared place))
      (λ place i. rw (among-one (id_at declared place) id
      (declares-among declared (id ∷ []) place (sym (from place) ∙ i)))
      (within-reflexive (length declared) declared id))
      (λ place to t i. leads-within declared id (id_at declared to)
      (joined declared id (id_at declared place) (id_at declared to)
      (chain-from_within (length declared) declared id (id_at declared place) t) (
        id_at declared to ∷ [],
        (
          base-at declared place (id_at declared to)
              (declares-among declared (bases_at declared place) to (sym (are.each place to) ∙ i)),
          refl,
        ),
      )))

  named-leads : (last : List ℕ) → (bytes_eq id last || names_base declared marks last) ≡ true
      → leads_within (length declared) declared id last ≡ true
  named-leads last h =
      elim (or_cases (bytes_eq id last) (names_base declared marks last) h) [
        | inl same ↦ subst (λ (x : List ℕ). leads_within (length declared) declared id x ≡ true)
            (same-bytes id last same) (within-reflexive (length declared) declared id)
        | inr there ↦
            let f = named-at declared marks last there in
            leads-within declared id last (joined declared id (id_at declared f.0) last
            (chain-from_within (length declared) declared id (id_at declared f.0) (marked-led f.0 f.1))
            (last ∷ [], (base-at declared f.0 last f.2, refl)))
      ]

  pub least_reaches : Reaches declared id marks
  least_reaches = record {
    count = least.count ∙ are.count;
    leads =
        λ last. same-tests (leads_within (length declared) declared id last)
        (bytes_eq id last || names_base declared marks last) (leads-named last) (named-leads last);
  }

-- ---- places that are linked have links

pub starts-within : (declared : InterfaceBases) (links : List (List ℕ)) (ids : List (List ℕ)) (places : List ℕ)
    → AreLinks declared links → ArePlaces declared ids places → (place : ℕ) → is_in place places ≡ true
    → place < length links
starts-within declared links ids places are from place h =
    let b = declares-within declared ids place (sym (from place) ∙ h) in
    omega (arith, b, are.count)

pub links-within : (declared : InterfaceBases) (links : List (List ℕ)) → AreLinks declared links → (place to : ℕ)
    → is_in to (links_at links place) ≡ true → to < length links
links-within declared links are place =
    starts-within declared links (bases_at declared place) (links_at links place) are (are.each place)

-- ---- an interface that isn't declared leads to itself alone

undeclared-chain : (declared : InterfaceBases) (first : List ℕ) (ids : List (List ℕ)) (last : List ℕ)
    → ((place : ℕ) → declares declared (first ∷ []) place ≡ false) → IsChain declared first ids last → first ≡ last
undeclared-chain declared first [] last none h = h
undeclared-chain declared first (next ∷ ids) last none h =
    let base = base-placed declared first next h.0 in
    absurd (both_ways (declares declared (first ∷ []) base.0) (none base.0) base.1)

pub undeclared-leads : (declared : InterfaceBases) (first last : List ℕ)
    → ((place : ℕ) → declares declared (first ∷ []) place ≡ false)
    → bytes_eq first last ≡ leads_within (length declared) declared first last
undeclared-leads declared first last none =
    same-tests (bytes_eq first last) (leads_within (length declared) declared first last)
    (λ e. subst (λ (x : List ℕ). leads_within (length declared) declared first x ≡ true) (same-bytes first last e)
    (within-reflexive (length declared) declared first))
    (λ h. let chain = chain-from_within (length declared) declared first last h in
    bytes-same first last (undeclared-chain declared first chain.0 last none chain.1))

-- ---- a loop over the declarations

pub record Reached (declared : InterfaceBases) (reached : List (List Bool)) (n : ℕ) : Type 0 where
  pub count : length reached ≡ n
  pub each : (place : ℕ) → place < n → Reaches declared (id_at declared place) (get_or reached place [])
