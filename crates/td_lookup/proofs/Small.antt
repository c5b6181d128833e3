-- The offers that a query is answered with are short enough for a batch: of each the properties that are asked for,
-- none of them twice.
use Rattle.std.proofs.Common.{◌≡◌, ◌⊎◌, inl, inr, ℕ, ◌+◌, ◌≤◌, Bool, true, false, not, cond, ◌||◌, List, [], ◌∷◌, ◌++◌}
use Rattle.std.proofs.Common.{map, filter, Option, Some, None, Result, Ok, Err, IfOk, refl, sym, ap, subst, ◌∙◌, arith}
use Rattle.std.proofs.lemmas.Bool.{both_ways}
use Rattle.std.proofs.lemmas.Slice.Eq.{bytes_eq-Decides}
use Rattle.std.specs.List.{AllByRecursion, cons_option, list_any}
use Rattle.std.specs.Str.{bytes_eq}
use Rattle.td_cdr.specs.Marks.{Marks}
use Rattle.td_cdr.specs.Names.{identifier}
use Rattle.td_cdr.specs.Seen.{is_among}
use Rattle.td_cdr.specs.declared.memory.Memory.{Memory as OutOfMemory}
use Rattle.td_exceptions.specs.declared.exception.UserException.{UserException}
use Rattle.td_exceptions.specs.declared.exception.UserException.TheVariants as user
use Rattle.td_fed.specs.Visiting.{WalksTo}
use Rattle.td_iter.specs.Heads.{AreSmallOffers}
use Rattle.td_lookup.specs.Choosing.{chosen, chosen_of, named_in, property_named}
use Rattle.td_lookup.specs.Answering.{GivesSmall}
use Rattle.td_ops.specs.declared.call.Query.{Query}
use Rattle.td_register.specs.Causes.{Cause, raise_if, ◌otherwise◌}
use Rattle.td_register.specs.Properties.{name_cause}
use Rattle.td_register.specs.declared.history.Accepted.{Accepted}
use Rattle.td_size_laws.proofs.Fitting.{bounded_short, fit-more}
use Rattle.td_size_laws.proofs.Walking.{neither, walks_bounded}
use Rattle.td_size_laws.specs.Bounds.{Fit, IsBounded, IsWithin}
use Rattle.td_size_laws.specs.SizeLaws.{GivesBounded}
use Rattle.td_trader.specs.Queries.{desired_cause, names_cause}
use Rattle.td_trader.specs.Worlds.{View}
use Rattle.td_value.specs.Structures.{property}
use Rattle.td_value.specs.declared.structures.Offer.{Offer}
use Rattle.td_value.specs.declared.structures.Property.{Property}
use Rattle.td_value.specs.declared.unions.SpecifiedProps.{SpecifiedProps}
use Rattle.td_value.specs.declared.unions.SpecifiedProps.TheVariants as props
use Rattle.td_walk.specs.declared.trace.Address.{Address}
use Rattle.td_walk.specs.declared.trace.TraceItem.{TraceItem}
use Rattle.td_walk.specs.declared.trace.Visit.{Visit}
use Rattle.td_walk.specs.declared.trace.Visit.TheVariants as visit
use Rattle.td_query_walk.specs.Walks.{WalkState}

-- ---- the properties of other names

abbrev others_than : List ℕ → List Property → List Property
others_than name ps = filter (λ p. not (bytes_eq p.name name)) ps

fit-filter : (test : Property → Bool) (ps : List Property) (n : ℕ) → Fit ps n → Fit (filter test ps) n
fit-filter test [] n h = tt
fit-filter test (p ∷ ps) n h = by (test p) (fit-filter test ps h.1 h.3)
  where
    by : (b : Bool) → Fit (filter test ps) h.1 → Fit (cond b (p ∷ filter test ps) (filter test ps)) n
    by true rest = (h.0, h.1, h.2, rest, h.4)
    by false rest = let both = h.4 in fit-more (filter test ps) h.1 n rest (omega (arith, both))

-- a property, and the others
abbrev Apart : (left : List Property) → (n : ℕ) → Property → Type 0
Apart left n p = (k : ℕ) × (m : ℕ) × IsWithin k (property.format.writes p) × Fit left m × (k + m ≤ n)

take-out : (name : List ℕ) (ps : List Property) (n : ℕ) (p : Property) → Fit ps n → property_named name ps ≡ Some p
    → Apart (others_than name ps) n p
take-out name [] n p h e = absurd (let bad : ⊥ = cc in bad)
take-out name (x ∷ ps) n p h e = by (bytes_eq x.name name) (take-out name ps h.1 p h.3) e
  where
    by : (b : Bool) → (property_named name ps ≡ Some p → Apart (others_than name ps) h.1 p)
        → cond b (Some x) (property_named name ps) ≡ Some p
        → Apart (cond (not b) (x ∷ others_than name ps) (others_than name ps)) n p
    by true behind e =
        let same : x ≡ p = cc in
        let rest = fit-filter (λ p. not (bytes_eq p.name name)) ps h.1 h.3 in
        (h.0, h.1, subst (λ (q : Property). IsWithin h.0 (property.format.writes q)) same h.2, rest, h.4)
    by false behind e =
        let r = behind e in
        let both = h.4 in
        let less = r.4 in
        (r.0, h.0 + r.1, r.2, (h.0, r.1, h.2, r.3, omega arith), omega (arith, both, less))

-- another name's property is among them still
find-others : (name other : List ℕ) (ps : List Property) → bytes_eq other name ≡ false
    → property_named other (others_than name ps) ≡ property_named other ps
find-others name other [] not_same = refl
find-others name other (p ∷ ps) not_same =
    by (bytes_eq p.name name) (bytes_eq p.name other) refl refl (find-others name other ps not_same)
  where
    by : (b c : Bool) → bytes_eq p.name name ≡ b → bytes_eq p.name other ≡ c
        → property_named other (others_than name ps) ≡ property_named other ps
        → property_named other (cond (not b) (p ∷ others_than name ps) (others_than name ps))
        ≡ cond c (Some p) (property_named other ps)
    by false c d e rest =
        ap (λ (b : Bool). cond b (Some p) (property_named other (others_than name ps))) e
        ∙ ap (λ (o : Option Property). cond c (Some p) o) rest
    by true false d e rest = rest
    by true true d e rest =
        let same : p.name ≡ other = (bytes_eq-Decides p.name other).0 e in
        absurd (both_ways (bytes_eq other name) not_same (subst (λ (n : List ℕ). bytes_eq n name ≡ true) same d))

named-others : (name : List ℕ) (names : List (List ℕ)) (ps : List Property)
    → AllByRecursion (λ other. bytes_eq other name ≡ false) names
    → named_in names (others_than name ps) ≡ named_in names ps
named-others name [] ps h = refl
named-others name (other ∷ names) ps h =
    ap (λ (o : Option Property). cons_option o (named_in names (others_than name ps))) (find-others name other ps h.0)
    ∙ ap (λ (qs : List Property). cons_option (property_named other ps) qs) (named-others name names ps h.1)

-- ---- names that are asked for once

no-raise : (b : Bool) (e : UserException) → raise_if b e ≡ None → b ≡ false
no-raise true e h = absurd (let bad : ⊥ = cc in bad)
no-raise false e h = refl

not-among : (before : List (List ℕ)) (name : List ℕ) → name_cause before name ≡ None → is_among name before ≡ false
not-among before name h =
    let twice = user.DuplicatePropertyName name in
    no-raise (is_among name before) twice
    (neither (raise_if (not (identifier name)) (user.IllegalPropertyName name))
    (raise_if (is_among name before) twice) h).1

neither-is : (a b : Bool) → (a || b) ≡ false → (a ≡ false) × (b ≡ false)
neither-is true b h = absurd (let bad : ⊥ = cc in bad)
neither-is false b h = (refl, h)

not-there : (front : List (List ℕ)) (name : List ℕ) (back : List (List ℕ)) (other : List ℕ)
    → is_among other (front ++ name ∷ back) ≡ false → bytes_eq other name ≡ false
not-there [] name back other h = (neither-is (bytes_eq other name) (list_any (bytes_eq other) back) h).0
not-there (x ∷ front) name back other h =
    not-there front name back other
    (neither-is (bytes_eq other x) (list_any (bytes_eq other) (front ++ name ∷ back)) h).1

apart-from : (front : List (List ℕ)) (name : List ℕ) (back names : List (List ℕ))
    → names_cause (front ++ name ∷ back) names ≡ None → AllByRecursion (λ other. bytes_eq other name ≡ false) names
apart-from front name back [] h = tt
apart-from front name back (other ∷ names) h =
    let before = front ++ name ∷ back in
    let parts = neither (name_cause before other) (names_cause (other ∷ before) names) h in (
      not-there front name back other (not-among before other parts.0),
      apart-from (other ∷ front) name back names parts.1,
    )

-- one name more
fit-named : (name : List ℕ) (names : List (List ℕ)) (ps : List Property) (n : ℕ)
    → AllByRecursion (λ other. bytes_eq other name ≡ false) names → Fit ps n
    → ((qs : List Property) (m : ℕ) → Fit qs m → Fit (named_in names qs) m)
    → Fit (cons_option (property_named name ps) (named_in names ps)) n
fit-named name names ps n apart h rest = by (property_named name ps) refl
  where
    by : (o : Option Property) → property_named name ps ≡ o → Fit (cons_option o (named_in names ps)) n
    by None e = rest ps n h
    by (Some p) e =
        let r = take-out name ps n p h e in
        let same = named-others name names ps apart in
        (r.0, r.1, r.2, subst (λ (qs : List Property). Fit qs r.1) same (rest (others_than name ps) r.1 r.3), r.4)

named-fit : (before names : List (List ℕ)) (ps : List Property) (n : ℕ) → names_cause before names ≡ None → Fit ps n
    → Fit (named_in names ps) n
named-fit before [] ps n once h = tt
named-fit before (name ∷ names) ps n once h =
    let behind = (neither (name_cause before name) (names_cause (name ∷ before) names) once).1 in
    fit-named name names ps n (apart-from [] name before names behind) h
    (λ (qs : List Property) (m : ℕ) (k : Fit qs m). named-fit (name ∷ before) names qs m behind k)

-- ---- offers

chosen-fit : (desired : SpecifiedProps) (ps : List Property) (n : ℕ) → desired_cause desired ≡ None → Fit ps n
    → Fit (chosen_of desired ps) n
chosen-fit props.None ps n once h = tt
chosen-fit (props.Some names) ps n once h = named-fit [] names ps n once h
chosen-fit props.All ps n once h = h

chosen-bounded : (desired : SpecifiedProps) (o : Offer) → desired_cause desired ≡ None → IsBounded o
    → IsBounded (chosen desired o)
chosen-bounded desired o once h = record {
  reference_bound = h.reference_bound;
  properties_bound = h.properties_bound;
  reference_within = h.reference_within;
  properties_fit = chosen-fit desired o.properties h.properties_bound once h.properties_fit;
  together = h.together;
}

all-chosen : (desired : SpecifiedProps) (offers : List Offer) → desired_cause desired ≡ None
    → AllByRecursion IsBounded offers → AreSmallOffers (map (chosen desired) offers)
all-chosen desired [] once h = tt
all-chosen desired (o ∷ offers) once h = (
  bounded_short (chosen desired o) (chosen-bounded desired o once h.0),
  all-chosen desired offers once h.1,
)

answer-small : (q : Query) (offers : List Offer) → GivesBounded q offers
    → AreSmallOffers (map (chosen q.desired) offers)
answer-small q offers g = by g.named_once
  where
    by : (offers ≡ []) ⊎ (desired_cause q.desired ≡ None) → AreSmallOffers (map (chosen q.desired) offers)
    by (inl none) = subst (λ (os : List Offer). AreSmallOffers (map (chosen q.desired) os)) (sym none) tt
    by (inr once) = all-chosen q.desired offers once g.bounded

-- ---- visits

module _ (others : List Accepted → Type 0) (later : Marks → Marks → Type 0) (home : Address) (s u : WalkState (List View))
    (k : ℕ) (q : Query) (before after : List TraceItem) where
  gives-small : (v : Visit) → WalksTo others later home s k q before after v u → GivesSmall q v
  gives-small (visit.Refused o) h = tt
  gives-small (visit.Answered a max_list) h =
      answer-small q a.offers (walks_bounded others later home s u k q h.items a max_list h.walk)

  pub visited_small : (r : Result Visit OutOfMemory) → IfOk r (λ v. WalksTo others later home s k q before after v u)
      → IfOk r (GivesSmall q)
  visited_small (Ok v) h = gives-small v h
  visited_small (Err m) h = tt
