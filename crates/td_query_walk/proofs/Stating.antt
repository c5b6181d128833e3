-- What a list of policies states under a name is what the policy of that name holds.
use Rattle.std.proofs.Common.{◌≡◌, ℕ, Bool, true, false, List, [], ◌∷◌, ◌⊎◌, inl, inr, Option, Some, None, Result}
use Rattle.std.proofs.Common.{Ok, Err}
use Rattle.std.proofs.Common.{refl, sym, ap, ◌∙◌, cond, not, subst, if◌then◌else◌, ◌||◌}
use Rattle.std.proofs.lemmas.Bool.{true≢false}
use Rattle.std.specs.List.{AllByRecursion}
use Rattle.std.specs.Map.{lookup}
use Rattle.std.specs.Str.{bytes_eq}
use Rattle.td_cdr.specs.Format.{◌>>=◌}
use Rattle.td_cdr.specs.Names.{identifier}
use Rattle.td_cdr.specs.Seen.{is_among}
use Rattle.td_value.specs.declared.structures.Policy.{Policy}
use Rattle.td_policy.specs.Stated.{nothing, stated_value, states, policies, if_known, with_policy as states_also}
use Rattle.td_policy.specs.Stated.{next_stated, stated_after, stated}
use Rattle.td_policy.specs.Values.{PolicyKind}
use Rattle.td_policy.specs.declared.fault.PolicyFault.{PolicyFault}
use Rattle.td_policy.specs.declared.fault.PolicyFault.TheVariants as fault
use Rattle.td_policy.specs.declared.stated.Stated.{Stated}
use Rattle.td_walk.specs.Passing.{is_named, policy_named}
use Rattle.td_query_walk.proofs.Named.{itself, same-name}

abbrev pub States : Type 0
States = Policy → Stated → Result Stated PolicyFault

-- ---- one policy

-- a step that is done was done in two
pub along : {A B : Type 0} (r : Result A PolicyFault) (k : A → Result B PolicyFault) (u : B) → (r >>= k) ≡ Ok u
    → (x : A) × (r ≡ Ok x) × (k x ≡ Ok u)
along (Ok x) k u e = (x, refl, e)
along (Err f) k u e = absurd cc

pub ok-is : {A F : Type 0} (x y : A) → (let r : Result A F = Ok x in r) ≡ Ok y → x ≡ y
ok-is x y e = cc

pub some-is : {A : Type 0} (x y : A) → Some x ≡ Some y → x ≡ y
some-is x y e = cc

-- what a policy states, where there is one
abbrev pub IsStatedBy : {A : Type 0} → PolicyKind A → Option Policy → (before now : Option A) → Type 0
IsStatedBy kind None before now = now ≡ before
IsStatedBy kind (Some p) before now = stated_value kind p ≡ Ok now

-- ---- names that were met

step : (earlier : List (List ℕ)) (s t : Stated) (p : Policy) → next_stated earlier s p ≡ Ok t
    → (is_among p.name earlier ≡ false) × (states_also p s ≡ Ok t)
step earlier s t p e = by_tests (identifier p.name) (is_among p.name earlier) e
  where
    by_tests : (b d : Bool)
        → (if not b then Err (fault.IllegalPolicyName p.name) else if d then Err (fault.DuplicatePolicyName p.name)
        else states_also p s) ≡ Ok t
        → (d ≡ false) × (states_also p s ≡ Ok t)
    by_tests false d e = absurd cc
    by_tests true true e = absurd cc
    by_tests true false e = (refl, e)

-- a name that was met isn't met again
pub met : (name : List ℕ) (earlier : List (List ℕ)) (s t : Stated) (ps : List Policy) → is_among name earlier ≡ true
    → stated_after earlier s ps ≡ Ok t → policy_named ps name ≡ None
met name earlier s t [] among e = refl
met name earlier s t (p ∷ ps) among e =
    let h = along (next_stated earlier s p) (λ u. stated_after (p.name ∷ earlier) u ps) t e in
    let here = step earlier s h.0 p h.1 in
    by_name (is_named name p) refl here.0
    (met name (p.name ∷ earlier) h.0 t ps (still (bytes_eq name p.name)) h.2)
  where
    still : (b : Bool) → (b || is_among name earlier) ≡ true
    still true = refl
    still false = among

    by_name : (b : Bool) → is_named name p ≡ b → is_among p.name earlier ≡ false → policy_named ps name ≡ None
        → cond b (Some p) (policy_named ps name) ≡ None
    by_name true is free rest =
        let twice : is_among p.name earlier ≡ true =
        ap (λ (n : List ℕ). is_among n earlier) (same-name p.name name is) ∙ among in
        absurd (true≢false (sym twice ∙ free))
    by_name false is free rest = rest

-- of a list that is read, a policy's name isn't met behind it
pub met-once : (earlier : List (List ℕ)) (s t : Stated) (p : Policy) (ps : List Policy)
    → stated_after earlier s (p ∷ ps) ≡ Ok t
    → (u : Stated) × (states_also p s ≡ Ok u) × (stated_after (p.name ∷ earlier) u ps ≡ Ok t)
    × (policy_named ps p.name ≡ None)
met-once earlier s t p ps e =
    let h = along (next_stated earlier s p) (λ u. stated_after (p.name ∷ earlier) u ps) t e in
    let here = step earlier s h.0 p h.1 in
    let among : is_among p.name (p.name ∷ earlier) ≡ true = rw (itself p.name) refl in
    (h.0, here.1, h.2, met p.name (p.name ∷ earlier) h.0 t ps among h.2)

-- ---- a field

module _ {A : Type 0} (field : Stated → Option A) where
  abbrev pub Keeps : States → Type 0
  Keeps f = (p : Policy) (s t : Stated) → f p s ≡ Ok t → field t ≡ field s

  -- a policy of another field keeps this one
  pub other-keeps : {B : Type 0} (kind : PolicyKind B) (put : Option B → Stated → Stated)
      → ((x : Option B) (s : Stated) → field (put x s) ≡ field s) → Keeps (states kind put)
  other-keeps kind put stays p s t e =
      let h = along (stated_value kind p) (λ x. Ok (put x s)) t e in
      let is : put h.0 s ≡ t = ok-is (put h.0 s) t h.2 in
      sym (ap field is) ∙ stays h.0 s

  module _ (name : List ℕ) where
    -- an entry of the table of policies is of this name, or keeps the field
    abbrev pub IsKeeper : List ℕ × States → Type 0
    IsKeeper e = (e.0 ≡ name) ⊎ Keeps e.1

    unnamed-keeps : (entries : List (List ℕ × States)) → AllByRecursion IsKeeper entries → (p : Policy) (s t : Stated)
        → is_named name p ≡ false → if_known (lookup (bytes_eq p.name) entries) p s ≡ Ok t → field t ≡ field s
    unnamed-keeps [] all p s t other e = ap field (sym (ok-is s t e))
    unnamed-keeps (entry ∷ entries) all p s t other e =
        by_name (unnamed-keeps entries all.1 p s t other) (bytes_eq p.name entry.0) refl e
      where
        by_entry : bytes_eq p.name entry.0 ≡ true → IsKeeper entry → entry.1 p s ≡ Ok t → field t ≡ field s
        by_entry is (inl same) e =
            let so : is_named name p ≡ true = ap (bytes_eq p.name) (sym same) ∙ is in
            absurd (true≢false (sym so ∙ other))
        by_entry is (inr keeps) e = keeps p s t e

        by_name : (if_known (lookup (bytes_eq p.name) entries) p s ≡ Ok t → field t ≡ field s) → (b : Bool)
            → bytes_eq p.name entry.0 ≡ b
            → if_known (cond b (Some entry.1) (lookup (bytes_eq p.name) entries)) p s ≡ Ok t → field t ≡ field s
        by_name rest true is e = by_entry is all.0 e
        by_name rest false is e = rest e

    module _ (kind : PolicyKind A) (keepers : AllByRecursion IsKeeper policies)
        (reads : (p : Policy) (s t : Stated) → p.name ≡ name → states_also p s ≡ Ok t
        → stated_value kind p ≡ Ok (field t)) where
      pub stated-after : (earlier : List (List ℕ)) (s t : Stated) (ps : List Policy) → stated_after earlier s ps ≡ Ok t
          → IsStatedBy kind (policy_named ps name) (field s) (field t)
      stated-after earlier s t [] e = ap field (sym (ok-is s t e))
      stated-after earlier s t (p ∷ ps) e =
          let h = met-once earlier s t p ps e in
          by_name h.0 (is_named name p) refl h.1 h.3 (stated-after (p.name ∷ earlier) h.0 t ps h.2)
        where
          by_name : (u : Stated) (b : Bool) → is_named name p ≡ b → states_also p s ≡ Ok u
              → policy_named ps p.name ≡ None → IsStatedBy kind (policy_named ps name) (field u) (field t)
              → IsStatedBy kind (cond b (Some p) (policy_named ps name)) (field s) (field t)
          by_name u true is done once rest =
              let one = same-name p.name name is in
              let none : policy_named ps name ≡ None = subst (λ (n : List ℕ). policy_named ps n ≡ None) one once in
              let kept : field t ≡ field u =
              subst (λ (o : Option Policy). IsStatedBy kind o (field u) (field t)) none rest in
              subst (λ (x : Option A). stated_value kind p ≡ Ok x) (sym kept) (reads p s u one done)
          by_name u false is done once rest =
              subst (λ (x : Option A). IsStatedBy kind (policy_named ps name) x (field t))
              (unnamed-keeps policies keepers p s u is done) rest

      pub stated-is : (ps : List Policy) (s : Stated) → stated ps ≡ Ok s
          → IsStatedBy kind (policy_named ps name) (field nothing) (field s)
      stated-is ps s e = stated-after [] nothing s ps e

-- what a policy of its own name states
pub named-states : {A : Type 0} (kind : PolicyKind A) (put : Option A → Stated → Stated) (field : Stated → Option A)
    (name : List ℕ) → ((x : Option A) (s : Stated) → field (put x s) ≡ x)
    → ((p : Policy) (s : Stated) → p.name ≡ name → states_also p s ≡ states kind put p s)
    → (p : Policy) (s t : Stated) → p.name ≡ name → states_also p s ≡ Ok t → stated_value kind p ≡ Ok (field t)
named-states {A} kind put field name puts listed p s t is e =
    let h = along (stated_value kind p) (λ x. Ok (put x s)) t (sym (listed p s is) ∙ e) in
    let so : put h.0 s ≡ t = ok-is (put h.0 s) t h.2 in
    subst (λ (x : Option A). stated_value kind p ≡ Ok x) (sym (puts h.0 s) ∙ ap field so) h.1

-- two lists with the same policy of a name state the same
pub same-stated : {A : Type 0} (kind : PolicyKind A) (o : Option Policy) (before x y : Option A) → IsStatedBy kind o before x
    → IsStatedBy kind o before y → x ≡ y
same-stated kind None before x y h k = h ∙ sym k
same-stated kind (Some p) before x y h k = ok-is x y (sym h ∙ k)
