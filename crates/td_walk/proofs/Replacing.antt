-- A policy is put in the place of the one of its name, or else at the end.
use Rattle.std.proofs.Common.{◌≡◌, ℕ, suc, ◌+◌, ◌<◌, ◌≤◌, Bool, true, false, List, [], ◌∷◌, ◌++◌, length, Some}
use Rattle.std.proofs.Common.{None, refl, ap, ◌∙◌, set, arith, not, cond}
use Rattle.std.proofs.lemmas.Grind.{common_steps}
use Rattle.std.specs.List.{position, position_or_len}
use Rattle.td_value.specs.declared.structures.Policy.{Policy}
use Rattle.td_walk.specs.Passing.{is_named, with_policy}

within : (p : Policy) (ps : List Policy) → position_or_len (is_named p.name) ps < length ps
    → with_policy p ps ≡ set ps (position_or_len (is_named p.name) ps) p
within p [] lt = absurd (omega arith)
within p (q ∷ qs) lt = by_name (within p qs) (is_named p.name q) refl lt
  where
    by_name : (position_or_len (is_named p.name) qs < length qs
        → with_policy p qs ≡ set qs (position_or_len (is_named p.name) qs) p)
        → (b : Bool) → is_named p.name q ≡ b
        → cond (not b) (1 + position_or_len (is_named p.name) qs) 0 < length (q ∷ qs)
        → cond b (p ∷ qs) (q ∷ with_policy p qs)
        ≡ set (q ∷ qs) (cond (not b) (1 + position_or_len (is_named p.name) qs) 0) p
    by_name rest true e lt = refl
    by_name rest false e lt =
        let one : suc (position_or_len (is_named p.name) qs) ≡ 1 + position_or_len (is_named p.name) qs = omega arith in
        ap (λ (xs : List Policy). q ∷ xs) (rest (omega (arith, lt))) ∙ ap (λ (n : ℕ). set (q ∷ qs) n p) one

past : (p : Policy) (ps : List Policy) → length ps ≤ position_or_len (is_named p.name) ps
    → with_policy p ps ≡ ps ++ p ∷ []
past p [] le = refl
past p (q ∷ qs) le = by_name (past p qs) (is_named p.name q) refl le
  where
    by_name : (length qs ≤ position_or_len (is_named p.name) qs → with_policy p qs ≡ qs ++ p ∷ [])
        → (b : Bool) → is_named p.name q ≡ b
        → length (q ∷ qs) ≤ cond (not b) (1 + position_or_len (is_named p.name) qs) 0
        → cond b (p ∷ qs) (q ∷ with_policy p qs) ≡ q ∷ (qs ++ p ∷ [])
    by_name rest true e le = absurd (omega (arith, le))
    by_name rest false e le = ap (λ (xs : List Policy). q ∷ xs) (rest (omega (arith, le)))

pub at_its_place : (p : Policy) (ps : List Policy) (i : ℕ) → position (is_named p.name) ps ≡ Some i
    → with_policy p ps ≡ set ps i p
at_its_place p ps i e =
    let at : position_or_len (is_named p.name) ps ≡ i = grind (arith, common_steps) in
    let inside : i < length ps = grind (arith, common_steps) in
    within p ps (omega (arith, at, inside)) ∙ ap (λ (n : ℕ). set ps n p) at

pub at_the_end : (p : Policy) (ps : List Policy) → position (is_named p.name) ps ≡ None
    → with_policy p ps ≡ ps ++ p ∷ []
at_the_end p ps e = past p ps (grind (arith, common_steps))
