-- Policies by their names: what replacing and taking out leave under a name.
use Rattle.std.proofs.Common.{◌≡◌, ℕ, Bool, true, false, List, [], ◌∷◌, Some, None, refl, sym, ap, ◌∙◌, cond, not}
use Rattle.std.specs.Str.{bytes_eq}
use Rattle.std.proofs.lemmas.Slice.Eq.{bytes_eq-Decides}
use Rattle.td_value.specs.declared.structures.Policy.{Policy}
use Rattle.td_walk.specs.Passing.{is_named, policy_named, with_policy, without_policy}

pub itself : (name : List ℕ) → bytes_eq name name ≡ true
itself name = (bytes_eq-Decides name name).1 refl

pub same-name : (name other : List ℕ) → bytes_eq name other ≡ true → name ≡ other
same-name name other e = (bytes_eq-Decides name other).0 e

-- the policy that was put is the one of its name
pub put-is-named : (p : Policy) (ps : List Policy) → policy_named (with_policy p ps) p.name ≡ Some p
put-is-named p [] = rw (itself p.name) refl
put-is-named p (q ∷ qs) = by_name (put-is-named p qs) (is_named p.name q) refl
  where
    by_name : policy_named (with_policy p qs) p.name ≡ Some p → (b : Bool) → is_named p.name q ≡ b
        → policy_named (cond b (p ∷ qs) (q ∷ with_policy p qs)) p.name ≡ Some p
    by_name rest true e = rw (itself p.name) refl
    by_name rest false e = rw e rest

-- under another name all stays
pub others-stay : (name : List ℕ) (p : Policy) (ps : List Policy) → is_named name p ≡ false
    → policy_named (with_policy p ps) name ≡ policy_named ps name
others-stay name p [] other = rw other refl
others-stay name p (q ∷ qs) other = by_name (others-stay name p qs other) (is_named p.name q) refl
  where
    apart : is_named p.name q ≡ true → is_named name q ≡ false
    apart same = ap (λ (n : List ℕ). bytes_eq n name) (same-name q.name p.name same) ∙ other

    by_rest : policy_named (with_policy p qs) name ≡ policy_named qs name → (b : Bool)
        → cond b (Some q) (policy_named (with_policy p qs) name) ≡ cond b (Some q) (policy_named qs name)
    by_rest rest true = refl
    by_rest rest false = rest

    by_name : policy_named (with_policy p qs) name ≡ policy_named qs name → (b : Bool) → is_named p.name q ≡ b
        → policy_named (cond b (p ∷ qs) (q ∷ with_policy p qs)) name ≡ policy_named (q ∷ qs) name
    by_name rest true e = rw (other, apart e) refl
    by_name rest false e = by_rest rest (is_named name q)

-- what is taken out is gone
pub taken-is-gone : (name : List ℕ) (ps : List Policy) → policy_named (without_policy name ps) name ≡ None
taken-is-gone name [] = refl
taken-is-gone name (q ∷ qs) = by_name (taken-is-gone name qs) (is_named name q) refl
  where
    by_name : policy_named (without_policy name qs) name ≡ None → (b : Bool) → is_named name q ≡ b
        → policy_named (cond (not b) (q ∷ without_policy name qs) (without_policy name qs)) name ≡ None
    by_name rest true e = rest
    by_name rest false e = rw e rest

-- and nothing else
pub others-are-left : (name other : List ℕ) (ps : List Policy) → bytes_eq other name ≡ false
    → policy_named (without_policy name ps) other ≡ policy_named ps other
others-are-left name other [] apart = refl
others-are-left name other (q ∷ qs) apart =
    by_name (others-are-left name other qs apart) (is_named name q) (is_named other q) refl refl
  where
    by_name : policy_named (without_policy name qs) other ≡ policy_named qs other → (b d : Bool)
        → is_named name q ≡ b → is_named other q ≡ d
        → policy_named (cond (not b) (q ∷ without_policy name qs) (without_policy name qs)) other
        ≡ cond d (Some q) (policy_named qs other)
    by_name rest true true e f =
        let one : q.name ≡ name = same-name q.name name e in
        let two : q.name ≡ other = same-name q.name other f in
        let same : bytes_eq other name ≡ true = (bytes_eq-Decides other name).1 (sym two ∙ one) in
        absurd cc
    by_name rest true false e f = rest
    by_name rest false true e f = rw f refl
    by_name rest false false e f = rw f rest
