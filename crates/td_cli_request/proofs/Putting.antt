-- A policy that was made stands behind those that were there.
use Rattle.std.proofs.Common.{◌≡◌, ℕ, Bool, true, List, [], ◌∷◌, ◌++◌, Option, Some, Result, OnOk, sym, subst}
use Rattle.std.specs.Prelude.{codes}
use Rattle.td_policy.specs.Values.{number, octets, policy, truth}
use Rattle.td_value.specs.declared.structures.Policy.{Policy}
use Rattle.td_cli_request.specs.Policies.{with_exact, with_hops, with_id}

pub exact_behind : (exact : Bool) (ps new : List Policy) (p : Policy) → exact ≡ true
    → p ≡ policy truth (codes "exact_type_match") true → new ≡ ps ++ p ∷ [] → new ≡ with_exact exact ps
exact_behind exact ps new p is e h =
    subst (λ (b : Bool). new ≡ with_exact b ps) (sym is) (subst (λ (x : Policy). new ≡ ps ++ x ∷ []) e h)

pub hops_behind : {E : Type 0} (r : Result (Unit {0}) E) (hops : Option ℕ) (n : ℕ) (ps new : List Policy) (p : Policy)
    → hops ≡ Some n → p ≡ policy number (codes "hop_count") n → OnOk r (new ≡ ps ++ p ∷ [])
    → OnOk r (new ≡ with_hops hops ps)
hops_behind r hops n ps new p is e h =
    subst (λ (o : Option ℕ). OnOk r (new ≡ with_hops o ps)) (sym is)
    (subst (λ (x : Policy). OnOk r (new ≡ ps ++ x ∷ [])) e h)

pub id_behind : {E : Type 0} (r : Result (Unit {0}) E) (id : Option (List ℕ)) (o lent : List ℕ) (ps new : List Policy)
    → (p : Policy) → id ≡ Some o → lent ≡ o → p ≡ policy (octets 0) (codes "request_id") lent
    → OnOk r (new ≡ ps ++ p ∷ []) → OnOk r (new ≡ with_id id ps)
id_behind r id o lent ps new p is same e h =
    let made : p ≡ policy (octets 0) (codes "request_id") o =
    subst (λ (x : List ℕ). p ≡ policy (octets 0) (codes "request_id") x) same e in
    subst (λ (x : Option (List ℕ)). OnOk r (new ≡ with_id x ps)) (sym is)
    (subst (λ (x : Policy). OnOk r (new ≡ ps ++ x ∷ [])) made h)
