-- A list of policies is judged one by one: the first bad one decides.
use Rattle.std.proofs.Common.{◌≡◌, ℕ, List, [], ◌∷◌, ◌++◌, map, reverse, Result, Ok, Err, refl, ◌∙◌, ap}
use mathlib.Core.List.{reverse_aux}
use Rattle.td_value.specs.declared.structures.Policy.{Policy}
use Rattle.td_cdr.specs.Format.{◌>>=◌}
use Rattle.td_policy.specs.Stated.{next_stated, nothing, stated, stated_after}
use Rattle.td_policy.specs.declared.fault.PolicyFault.{PolicyFault}
use Rattle.td_policy.specs.declared.stated.Stated.{Stated}

-- a refusal stands where what comes after refuses alike
refused_along : {A B : Type 0} (r : Result A PolicyFault) (k h : A → Result B PolicyFault) (f : PolicyFault)
    → ((x : A) → k x ≡ Err f → h x ≡ Err f) → (r >>= k) ≡ Err f → (r >>= h) ≡ Err f
refused_along (Ok x) k h f alike is = alike x is
refused_along (Err e) k h f alike is = is

refused_after : (earlier : List (List ℕ)) (s : Stated) (ps after : List Policy) (f : PolicyFault)
    → stated_after earlier s ps ≡ Err f → stated_after earlier s (ps ++ after) ≡ Err f
refused_after earlier s [] after f is = cc
refused_after earlier s (p ∷ ps) after f is =
    refused_along (next_stated earlier s p) (λ t. stated_after (p.name ∷ earlier) t ps)
    (λ t. stated_after (p.name ∷ earlier) t (ps ++ after)) f
    (λ t. refused_after (p.name ∷ earlier) t ps after f) is

pub first_decides : (ps after : List Policy) (f : PolicyFault) → stated ps ≡ Err f → stated (ps ++ after) ≡ Err f
first_decides ps after f is = refused_after [] nothing ps after f is

and_no_more : {A : Type 0} (r : Result A PolicyFault) → (r >>= (λ x. Ok x)) ≡ r
and_no_more (Ok x) = refl
and_no_more (Err e) = refl

good_along : {A B : Type 0} (r : Result A PolicyFault) (k h : A → Result B PolicyFault) (u : B)
    (goal : Result B PolicyFault)
    → ((x : A) → k x ≡ Ok u → h x ≡ goal) → (r >>= k) ≡ Ok u → (r >>= h) ≡ goal
good_along (Ok x) k h u goal alike is = alike x is
good_along (Err e) k h u goal alike is = cc

good_after : (earlier : List (List ℕ)) (s t : Stated) (ps : List Policy) (p : Policy) → stated_after earlier s ps ≡ Ok t
    → stated_after earlier s (ps ++ p ∷ []) ≡ next_stated (reverse_aux (map (λ (q : Policy). q.name) ps) earlier) t p
good_after earlier s t [] p is =
    let same : s ≡ t = cc in
    and_no_more (next_stated earlier s p) ∙ ap (λ x. next_stated earlier x p) same
good_after earlier s t (q ∷ ps) p is =
    good_along (next_stated earlier s q) (λ x. stated_after (q.name ∷ earlier) x ps)
    (λ x. stated_after (q.name ∷ earlier) x (ps ++ p ∷ [])) t
    (next_stated (reverse_aux (map (λ (q : Policy). q.name) ps) (q.name ∷ earlier)) t p)
    (λ x. good_after (q.name ∷ earlier) x t ps p) is

pub next_decides : (ps : List Policy) (s : Stated) (p : Policy) → stated ps ≡ Ok s
    → stated (ps ++ p ∷ []) ≡ next_stated (reverse (map (λ (q : Policy). q.name) ps)) s p
next_decides ps s p is = good_after [] nothing s ps p is
