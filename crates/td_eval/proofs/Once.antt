-- The names that are asked for: each once, and just those that are mentioned.
use Rattle.std.proofs.Common.{◌≡◌, ℕ, List, [], ◌∷◌, ◌++◌, Bool, true, false, ◌||◌, if◌then◌else◌, refl, ap, sym, ◌∙◌}
use Rattle.std.proofs.Common.{subst}
use Rattle.std.specs.Cmp.{IsEquivalence}
use Rattle.std.specs.List.{IsDistinct, list_any}
use Rattle.std.specs.Str.{bytes_eq}
use Rattle.std.proofs.Math.Bool.{or_assoc, or-false, or-true}
use Rattle.std.proofs.lemmas.Cmp.{nat_list_eq_equiv}
use Rattle.std.proofs.lemmas.List.Folds.{list_any-append}
use Rattle.std.proofs.lemmas.Map.Keys.{IsDistinct-push}
use Rattle.std.proofs.lemmas.Slice.Eq.{bytes_eq-Decides}
use Rattle.td_lang.specs.declared.expr.Constraint.{Constraint}
use Rattle.td_lang.specs.declared.expr.Preference.{Preference}
use Rattle.td_eval.specs.Mentioning.{Names, with_name, with_names, constraint_names, preference_names, names_asked}
use Rattle.td_eval.specs.Mentioning.{is_mentioned}

turned : (name : List ℕ) (names : Names)
    → list_any (bytes_eq name) names ≡ list_any (λ other. bytes_eq other name) names
turned name [] = refl
turned name (x ∷ names) =
    ap (λ b. b || list_any (bytes_eq name) names) (nat_list_eq_equiv.symm name x)
    ∙ ap (λ b. bytes_eq x name || b) (turned name names)

-- ---- each once

apart : (names : Names) (name : List ℕ) (b : Bool) → list_any (λ other. bytes_eq other name) names ≡ b
    → IsDistinct bytes_eq names → IsDistinct bytes_eq (if b then names else names ++ name ∷ [])
apart names name true e d = d
apart names name false e d = IsDistinct-push nat_list_eq_equiv names name d (turned name names ∙ e)

all_apart : (names further : Names) → IsDistinct bytes_eq names → IsDistinct bytes_eq (with_names names further)
unfolding with_names
all_apart names [] d = d
all_apart names (name ∷ further) d = all_apart (with_name names name) further (apart names name _ refl d)

pub each_once : (c : Constraint) (p : Preference) → IsDistinct bytes_eq (names_asked c p)
unfolding IsDistinct
each_once c p = all_apart [] (constraint_names c ++ preference_names p) tt

-- ---- just those

-- a name is there already, and so is whatever equals it
there : (name new : List ℕ) (names : Names) → list_any (λ other. bytes_eq other new) names ≡ true → (b : Bool)
    → bytes_eq name new ≡ b → is_mentioned name names ≡ (is_mentioned name names || b)
there name new names h false e = sym (or-false (is_mentioned name names))
there name new names h true e =
    let same : name ≡ new = (bytes_eq-Decides name new).0 e in
    subst (λ n. is_mentioned n names ≡ (is_mentioned n names || true)) (sym same)
    ((turned new names ∙ h) ∙ sym (or-true (is_mentioned new names)))

one_more : (name new : List ℕ) (names : Names) (b : Bool) → list_any (λ other. bytes_eq other new) names ≡ b
    → is_mentioned name (if b then names else names ++ new ∷ []) ≡ (is_mentioned name names || bytes_eq name new)
one_more name new names true e = there name new names e _ refl
one_more name new names false e =
    list_any-append (bytes_eq name) names (new ∷ [])
    ∙ ap (λ b. is_mentioned name names || b) (or-false (bytes_eq name new))

all_more : (name : List ℕ) (names further : Names)
    → is_mentioned name (with_names names further) ≡ (is_mentioned name names || is_mentioned name further)
unfolding with_names
all_more name names [] = sym (or-false (is_mentioned name names))
all_more name names (new ∷ further) =
    all_more name (with_name names new) further
    ∙ ap (λ b. b || is_mentioned name further) (one_more name new names _ refl)
    ∙ or_assoc (is_mentioned name names) (bytes_eq name new) (is_mentioned name further)

pub just_those : (c : Constraint) (p : Preference) (name : List ℕ)
    → is_mentioned name (names_asked c p) ≡ is_mentioned name (constraint_names c ++ preference_names p)
just_those c p name = all_more name [] (constraint_names c ++ preference_names p)
