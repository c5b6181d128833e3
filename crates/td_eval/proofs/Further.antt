-- Properties behind others, under names that aren't asked for.
use Rattle.std.proofs.Common.{◌≡◌, ℕ, List, [], ◌∷◌, ◌++◌, Bool, true, false, cond, Option, Some, None, option_map}
use Rattle.std.proofs.Common.{refl, ap}
use Rattle.std.specs.List.{find}
use Rattle.std.specs.Str.{bytes_eq}
use Rattle.td_lang.specs.declared.expr.Constraint.{Constraint}
use Rattle.td_lang.specs.declared.expr.Constraint.TheVariants as constraint
use Rattle.td_typecode.specs.declared.code.Any.{Any}
use Rattle.td_value.specs.declared.structures.Property.{Property}
use Rattle.td_eval.specs.Mentioning.{Names, constraint_names}
use Rattle.td_eval.specs.Properties.{property}
use Rattle.td_eval.specs.Reading.{Agree, HasNone}
use Rattle.td_eval.specs.Values.{is_true, matches_constraint}
use Rattle.td_eval.proofs.Agreeing.{reads}

either : (b : Bool) (x : Property) (u v : Option Property)
    → option_map {U = Any} (λ p. p.value) u ≡ option_map (λ p. p.value) v
    → option_map {U = Any} (λ p. p.value) (cond b (Some x) u) ≡ option_map (λ p. p.value) (cond b (Some x) v)
either true x u v h = refl
either false x u v h = h

behind : (m more : List Property) (name : List ℕ) → property more name ≡ None
    → property (m ++ more) name ≡ property m name
unfolding property
behind [] more name h = h
behind (q ∷ m) more name h =
    either (bytes_eq q.name name) q (find (λ p. bytes_eq p.name name) (m ++ more)) (find (λ p. bytes_eq p.name name) m)
    (behind m more name h)

agree : (m more : List Property) (names : Names) → HasNone more names → Agree (m ++ more) m names
agree m more [] h = tt
agree m more (name ∷ names) h = (behind m more name h.0, agree m more names h.1)

pub further : (c : Constraint) (m more : List Property) → HasNone more (constraint_names c)
    → matches_constraint (m ++ more) c ≡ matches_constraint m c
further constraint.Empty m more h = refl
further (constraint.Is e) m more h =
    ap is_true (reads (m ++ more) m e (agree m more (constraint_names (constraint.Is e)) h))
