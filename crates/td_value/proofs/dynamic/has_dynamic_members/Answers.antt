use Rattle.std.proofs.Common.{◌≡◌, ℕ, suc, false, List, [], ◌∷◌, length, map, refl, sym, ap, arith}
use Rattle.std.proofs.lemmas.List.{length-map}
use Rattle.std.proofs.Math.Bool.{and-false}
use Rattle.td_typecode.specs.Same.{Component, row, member_entry}
use Rattle.td_value.specs.Dynamic.{has_kinds, dynamic_kinds}
use Rattle.td_value.proofs.dynamic.has_dynamic_members.Goals as goal

-- not as many
kinds-long : (kinds : List ℕ) (es : List Component) → (length kinds ≡ length es → ⊥) → has_kinds kinds (row es) ≡ false
kinds-long [] [] no_match = absurd (no_match refl)
kinds-long [] (e ∷ es) no_match = refl
kinds-long (kind ∷ kinds) [] no_match = refl
kinds-long (kind ∷ kinds) (e ∷ es) no_match = rw (kinds-long kinds es (λ e. no_match (ap suc e))) (and-false _)

pub returns-in_default : goal.returns-in_default
returns-in_default c =
    sym (kinds-long dynamic_kinds (map member_entry c.args.members.now)
    (λ e. let bad : ⊥ = omega (arith, e, length-map c.args.members.now member_entry, c.in_default.len_below) in
    bad))

pub returns-in_default-2 : goal.returns-in_default-2
returns-in_default-2 c =
    sym (kinds-long dynamic_kinds (map member_entry c.args.members.now)
    (λ e. let bad : ⊥ = omega (arith, e, length-map c.args.members.now member_entry, c.in_default.len_at_least) in
    bad))
