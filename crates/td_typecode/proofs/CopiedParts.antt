-- A copy that is made part by part.
use Rattle.std.proofs.Common.{◌≡◌, ℕ, ◌+◌, ◌<◌, List, [], ◌∷◌, ◌++◌, length, take, get_or, sym, ap, ◌∙◌}
use Rattle.std.proofs.lemmas.List.{take_more}
use Rattle.td_typecode.specs.declared.code.TypeCode.{TypeCode}
use Rattle.td_typecode.specs.declared.code.Value.{Value}
use Rattle.td_typecode.specs.declared.code.Any.{Any}
use Rattle.td_typecode.specs.declared.code.Arm.{Arm}
use Rattle.td_typecode.specs.declared.code.Member.{Member}

-- one item more was copied and added
pub took-more : {X : Type 0} (xs : List X) (i : ℕ) (m item : X) (old new : List X) → i < length xs
    → m ≡ get_or xs i m → old ≡ take i xs → item ≡ m → new ≡ old ++ item ∷ [] → new ≡ take (i + 1) xs
took-more {X = X} xs i m item old new lt is so_far same step =
    let one : take (i + 1) xs ≡ take i xs ++ m ∷ [] =
    take_more xs i m lt ∙ ap (λ (x : X). take i xs ++ x ∷ []) (sym is) in
    step ∙ ap (λ (l : List X). l ++ item ∷ []) so_far ∙ ap (λ (x : X). take i xs ++ x ∷ []) same ∙ sym one

abbrev pub any_with : TypeCode → Value → Any
any_with t v = record { code = t; value = v }

abbrev pub arm_with : Value → List ℕ → TypeCode → Arm
arm_with l n t = record { label = l; name = n; code = t }

abbrev pub member_with : List ℕ → TypeCode → Member
member_with n t = record { name = n; code = t }

pub any-same : (a : Any) (t : TypeCode) (v : Value) → t ≡ a.code → v ≡ a.value → any_with t v ≡ a
any-same a t v e f = ap (λ (x : TypeCode). any_with x v) e ∙ ap (any_with a.code) f

pub arm-same : (a : Arm) (l : Value) (n : List ℕ) (t : TypeCode) → l ≡ a.label → n ≡ a.name → t ≡ a.code
    → arm_with l n t ≡ a
arm-same a l n t e f g =
    ap (λ (x : Value). arm_with x n t) e ∙ ap (λ (x : List ℕ). arm_with a.label x t) f
    ∙ ap (arm_with a.label a.name) g

pub member-same : (m : Member) (n : List ℕ) (t : TypeCode) → n ≡ m.name → t ≡ m.code → member_with n t ≡ m
member-same m n t e f = ap (λ (x : List ℕ). member_with x t) e ∙ ap (member_with m.name) f
