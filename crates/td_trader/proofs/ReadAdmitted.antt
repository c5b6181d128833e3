-- The parameters of a change that is read from a request can be written.
use Rattle.std.proofs.Common.{◌≡◌, Option, Some, refl, ap, subst, sym, ◌∙◌, arith}
use Rattle.td_cdr.specs.Sound.{Sound}
use Rattle.td_cdr.specs.declared.value_fault.ValueFault.{ValueFault}
use Rattle.td_ops.specs.Called.{of_change}
use Rattle.td_ops.specs.declared.call.Call.TheVariants as call
use Rattle.td_ops.specs.declared.call.Change.{Change}
use Rattle.td_ops.specs.declared.call.Change.TheVariants as change
use Rattle.td_value.specs.Enumerations.{follow_option}
use Rattle.td_value.specs.declared.enumerations.FollowOption.{FollowOption}
use Rattle.td_value.specs.declared.enumerations.FollowOption.TheVariants.{LocalOnly, IfNoLocal, Always}
use Rattle.td_trader.specs.Admitted.{ReadChangesAreAdmitted}

-- each rule has a number of its own
pub follow-admitted : (f : FollowOption) → follow_option.format.admits f
follow-admitted LocalOnly = omega arith
follow-admitted IfNoLocal = omega arith
follow-admitted Always = omega arith

pub read_admitted : ReadChangesAreAdmitted
read_admitted (change.AddLink name target def_pass_on limiting register) h =
    let bad : call.AddLink h.0 ≡ call.Change (change.AddLink name target def_pass_on limiting register) = h.1 in
    absurd (let no : ⊥ = cc in no)
read_admitted c h = h

-- ---- the parameters of a change that can be written

some-same : {X : Type 0} (a b : X) → ◌≡◌ {A = Option X} (Some a) (Some b) → a ≡ b
some-same a b h = cc

-- the parameters of a variant, which are made into it and found in it again
pub parameters : {X : Type 0} (to : X → Change) (from : Change → Option X) (g : Sound ValueFault X) (x : X)
    → ((z : X) → from (to z) ≡ Some z)
    → (z : X) × (call.Change (to z) ≡ call.Change (to x)) × g.format.admits z → g.format.admits x
parameters to from g x back h =
    subst g.format.admits (some-same h.0 x (sym (back h.0) ∙ (ap (of_change from) h.1 ∙ back x))) h.2
