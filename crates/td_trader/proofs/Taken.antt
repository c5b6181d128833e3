-- A query that isn't refused has policies that can be read.
use Rattle.std.proofs.Common.{◌≡◌, None, Some, Result, Ok, Err, refl}
use Rattle.std.specs.Result.{result_unwrap_or}
use Rattle.td_policy.specs.Stated.{nothing, stated}
use Rattle.td_policy.specs.declared.fault.PolicyFault.{PolicyFault}
use Rattle.td_policy.specs.declared.stated.Stated.{Stated}
use Rattle.td_register.specs.Causes.{Cause, with_cause, ◌otherwise◌}
use Rattle.td_register.specs.Named.{type_found}
use Rattle.td_register.specs.Registers.{asked_in, no_more}
use Rattle.td_trader.specs.Queries.{others_cause, parts_cause, parts_of, preferred_in, refusal, stated_in}
use Rattle.td_trader.specs.Queries.{unless_fault, TakenQueriesAreRead}

-- neither of two causes is there where no first one is
neither : (a b : Cause) → (a otherwise b) ≡ None → (a ≡ None) × (b ≡ None)
neither None b h = (refl, h)
neither (Some f) b h = absurd (let bad : ⊥ = cc in bad)

read : (r : Result Stated PolicyFault) → with_cause (unless_fault r) no_more ≡ None → r ≡ Ok (result_unwrap_or r nothing)
read (Ok s) h = refl
read (Err f) h = absurd (let bad : ⊥ = cc in bad)

pub taken_are_read : TakenQueriesAreRead
unfolding refusal
taken_are_read bounds count s q h =
    let of_type = with_cause (type_found s.types.types q.service_type) no_more in
    let others = others_cause bounds count s.links q (parts_of q).stated in
    let texts = with_cause (asked_in q.constraint) no_more in
    let preference = with_cause (preferred_in q.preference) no_more in
    let policies = with_cause (stated_in q.policies) no_more in
    let a = neither of_type (parts_cause q otherwise others) h in
    let b = neither (parts_cause q) others a.1 in
    let c = neither texts (preference otherwise policies) b.0 in
    read (stated q.policies) (neither preference policies c.1).1
