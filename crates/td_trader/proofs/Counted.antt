-- A query that is taken has room for its mark.
use Rattle.std.proofs.Common.{◌≡◌, ℕ, ◌<◌, ◌≤◌, ◌^◌, Bool, true, false, nat_le, None, Some, refl, arith}
use Rattle.std.proofs.lemmas.Bool.{leb-false}
use Rattle.td_ops.specs.declared.call.Query.{Query}
use Rattle.td_register.specs.Causes.{Cause, with_cause, limit_if, ◌otherwise◌}
use Rattle.td_register.specs.Named.{type_found}
use Rattle.td_trader.specs.Queries.{desired_cause, first_name, parts_cause, parts_of, refusal, start_cause}
use Rattle.td_register.specs.Registers.{no_more}
use Rattle.td_register.specs.Stores.{Store}
use Rattle.td_changes.specs.declared.bounds.Bounds.{Bounds}

no_later : (a b : Cause) → (a otherwise b) ≡ None → b ≡ None
no_later None b h = h
no_later (Some f) b h = absurd (let bad : ⊥ = cc in bad)

no_limit : (passed : Bool) → limit_if passed ≡ None → passed ≡ false
no_limit true h = absurd (let bad : ⊥ = cc in bad)
no_limit false h = refl

pub has-room : (bounds : Bounds) (count : ℕ) (s : Store) (q : Query) → refusal bounds count s q ≡ None
    → bounds.begins ≤ 2 ^ 40 → count < 2 ^ 40
unfolding refusal
has-room bounds count s q h most =
    let others = no_later (parts_cause q) _ (no_later (with_cause (type_found s.types.types q.service_type) no_more) _ h) in
    let last = no_later (start_cause s.links q.policies (first_name (parts_of q).stated)) _ (no_later (desired_cause
    q.desired) _ others) in
    let below : count < bounds.begins = leb-false bounds.begins count (no_limit (nat_le bounds.begins count) last) in
    omega arith
