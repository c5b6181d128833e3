-- What the functions behind withdraw_using_constraint answer.
use Rattle.std.specs.Prelude.{◌≡◌, ℕ, Bool, not, ◌&&◌, is_some, List, [], ◌∷◌, None, Result, Ok, Err}
use Rattle.td_eval.specs.Values.{matches_constraint}
use Rattle.td_lang.specs.declared.expr.Constraint.{Constraint}
use Rattle.td_store.specs.OfferLists.{without_offer}
use Rattle.td_store.specs.declared.record.OfferRecord.{OfferRecord}
use Rattle.td_register.specs.Judged.{IsMet}
use Rattle.td_register.specs.Registers.{asked_in, offers_not_met, static_properties, withdraw_met_cause}
use Rattle.td_register.specs.Stores.{Store}
use Rattle.td_register.specs.declared.refusal.Fault.{Fault}

-- an ordinary offer whose properties match
abbrev pub meets : Constraint → OfferRecord → Bool
meets c o = not (is_some o.proxy) && matches_constraint (static_properties o.properties) c

-- one after the other is taken away
abbrev pub without_offers : List ℕ → List OfferRecord → List OfferRecord
without_offers [] offers = offers
without_offers (n ∷ ns) offers = without_offers ns (without_offer n offers)

-- the numbers of the offers that are withdrawn; or what is at fault
abbrev pub IsWithdrawal : Store → (type_name text : List ℕ) → Result (List ℕ) Fault → Type 0
IsWithdrawal s type_name text (Ok numbers) =
    (withdraw_met_cause s type_name text ≡ None)
    × (offers_not_met s type_name (asked_in text) ≡ without_offers numbers s.offers)
IsWithdrawal s type_name text (Err f) = IsMet (withdraw_met_cause s type_name text) f
