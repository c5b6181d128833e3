use Rattle.std.proofs.Common.{◌≡◌, ℕ, Bool, true, false, ◌||◌, Some, length, nat_le, refl}
use Rattle.td_store.specs.OfferLists.{most_offers}
use Rattle.td_register.specs.Causes.{limit_if}
use Rattle.td_register.specs.Properties.{is_too_large}
use Rattle.td_register.specs.Registers.{last_number}
use Rattle.td_register.specs.declared.refusal.Refusal.TheVariants.{Limit}
use Rattle.td_export.proofs.exporting.check_limits.Goals as goal

is_last : (n : ℕ) → n ≡ last_number → nat_le last_number n ≡ true
is_last n h = rw h refl

limited : (many last large : Bool) → last ≡ true → limit_if (many || last || large) ≡ Some Limit
limited true last large h = refl
limited false last large h = rw h refl

pub returns-then-store : goal.returns-then-store
returns-then-store c =
    let s = c.args.store.now in
    limited (nat_le most_offers (length s.offers)) (nat_le last_number s.last_offer)
    (is_too_large c.args.reference.now c.args.properties.now) (is_last s.last_offer c.if-store.true)
