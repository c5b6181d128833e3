use Rattle.std.proofs.Common.{◌≡◌, ℕ, Bool, true, false, not, List, [], refl, sym, ap, ◌∙◌}
use Rattle.std.specs.Bool.{IsTrue}
use Rattle.std.specs.Prelude.{◌↔◌}
use Rattle.td_exceptions.specs.declared.exception.UserException.TheVariants.{NoMatchingOffers}
use Rattle.td_register.specs.Causes.{raise_if}
use Rattle.td_register.specs.Registers.{is_met}
use Rattle.td_modify.specs.Withdrawals.{without_offers}
use Rattle.td_modify.proofs.Withdrawn.{none-passes, one-passes, others-left}
use Rattle.td_modify.proofs.withdrawing.some_met.Goals as goal

is-empty : (b : Bool) (ns : List ℕ) → (IsTrue b ↔ (ns ≡ [])) → b ≡ true → ns ≡ []
is-empty true ns h e = h.0 refl
is-empty false ns h e = absurd cc

not-empty : (b : Bool) (ns : List ℕ) → (IsTrue b ↔ (ns ≡ [])) → b ≡ false → ns ≡ [] → ⊥
not-empty true ns h e k = absurd cc
not-empty false ns h e k = let bad : IsTrue false = h.1 k in cc bad

pub returns-then-is_empty : goal.returns-then-is_empty
returns-then-is_empty c =
    let p = is_met c.args.store.now.types.types c.args.asked.now c.args.constraint.now in
    let empty = is-empty c.is_empty.result c.in_ok-numbers.numbers c.is_empty.ensures c.if-is_empty.true in
    rw (c.raised.ensures, c.in_ok-copy.ensures) (ap (λ (b : Bool). raise_if (not b) (NoMatchingOffers
    c.args.text.now)) (none-passes
    p c.args.store.now.offers (sym c.in_ok-numbers.ensures ∙ empty)))

pub returns : goal.returns
returns c =
    let p = is_met c.args.store.now.types.types c.args.asked.now c.args.constraint.now in
    let offers = c.args.store.now.offers in (
      ap (λ (b : Bool). raise_if (not b) (NoMatchingOffers c.args.text.now)) (one-passes p offers (λ k. not-empty
          c.is_empty.result c.in_ok-numbers.numbers c.is_empty.ensures c.if-is_empty.false (c.in_ok-numbers.ensures
          ∙ k))),
      ap (λ (ns : List ℕ). without_offers ns offers) c.in_ok-numbers.ensures ∙ others-left p offers
          c.len-count.ensures.rise,
    )
