-- What the truth value before a batch says (OMG's Trading Object Service, next_n of the interfaces OfferIterator and
-- OfferIdIterator; OMG's Naming Service, next_n of the interface BindingIterator).
use Rattle.std.specs.Prelude.{Bool}
use Rattle.td_iter.specs.declared.truth.Truth.{Truth}
use Rattle.td_iter.specs.declared.truth.Truth.TheVariants.{SomeLeft, SomeGiven}

-- of a batch that has some items or none, and leaves some or none behind
abbrev pub content : Truth → Bool → Bool → Bool
content SomeLeft given left = left
content SomeGiven given left = given
