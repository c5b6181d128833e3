-- The types of what td_lines keeps while it reads, which it doesn't name to others.
use Rattle.std.specs.Prelude.{[], None}
use Rattle.td_ior.specs.Nil.{nil}
use Rattle.td_lines.specs.Drafts.{nothing_yet}
use Rattle.td_lines.specs.Offered.{new_offer}

abbrev type_of : {A : Type 0} → A → Type 0
type_of {A} x = A

abbrev pub Draft : Type 0
Draft = type_of nothing_yet

abbrev pub OpenOffer : Type 0
OpenOffer = type_of (new_offer 0 [] nil None)
