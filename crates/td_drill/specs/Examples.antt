-- Worked examples of tallies and of a line.
use Rattle.std.specs.Prelude.{◌≡◌, ℕ, List, [], ◌∷◌, codes}
use Rattle.td_drill.specs.Lines.{drill_line}
use Rattle.td_drill.specs.Tallies.{no_walk, tally_of, together}
use Rattle.td_drill.specs.declared.tally.Tally.{Tally}
use Rattle.td_value.specs.declared.structures.Offer.{Offer}
use Rattle.td_walk.specs.declared.trace.TraceItem.{TraceItem}
use Rattle.td_walk.specs.declared.trace.TraceItem.TheVariants as item
use Rattle.td_walk.specs.declared.trace.Visit.TheVariants as visit

-- the walk from the first of two traders on, both of whose links lead to the other one, and the other's back to it
abbrev pub ring : List TraceItem
ring =
    item.Search 0 0 1
    ∷ item.Search 1 0 1
    ∷ item.Repeat 0 0 1
    ∷ item.Repeat 0 0 1
    ∷ item.Leave
    ∷ item.Repeat 1 0 1
    ∷ item.Leave
    ∷ []

abbrev pub tally : (queries searched repeats returned : ℕ) → Tally
tally queries searched repeats returned =
    record { queries = queries; searched = searched; repeats = repeats; returned = returned }

pub record WorkedDrills : Type 0 where
  pub walk : (a b : Offer)
      → tally_of ring (visit.Answered (record { offers = a ∷ b ∷ []; limits = [] }) 100)
      ≡ tally 1 2 3 2
  pub twice : together (tally 1 2 3 11) (tally 1 2 3 11) ≡ tally 2 4 6 22
  pub first : together no_walk (tally 1 2 3 11) ≡ tally 1 2 3 11
  pub line : drill_line 2 20 (tally 2 4 6 22)
      ≡ codes "traders 2 offers 20 queries 2 searched 4 repeats 6 returned 22\n"
