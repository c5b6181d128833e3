-- A drill of a group: each trader in order is asked the same query, on which no others act, and no peer is there. What
-- the walks come to is told in one line.
use Rattle.std.specs.Prelude.{◌≡◌, ℕ, zero, suc, ◌+◌, List, [], ◌∷◌, codes, length, map}
use Rattle.td_drill.specs.Lines.{drill_line}
use Rattle.td_drill.specs.Tallies.{no_walk, tally_of, together}
use Rattle.td_drill.specs.declared.tally.Tally.{Tally}
use Rattle.td_fed.specs.Visiting.{Walks, course}
use Rattle.td_ops.specs.declared.call.Query.{Query}
use Rattle.td_trader.specs.PlainTraders.{PlainTrader, store_of}
use Rattle.td_trader.specs.Solos.{no_changes, solo_view, same_marks}
use Rattle.td_trader.specs.Worlds.{View}
use Rattle.td_value.specs.declared.unions.SpecifiedProps.TheVariants as props
use Rattle.td_walk.specs.declared.trace.Address.{Address}
use Rattle.td_walk.specs.declared.trace.TraceItem.{TraceItem}
use Rattle.td_walk.specs.declared.trace.Visit.{Visit}
use Rattle.td_query_walk.specs.Walks.{WalkState}

-- the query, which states no policies
abbrev pub drill_query : Query
drill_query = record {
  service_type = codes "Base";
  constraint = codes "Cost < 6";
  preference = codes "min Cost";
  policies = [];
  desired = props.None;
  how_many = 100;
}

-- one walk from trader k on comes to this
pub record WalksFromTrader (home : Address) (q : Query) (s : WalkState (List View)) (k : ℕ)
    (t : Tally)
    (u : WalkState (List View)) : Type 0 where
  pub items : List TraceItem
  pub visit : Visit
  pub walk : Walks no_changes same_marks home s k q items visit u
  pub tally : t ≡ tally_of items visit

-- The query was asked of the first so many traders, one after the other, and this is what the walks come to in all.
pub data DrillsFirst (home : Address) (q : Query) (s : WalkState (List View)) : (count : ℕ) → Tally
    → WalkState (List View) → Type 0 where
  none : DrillsFirst home q s zero no_walk s
  more : (k : ℕ) (t one : Tally) (m u : WalkState (List View)) → DrillsFirst home q s k t m
      → WalksFromTrader home q m k one u → DrillsFirst home q s (suc k) (together t one) u

-- each trader was asked
pub record DrillsAll (words : ℕ → ℕ) (home : Address) (traders : List PlainTrader)
    (t : Tally) : Type 0 where
  pub later : WalkState (List View)
  pub drilled : DrillsFirst home drill_query (course (map solo_view traders) words [])
      (length traders) t later

-- how many offers these traders have in all
abbrev pub offers_in : List PlainTrader → ℕ
offers_in [] = 0
offers_in (t ∷ ts) = length (store_of t).offers + offers_in ts

-- This is the line of a drill of these traders, from these random words on.
pub record Drills (words : ℕ → ℕ) (home : Address) (traders : List PlainTrader)
    (line : List ℕ) : Type 0 where
  pub tally : Tally
  pub asks : DrillsAll words home traders tally
  pub content : line ≡ drill_line (length traders) (offers_in traders) tally
