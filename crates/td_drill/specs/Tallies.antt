-- What walks come to, in numbers: how many they are, how many searches and repeats their traces show, and how many
-- offers they give (OMG's Trading Object Service, interface Lookup, query).
use Rattle.std.specs.Prelude.{◌+◌, Bool, true, false, List, count_by, length}
use Rattle.td_walk.specs.declared.trace.TraceItem.{TraceItem}
use Rattle.td_walk.specs.declared.trace.TraceItem.TheVariants as item
use Rattle.td_walk.specs.declared.trace.Visit.{Visit}
use Rattle.td_query_walk.specs.Walks.{answer_in}
use Rattle.td_drill.specs.declared.tally.Tally.{Tally}

unfoldable pub is_search : TraceItem → Bool
is_search (item.Search trader point mark) = true
is_search other = false

unfoldable pub is_repeat : TraceItem → Bool
is_repeat (item.Repeat trader point mark) = true
is_repeat other = false

abbrev pub no_walk : Tally
no_walk = record { queries = 0; searched = 0; repeats = 0; returned = 0 }

-- of one walk: its trace, and the visit that it comes to
abbrev pub tally_of : List TraceItem → Visit → Tally
tally_of items v = record {
  queries = 1;
  searched = count_by is_search items;
  repeats = count_by is_repeat items;
  returned = length (answer_in v).offers;
}

-- of both one's walks and the other's
abbrev pub together : Tally → Tally → Tally
together a b = record {
  queries = a.queries + b.queries;
  searched = a.searched + b.searched;
  repeats = a.repeats + b.repeats;
  returned = a.returned + b.returned;
}
