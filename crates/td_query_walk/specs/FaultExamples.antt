-- Worked examples of the count of faults.
use Rattle.std.specs.Prelude.{◌≡◌, ◌^◌, ◌-◌, [], ◌∷◌}
use Rattle.td_walk.specs.Peering.{Answered, Exchange, Failed, Querying}
use Rattle.td_walk.specs.declared.fault.PeerFault.TheVariants as fault
use Rattle.td_walk.specs.declared.trace.TraceItem.TheVariants as item
use Rattle.td_query_walk.specs.Examples.{example_query, elsewhere, given_there}
use Rattle.td_query_walk.specs.Faults.{CountsOver, failures}

-- a query of a trader outside, which answers or can't be reached
abbrev pub answered_exchange : Exchange
answered_exchange = record { call = Querying elsewhere example_query; gave = Answered given_there }

abbrev pub unreached_exchange : Exchange
unreached_exchange = record { call = Querying elsewhere example_query; gave = Failed fault.Wire }

pub record WorkedFaults : Type 0 where
  -- of two calls one failed, and the count rose by one
  pub one_of_two : CountsOver (answered_exchange ∷ unreached_exchange ∷ []) 3 4
  -- it doesn't stand still at a call that failed, wherever that stands
  pub not_as_it_was : CountsOver (answered_exchange ∷ unreached_exchange ∷ []) 3 3 → ⊥
  pub not_before : CountsOver (unreached_exchange ∷ answered_exchange ∷ []) 3 3 → ⊥
  -- nor does it rise by one where two failed
  pub not_once_for_two : CountsOver (unreached_exchange ∷ unreached_exchange ∷ []) 3 4 → ⊥
  -- it may rise where no call failed, and never falls
  pub none_failed : CountsOver (answered_exchange ∷ []) 3 4
  pub not_back : CountsOver [] 4 3 → ⊥
  -- it stands still at its last value
  pub last : CountsOver (unreached_exchange ∷ []) (2 ^ 64 - 1) (2 ^ 64 - 1)
  -- the items that show a call that failed
  pub items : failures (item.Search 0 2 1 ∷ item.Outside given_there ∷ item.Failed fault.Wire
      ∷ item.Leave ∷ []) ≡ 1
