-- Worked trees: what one depth-first walk finds over the calls of some schedules, each of which asks A.
use Rattle.std.specs.Prelude.{ℕ, List, [], ◌∷◌, codes, Option, None, Some}
use Rattle.td_typecode.specs.declared.reference.Ior.{Ior}
use Rattle.td_net.specs.declared.call.Call.{Call}
use Rattle.td_net.specs.declared.call.QuestionStep.TheVariants.{Given, Lost}
use Rattle.td_net_examples.specs.Fixtures.{HasTree, answer_stage, call, found, offer_numbered, trader_with_link}
use Rattle.td_net_examples.specs.Fixtures.{linked_twice}
use Rattle.td_net_examples.specs.Fixtures.{repeat_stage, after_search, trader_without_links, without_first}
use Rattle.td_trader.specs.PlainTraders.{PlainTrader}

-- ---- a ring: A has a link to B, B one to C, and C one to A. C's question comes to A while A's own call waits.

abbrev pub ring : (to : List ℕ → Ior) → List Call
ring to =
    let a = trader_with_link to (codes "A") (codes "a") (codes "B") in
    let b = trader_with_link to (codes "B") (codes "b") (codes "C") in
    let c = trader_with_link to (codes "C") (codes "c") (codes "A") in
    call 0 3 9 None 0 a (Given 1 ∷ []) (answer_stage (codes "abc"))
    ∷ call 1 2 8 (Some 0) 1 b (Given 2 ∷ []) (answer_stage (codes "bc"))
    ∷ call 2 1 7 (Some 1) 2 c (Given 3 ∷ []) (answer_stage (codes "c"))
    ∷ call 0 0 6 (Some 2) 3 (after_search (codes "q") a) [] repeat_stage
    ∷ []

pub record WorkedRing (to : List ℕ → Ior) (inside : Ior → Option ℕ) (words : List ℕ) : Type 0 where
  pub at_a : HasTree (ring to) inside words 0 (found (codes "abc"))
  pub at_b : HasTree (ring to) inside words 1 (found (codes "bc"))
  pub at_c : HasTree (ring to) inside words 2 (found (codes "c"))
  pub again_at_a : HasTree (ring to) inside words 3 (found [])

-- two offers are wanted: B gives the second one, and asks nobody

abbrev pub stopped_calls : (to : List ℕ → Ior) → List Call
stopped_calls to =
    call 0 3 2 None 0 (trader_with_link to (codes "A") (codes "a") (codes "B")) (Given 1 ∷ [])
    (answer_stage (codes "ab"))
    ∷ call 1 2 1 (Some 0) 1 (trader_with_link to (codes "B") (codes "b") (codes "C")) []
    (answer_stage (codes "b"))
    ∷ []

pub record WorkedStop (to : List ℕ → Ior) (inside : Ior → Option ℕ) (words : List ℕ) : Type 0 where
  pub at_a : HasTree (stopped_calls to) inside words 0 (found (codes "ab"))
  pub at_b : HasTree (stopped_calls to) inside words 1 (found (codes "b"))

-- ---- a diamond: A has links to B and C, and each of these has one to D

abbrev pub top : (to : List ℕ → Ior) → PlainTrader
top to = linked_twice to (codes "A") (codes "a") (codes "B") (codes "C")

abbrev pub left : (to : List ℕ → Ior) → PlainTrader
left to = trader_with_link to (codes "B") (codes "b") (codes "D")

abbrev pub right : (to : List ℕ → Ior) → PlainTrader
right to = trader_with_link to (codes "C") (codes "c") (codes "D")

abbrev pub bottom : PlainTrader
bottom = trader_without_links (codes "D") (offer_numbered 1 (codes "d") ∷ [])

-- one after the other: B's answer comes before C is asked
abbrev pub in_turn : (to : List ℕ → Ior) → List Call
in_turn to =
    call 0 3 9 None 0 (top to) (Given 1 ∷ Given 3 ∷ []) (answer_stage (codes "abdc"))
    ∷ call 1 2 8 (Some 0) 1 (left to) (Given 2 ∷ []) (answer_stage (codes "bd"))
    ∷ call 3 1 7 (Some 1) 2 bottom [] (answer_stage (codes "d"))
    ∷ call 2 2 6 (Some 0) 3 (right to) (Given 4 ∷ []) (answer_stage (codes "c"))
    ∷ call 3 1 5 (Some 3) 4 (after_search (codes "q") bottom) [] repeat_stage
    ∷ []

-- B's answer is lost, and C's question comes to D before B's
abbrev pub right_first : (to : List ℕ → Ior) → List Call
right_first to =
    call 0 3 9 None 0 (top to) (Lost 1 ∷ Given 3 ∷ []) (answer_stage (codes "acd"))
    ∷ call 1 2 8 (Some 0) 1 (left to) (Given 2 ∷ []) (answer_stage (codes "b"))
    ∷ call 3 1 7 (Some 1) 4 (after_search (codes "q") bottom) [] repeat_stage
    ∷ call 2 2 8 (Some 0) 2 (right to) (Given 4 ∷ []) (answer_stage (codes "cd"))
    ∷ call 3 1 7 (Some 3) 3 bottom [] (answer_stage (codes "d"))
    ∷ []

-- it is lost, and B's question comes to D first
abbrev pub left_first : (to : List ℕ → Ior) → List Call
left_first to =
    call 0 3 9 None 0 (top to) (Lost 1 ∷ Given 3 ∷ []) (answer_stage (codes "ac"))
    ∷ call 1 2 8 (Some 0) 1 (left to) (Given 2 ∷ []) (answer_stage (codes "bd"))
    ∷ call 3 1 7 (Some 1) 3 bottom [] (answer_stage (codes "d"))
    ∷ call 2 2 8 (Some 0) 2 (right to) (Given 4 ∷ []) (answer_stage (codes "c"))
    ∷ call 3 1 7 (Some 3) 4 (after_search (codes "q") bottom) [] repeat_stage
    ∷ []

pub record WorkedDiamond (to : List ℕ → Ior) (inside : Ior → Option ℕ)
    (words : List ℕ) : Type 0 where
  pub in_turn_at_a : HasTree (in_turn to) inside words 0 (found (codes "abdc"))
  pub in_turn_at_b : HasTree (in_turn to) inside words 1 (found (codes "bd"))
  pub in_turn_at_c : HasTree (in_turn to) inside words 3 (found (codes "c"))
  -- the call that is lost has a tree, of which A's has nothing
  pub right_at_a : HasTree (right_first to) inside words 0 (found (codes "acd"))
  pub right_at_b : HasTree (right_first to) inside words 1 (found (codes "b"))
  pub right_at_c : HasTree (right_first to) inside words 3 (found (codes "cd"))
  -- which of the two has D's offer depends on the schedule
  pub left_at_a : HasTree (left_first to) inside words 0 (found (codes "ac"))
  pub left_at_b : HasTree (left_first to) inside words 1 (found (codes "bd"))
  pub left_at_c : HasTree (left_first to) inside words 3 (found (codes "c"))

-- ---- a change: A has links to B and C, and C withdraws one of two offers between B's visit and its own

abbrev pub changed_calls : (to : List ℕ → Ior) → List Call
changed_calls to =
    let b = trader_without_links (codes "B") (offer_numbered 1 (codes "b") ∷ []) in
    let c = trader_without_links (codes "C") (offer_numbered 1 (codes "c")
    ∷ offer_numbered 2 (codes "e") ∷ []) in
    call 0 3 9 None 0 (top to) (Given 1 ∷ Given 2 ∷ []) (answer_stage (codes "abe"))
    ∷ call 1 2 8 (Some 0) 1 b [] (answer_stage (codes "b"))
    ∷ call 2 2 7 (Some 0) 2 (without_first c) [] (answer_stage (codes "e"))
    ∷ []

pub record WorkedChanges (to : List ℕ → Ior) (inside : Ior → Option ℕ)
    (words : List ℕ) : Type 0 where
  pub at_a : HasTree (changed_calls to) inside words 0 (found (codes "abe"))
  pub at_b : HasTree (changed_calls to) inside words 1 (found (codes "b"))
  pub at_c : HasTree (changed_calls to) inside words 2 (found (codes "e"))

-- ---- a call that comes back: A and B have links to each other, and A withdraws its offer while its own call waits

abbrev pub returned_calls : (to : List ℕ → Ior) → List Call
returned_calls to =
    let a = trader_with_link to (codes "A") (codes "a") (codes "B") in
    let b = trader_with_link to (codes "B") (codes "b") (codes "A") in
    call 0 3 9 None 0 a (Given 1 ∷ []) (answer_stage (codes "ab"))
    ∷ call 1 2 8 (Some 0) 1 b (Given 2 ∷ []) (answer_stage (codes "b"))
    ∷ call 0 1 7 (Some 1) 2 (without_first (after_search (codes "q") a)) [] repeat_stage
    ∷ []

pub record WorkedReturn (to : List ℕ → Ior) (inside : Ior → Option ℕ)
    (words : List ℕ) : Type 0 where
  pub at_a : HasTree (returned_calls to) inside words 0 (found (codes "ab"))
  pub at_b : HasTree (returned_calls to) inside words 1 (found (codes "b"))
  pub again_at_a : HasTree (returned_calls to) inside words 2 (found [])
