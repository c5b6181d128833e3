-- The count of faults over calls of peers (td_walk's `Peers`): it never falls, and a call fails only where it rises
-- (OMG's Trading Object Service, interfaces Lookup, Register and DynamicPropEval, whose calls may fail at a peer).
use Rattle.std.specs.Prelude.{◌≡◌, ℕ, suc, ◌≤◌, List, [], ◌∷◌, ◌++◌}
use Rattle.td_out.specs.Causes.{Rose}
use Rattle.td_walk.specs.Peering.{Exchange, Failed, PeerAnswer}
use Rattle.td_walk.specs.declared.trace.TraceItem.{TraceItem}
use Rattle.td_walk.specs.declared.trace.TraceItem.TheVariants as item
use Rattle.td_query_walk.specs.Walks.{Asked}

-- at a call that failed the count rose
abbrev pub RoseIfFailed : PeerAnswer → (before now : ℕ) → Type 0
RoseIfFailed (Failed f) before now = Rose before now
RoseIfFailed other before now = Unit {0}

-- Over these calls, in order, the count went from the first number to the second: there is a number behind each call.
abbrev pub CountsOver : List Exchange → (before now : ℕ) → Type 0
CountsOver [] before now = before ≤ now
CountsOver (x ∷ xs) before now =
    (next : ℕ) × (before ≤ next) × RoseIfFailed x.gave before next × CountsOver xs next now

-- Between two moments these calls were made, and the count of faults went over them.
pub record CountsFaults (before after : List Exchange) (faults now : ℕ) : Type 0 where
  pub made : List Exchange
  pub calls : after ≡ before ++ made
  pub count : CountsOver made faults now

-- ---- the items of a trace

-- how many items show that a call failed
abbrev pub failures : List TraceItem → ℕ
failures [] = 0
failures (item.Failed f ∷ is) = suc (failures is)
failures (i ∷ is) = failures is

-- Between the calls that the items in front show and those that the items behind show, one call was made at which the
-- count rose.
pub record RoseBetween (front back : List TraceItem) (faults now : ℕ) : Type 0 where
  pub earlier : List Exchange
  pub later : List Exchange
  pub until : ℕ
  pub next : ℕ
  pub asked_earlier : Asked front earlier
  pub count_earlier : CountsOver earlier faults until
  pub rose : Rose until next
  pub asked_later : Asked back later
  pub count_later : CountsOver later next now
