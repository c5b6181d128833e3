-- Worked examples: which calls of an Ask find their trader visited, and what marks say of it.
use Rattle.std.specs.Prelude.{◌≡◌, ℕ, ◌+◌, true, false, List, [], ◌∷◌, codes, None, Some}
use Rattle.td_cdr.specs.Marks.{Marks, add_mark, remembered}
use Rattle.td_marks.specs.Keeping.{no_marks}
use Rattle.td_net_laws.specs.Always.{AreFar}
use Rattle.td_net_laws.specs.Arrivals.{Arrival, CallHead}
use Rattle.td_net_laws.specs.Trees.{is_visited}
use Rattle.td_trader.specs.PlainTraders.{PlainTrader}

-- ---- marks: a ring that remembers two identifiers

abbrev pub marks_a : Marks
marks_a = add_mark (no_marks 2) (codes "a") 0

abbrev pub marks_ab : Marks
marks_ab = add_mark marks_a (codes "b") 0

abbrev pub marks_abc : Marks
marks_abc = add_mark marks_ab (codes "c") 0

-- Two others may be marked before an identifier is searched again; so its marks lie more than two apart.
pub record WorkedMarks : Type 0 where
  pub first : remembered marks_a (codes "a") ≡ Some 1
  pub beside_one : remembered marks_ab (codes "a") ≡ Some 1
  pub behind_two : remembered marks_abc (codes "a") ≡ None
  pub again : remembered (add_mark marks_abc (codes "a") 0) (codes "a") ≡ Some 4
  pub far : AreFar 2 1 4
  pub near : AreFar 2 1 3 → ⊥

-- ---- visits: traders A, B, C and D have the numbers 0 to 3

-- a call of the Ask of this root that visits its trader, as so many calls were delivered before
abbrev pub visit : PlainTrader → (target root serial : ℕ) → CallHead
visit t target root serial = record {
  target = target;
  root = root;
  arrival = Some (record {
    serial = serial;
    seen = t;
    identifier = codes "q";
    before = 0;
    visits = true;
    searches = true;
  });
}

-- one that is refused there, or passed on along its path
abbrev pub passage : PlainTrader → (target root serial : ℕ) → CallHead
passage t target root serial = record {
  target = target;
  root = root;
  arrival = Some (record {
    serial = serial;
    seen = t;
    identifier = codes "q";
    before = 0;
    visits = false;
    searches = false;
  });
}

-- one that hasn't come to its trader
abbrev pub under_way : (target root : ℕ) → CallHead
under_way target root = record { target = target; root = root; arrival = None }

-- A asks B, B asks C, and C asks A again
abbrev pub ring : PlainTrader → List CallHead
ring t = visit t 0 0 0 ∷ visit t 1 0 1 ∷ visit t 2 0 2 ∷ visit t 0 0 3 ∷ []

-- A asks B, which asks D; B's call is lost, and A asks C, which asks D too. B's question comes to D first.
abbrev pub by_b : PlainTrader → List CallHead
by_b t = visit t 0 0 0 ∷ visit t 1 0 1 ∷ visit t 3 0 2 ∷ visit t 2 0 3 ∷ visit t 3 0 4 ∷ []

-- the same calls, of which C's question comes first
abbrev pub by_c : PlainTrader → List CallHead
by_c t = visit t 0 0 0 ∷ visit t 1 0 1 ∷ visit t 3 0 4 ∷ visit t 2 0 2 ∷ visit t 3 0 3 ∷ []

pub record WorkedVisits (t : PlainTrader) : Type 0 where
  -- in the ring each trader is new but for A, which the last call finds visited; it came to A while A's own call waits
  pub first : is_visited (ring t) 0 0 0 ≡ false
  pub second : is_visited (ring t) 1 0 1 ≡ false
  pub third : is_visited (ring t) 2 0 2 ≡ false
  pub back : is_visited (ring t) 0 0 3 ≡ true
  -- a call of another Ask doesn't count
  pub other : is_visited (ring t) 0 7 3 ≡ false
  -- which of the two finds D new depends on the schedule
  pub b_first : is_visited (by_b t) 3 0 2 ≡ false
  pub c_second : is_visited (by_b t) 3 0 4 ≡ true
  pub c_first : is_visited (by_c t) 3 0 3 ≡ false
  pub b_second : is_visited (by_c t) 3 0 4 ≡ true
  -- nor does a call that was refused there or passed on, or one that hasn't come
  pub passed : is_visited (passage t 0 0 0 ∷ visit t 0 0 1 ∷ []) 0 0 1 ≡ false
  pub sent : is_visited (under_way 0 0 ∷ visit t 0 0 1 ∷ []) 0 0 1 ≡ false
