-- The identifiers that a trader makes (OMG's Trading Object Service, the policy request_id of a query and the attribute
-- request_id_stem).
use Rattle.std.specs.Prelude.{◌≡◌, ℕ, ◌-◌, ◌<◌, ◌^◌, List}
use Rattle.td_cdr.specs.Marks.{last_identifier, made_identifier}
use Rattle.td_trader.specs.PlainTraders.{PlainTrader, store_of}

-- it is made of the stem that the trader has at this point, and of this value of its counter
pub record IsMadeAt (t : PlainTrader) (identifier : List ℕ) (value : ℕ) : Type 0 where
  pub is : identifier ≡ made_identifier (store_of t).attributes.request_id_stem value
  pub below : value < 256 ^ 8

-- where the counter has risen, the last mark's identifier was made at this point, of the value before the counter
abbrev pub MakesAt : (t u : PlainTrader) → Type 0
MakesAt t u = t.marks.counter < u.marks.counter
    → IsMadeAt u (last_identifier u.marks.kept) (u.marks.counter - 1)
