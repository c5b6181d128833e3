-- What a change comes to (OMG's Trading Object Service, interfaces Register, Link, Proxy, Admin and
-- CosTradingRepos::ServiceTypeRepository).
use Rattle.std.specs.Prelude.{◌≡◌, ◌⊎◌, ℕ, ◌-◌, List, length}
use Rattle.td_cdr.specs.Marks.{Marks}
use Rattle.td_ops.specs.declared.call.Change.{Change}
use Rattle.td_ops.specs.declared.outcome.Outcome.{Outcome}
use Rattle.td_ops.specs.declared.outcome.Outcome.TheVariants.{Done, User, System}
use Rattle.td_register.specs.declared.history.Accepted.{Accepted}
use Rattle.td_trader.specs.Worlds.{ChangesTrader, View, Watches}
use Rattle.td_servant.specs.declared.entry.Entry.{Entry}
use Rattle.td_servant.specs.declared.entry.Entry.TheVariants.{Point}

-- how many changes had come before one that has left so many: an accepted one is the last of them
abbrev pub changes_before : Outcome → (after : ℕ) → ℕ
changes_before (Done content) after = after - 1
changes_before (User e) after = after
changes_before (System kind minor completion) after = after

module _ (others : List Accepted → Type 0) (later : Marks → Marks → Type 0) where
  -- The outcome is the change's at what is seen of the trader then. Its point is how many changes had come before: the
  -- place of an accepted one in the history.
  pub record ChangeComes (w : List View) (k : ℕ) (c : Change) (o : Outcome) (e : Entry)
      (u : List View) : Type 0 where
    pub changes : ChangesTrader others later w k c o u
    pub noted : e ≡ Point k (length changes.seen.history)

  -- nothing was done but by others, or not even that was seen
  abbrev pub Rests : (w : List View) → (k : ℕ) → (u : List View) → Type 0
  Rests w k u = (u ≡ w) ⊎ Watches others later w k u
