-- A trader as the book of a cell: what an act answers, and what it leaves (OMG's Trading Object Service, the operations
-- of Register, Link, Proxy, Admin, Lookup and ServiceTypeRepository).
use Rattle.std.specs.Prelude.{Result}
use Rattle.td_cdr.specs.declared.memory.Memory.{Memory}
use Rattle.td_marks.specs.Keeping.{AreRingMarks as AreMarks}
use Rattle.td_ops.specs.declared.call.Change.{Change}
use Rattle.td_ops.specs.declared.call.Query.{Query}
use Rattle.td_ops.specs.declared.outcome.Outcome.{Outcome}
use Rattle.td_trader.specs.Admitted.{AdmitsChange}
use Rattle.td_trader.specs.Following.{ActsBegin, ActsChange, ActsLook}
use Rattle.td_trader.specs.OfferLimits.{HasLimitedOffers}
use Rattle.td_trader.specs.PlainTraders.{AreBounds, PlainTrader, store_of}
use Rattle.td_trader.specs.declared.begin.Begin.{Begin}
use Rattle.td_group.specs.declared.shared_trader.Act.{Act}
use Rattle.td_group.specs.declared.shared_trader.Act.TheVariants as act
use Rattle.td_group.specs.declared.shared_trader.Reply.{Reply}
use Rattle.td_group.specs.declared.shared_trader.Reply.TheVariants as reply

-- what a change whose values can be written answers and leaves
pub record ChangesWritably (t : PlainTrader) (c : Change) (r : Result Outcome Memory)
    (u : PlainTrader) : Type 0 where
  pub admitted : AdmitsChange c
  pub changes : ActsChange t c r u

-- how a query begins at a trader with bounds, marks and offers as each has them, and what it leaves
pub record StartsQuery (t : PlainTrader) (q : Query) (r : Result Begin Memory)
    (u : PlainTrader) : Type 0 where
  pub bounds : AreBounds t.bounds
  pub marks : AreMarks t.marks
  pub limited : HasLimitedOffers (store_of t)
  pub begins : ActsBegin t q r u

abbrev pub TraderActs : PlainTrader → Act → Reply → PlainTrader → Type 0
TraderActs t (act.Change c) (reply.Changed r) u = ChangesWritably t c r u
TraderActs t (act.Change c) (reply.Looked r) u = ⊥
TraderActs t (act.Change c) (reply.Begun r) u = ⊥
TraderActs t (act.Look l) (reply.Changed r) u = ⊥
TraderActs t (act.Look l) (reply.Looked r) u = ActsLook t l r u
TraderActs t (act.Look l) (reply.Begun r) u = ⊥
TraderActs t (act.Query q) (reply.Changed r) u = ⊥
TraderActs t (act.Query q) (reply.Looked r) u = ⊥
TraderActs t (act.Query q) (reply.Begun r) u = StartsQuery t q r u
