-- Worked examples: which logs and traders the law speaks of.
use Rattle.std.specs.Prelude.{[], ◌∷◌, codes}
use Rattle.td_audit.specs.Auditing.{Audits}
use Rattle.td_audit.specs.Making.{IsLog}
use Rattle.td_audit.specs.declared.verdict.Verdict.TheVariants.{Yes}
use Rattle.td_log_laws.specs.Made.{AreOpened}
use Rattle.td_trader.specs.PlainTraders.{PlainTrader}
use Rattle.td_walk.specs.declared.trace.Address.{Address}

pub record WorkedLogs (t : PlainTrader) (home : Address) : Type 0 where
  -- where there is no trader the log is empty, and passes
  pub none : IsLog [] home []
  pub passes : Audits [] home [] (Yes 0)
  -- and no other is
  pub other : IsLog [] home (codes "deliver 0\n") → ⊥
  -- a file opens no two traders of one name
  pub twice : AreOpened (t ∷ t ∷ []) → ⊥
