-- A log that was made passes when it is audited.
use Rattle.std.specs.Prelude.{◌≡◌, ◌⊎◌, ℕ, ◌^◌, ◌<◌, List, length}
use Rattle.std.specs.List.{AllByRecursion}
use Rattle.td_audit.specs.Auditing.{Audits, AuditsOrWants}
use Rattle.td_audit.specs.Making.{IsLog}
use Rattle.td_audit.specs.declared.verdict.Verdict.{Verdict}
use Rattle.td_audit.specs.declared.verdict.Verdict.TheVariants.{Yes, Memory}
use Rattle.td_log.specs.Words.{lines_of}
use Rattle.td_objects.specs.References.{IsAddress}
use Rattle.td_trader.specs.PlainTraders.{PlainTrader}
use Rattle.td_trader.specs.Solos.{AreDistinct}
use Rattle.td_trader_laws.specs.WritableTraders.{IsWritableTrader}
use Rattle.td_walk.specs.declared.trace.Address.{Address}

-- No two of the traders have one name, and their values can be written: a file's are such.
pub record AreOpened (traders : List PlainTrader) : Type 0 where
  pub distinct : AreDistinct traders
  pub writable : AllByRecursion IsWritableTrader traders

-- Each of its lines is what the network does.
abbrev pub MadeLogsPass : Type 0
MadeLogsPass =
    (traders : List PlainTrader) (home : Address) (log : List ℕ) → AreOpened traders
    → IsAddress home
    → IsLog traders home log → length log < 2 ^ 32
    → Audits traders home log (Yes (length (lines_of log)))

-- So that is the verdict on it, or memory runs out.
abbrev pub MadeLogsAreRight : Type 0
MadeLogsAreRight =
    (traders : List PlainTrader) (home : Address) (log : List ℕ) (v : Verdict) → AreOpened traders
    → IsAddress home
    → IsLog traders home log → length log < 2 ^ 32 → AuditsOrWants traders home log v
    → (v ≡ Yes (length (lines_of log))) ⊎ (v ≡ Memory)
