-- Worked examples.
use Rattle.std.proofs.Common.{refl}
use Rattle.std.specs.Fmt.{digits}
use Rattle.td_log.proofs.Worked.{lines_on_literals}
use Rattle.td_log.specs.Words.{lines_of}
use Rattle.td_log.specs.declared.line.Line.TheVariants.{Deliver, Lose}
use Rattle.td_ops.specs.declared.call.Query.{Query}
use Rattle.td_store.specs.declared.local.Local.{Local}
use Rattle.td_trader.specs.PlainTraders.{PlainTrader}
use Rattle.td_walk.specs.declared.trace.Address.{Address}
use Rattle.td_audit.specs.Auditing.{fails, over, strange}
use Rattle.td_audit.specs.Examples.{WorkedAudits, WorkedMaking, WorkedOpenings}

pub audits : (t : PlainTrader) (home : Address) → WorkedAudits t home
unfolding lines_of lines_on_literals
audits t home = record {
  empty = over;
  words = over;
  no_call = fails {l = Deliver 0} refl refl;
  first = fails {l = Lose 0} refl refl;
  strange = strange refl;
  late_words = strange refl;
}

pub openings : WorkedOpenings
unfolding lines_on_literals
openings = record { words = refl; none = refl }

pub making : (q : Query) (l : Local) → WorkedMaking q l
unfolding digits
making q l = record { inner = refl; next = refl; none = refl; content = refl }
