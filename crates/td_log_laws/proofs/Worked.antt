-- The worked examples hold.
use Rattle.std.proofs.Common.{◌≡◌, ℕ, true, false, List, [], ◌∷◌, codes, refl, sym, ◌∙◌, ap, Bool}
use Rattle.std.proofs.lemmas.Slice.Eq.{bytes_eq-Decides}
use Rattle.std.specs.List.{IsDistinct}
use Rattle.td_audit.specs.Auditing.{Audits, over}
use Rattle.td_audit.specs.Making.{QueriesTraders, IsLog, text_of_lines, none}
use Rattle.td_audit.specs.declared.verdict.Verdict.TheVariants.{Yes}
use Rattle.td_log.specs.Words.{lines_of}
use Rattle.td_log_laws.specs.Examples.{WorkedLogs}
use Rattle.td_log_laws.specs.Made.{AreOpened}
use Rattle.td_net.specs.Worlds.{World, start}
use Rattle.td_trader.specs.PlainTraders.{PlainTrader}
use Rattle.td_walk.specs.declared.trace.Address.{Address}

-- who asks no trader tells nothing
no-lines : (home : Address) {w y : World} {k : ℕ} {lines : List (List ℕ)} → QueriesTraders home w k [] lines y → lines ≡ []
no-lines home none = refl

no-log : (home : Address) → IsLog [] home []
no-log home = record { lines = []; later = start [] home []; asked = none; content = refl }

no-log-passes : (home : Address) → Audits [] home [] (Yes 0)
unfolding lines_of
no-log-passes home = over

no-other : (home : Address) → IsLog [] home (codes "deliver 0\n") → ⊥
no-other home l =
    let content : codes "deliver 0\n" ≡ [] = l.content ∙ ap text_of_lines (no-lines home l.asked) in
    absurd (cc)

never-twice : (t : PlainTrader) → AreOpened (t ∷ t ∷ []) → ⊥
unfolding IsDistinct
never-twice t o =
    let same : ◌≡◌ {A = Bool} true false = sym ((bytes_eq-Decides t.name t.name).1 refl) ∙ o.distinct.0.0 in
    absurd (cc)

pub worked : (t : PlainTrader) (home : Address) → WorkedLogs t home
worked t home = record {
  none = no-log home;
  passes = no-log-passes home;
  other = no-other home;
  twice = never-twice t;
}
