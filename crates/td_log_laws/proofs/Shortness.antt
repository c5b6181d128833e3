-- A log that was made of sparse traders is short.
use Rattle.std.proofs.Common.{◌≡◌, ℕ, ◌+◌, ◌*◌, ◌≤◌, List, [], ◌∷◌, length, Option, Some, None, refl, subst, arith}
use Rattle.std.proofs.Common.{length-append}
use Rattle.td_audit.specs.Auditing.{names_of}
use Rattle.td_audit.specs.Making.{QueriesTraders, RunsCalls, Next, answer_line, deliver_line, ended, goes}
use Rattle.td_audit.specs.Making.{innermost_call, more}
use Rattle.td_audit.specs.Making.{next_in, no_value_line, none, passes, reply_line}
use Rattle.td_drill.specs.Drills.{drill_query}
use Rattle.td_log_laws.proofs.Lasting.{NoStart, Quiet, SparseWorld, asked-lasts, event-lasts, total}
use Rattle.td_log_laws.specs.Short.{MadeLogsAreShort}
use Rattle.td_net.specs.Worlds.{World, start, state_at}
use Rattle.td_net.specs.declared.event.CallState.{CallState}
use Rattle.td_net.specs.declared.event.CallState.TheVariants as state
use Rattle.td_net.specs.declared.event.Event.TheVariants as event
use Rattle.td_policy.specs.Stated.{nothing}
use Rattle.td_policy.specs.declared.stated.Stated.{Stated}
use Rattle.td_trader.specs.PlainTraders.{PlainTrader}
use Rattle.td_walk.specs.declared.trace.Address.{Address}
use Rattle.td_walk.specs.declared.trace.Visit.{Visit}

next-is : (a b : Next) → ◌≡◌ {A = Option Next} (Some a) (Some b) → a ≡ b
next-is a b e = cc

-- what comes next is no Ask
pub next-quiet : (c : ℕ) (o : Option CallState) (next : Next) → next_in c o ≡ Some next → Quiet next.event
next-quiet c (Some state.Sent) next e =
    subst (λ (n : Next). Quiet n.event)
    (next-is (record { event = event.Deliver c; line = deliver_line c }) next e) tt
next-quiet c (Some state.Evaluating) next e =
    subst (λ (n : Next). Quiet n.event)
    (next-is (record { event = event.Value c None; line = no_value_line c }) next e) tt
next-quiet c (Some state.Ended) next e =
    subst (λ (n : Next). Quiet n.event)
    (next-is (record { event = event.Answer c; line = answer_line c }) next e) tt
next-quiet c (Some state.Running) next e = absurd cc
next-quiet c (Some (state.Waiting d)) next e = absurd cc
next-quiet c None next e = absurd cc

-- each line takes one of the events that may come
follow-short : (root : ℕ) {w x : World} {lines : List (List ℕ)} {v : Visit} → RunsCalls root w lines v x → SparseWorld w
    → SparseWorld x × (length lines + total x.calls ≤ total w.calls)
follow-short root (ended e) h = (h, omega arith)
follow-short root (goes {w = w} {u = u} {x = x} {lines = lines} next unended at accepts later) h =
    let c = innermost_call (length w.calls) w.calls root in
    let event-left =
    event-lasts w u next.event (next-quiet c (state_at w.calls c) next at) h accepts.accepted accepts.becomes in
    let rest = follow-short root later event-left.0 in
    let one = event-left.1 in
    let others = rest.1 in
    (rest.0, omega (arith, one, others))

pub drill-starts : NoStart drill_query
drill-starts s e = let same : nothing ≡ s = cc in subst (λ (x : Stated). x.start ≡ None) same refl

asks-short : (home : Address) {w y : World} {k : ℕ} {names lines : List (List ℕ)} → QueriesTraders home w k names lines y
    → SparseWorld w → SparseWorld y × (length lines + total y.calls ≤ total w.calls + 128 * length names)
asks-short home none h = (h, omega arith)
asks-short home (passes unnamed later) h =
    let rest = asks-short home later h in
    let few = rest.1 in
    (rest.0, omega (arith, few))
asks-short home (more {w = w} {u = u} {x = x} {n = k} {name = name} {names = names} {lines = lines} {others = others}
    o named request accepts follows answers octets later) h =
    let asked = asked-lasts w u k drill_query h drill-starts accepts.accepted accepts.becomes in
    let followed = follow-short (length w.calls) follows asked.0 in
    let rest = asks-short home later followed.0 in
    let ask = asked.1 in
    let between = followed.1 in
    let behind = rest.1 in
    (rest.0, omega (arith, ask, between, behind, length-append lines (reply_line (length w.calls) o ∷ others)))

pub made-short : MadeLogsAreShort
made-short traders home log sparse is =
    let all = asks-short home is.asked (record { traders = sparse; calls = tt }) in
    let few = all.1 in
    let each : length (names_of traders) ≡ length traders = count traders in
    omega (arith, few, each)
  where
    count : (ts : List PlainTrader) → length (names_of ts) ≡ length ts
    count [] = refl
    count (t ∷ ts) = let later = count ts in omega (arith, later)
