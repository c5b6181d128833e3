-- The lines that tell how the calls of an Ask go on are read, and pass.
use Rattle.std.proofs.Common.{◌≡◌, ℕ, zero, suc, ◌+◌, ◌*◌, ◌^◌, ◌<◌, ◌≤◌, true, List, [], ◌∷◌, ◌++◌, length, Option}
use Rattle.std.proofs.Common.{None, Some, Ok, refl, sym, subst, arith, length-append}
use Rattle.td_audit.specs.Auditing.{HasVerdict, Happens, AuditsLine, AuditState, passes, state}
use Rattle.td_audit.specs.Making.{RunsCalls, Next, ended, goes, innermost_call, text_of_lines, next_in, answer_line}
use Rattle.td_audit.specs.Making.{deliver_line}
use Rattle.td_audit.specs.Making.{no_value_line}
use Rattle.td_audit.specs.declared.asked.AskedQuery.{AskedQuery}
use Rattle.td_audit.specs.declared.verdict.Verdict.{Verdict}
use Rattle.td_audit_laws.proofs.Roots.{HasQuery, Keeps, query-fixed, run-keeps}
use Rattle.td_drill.specs.Drills.{drill_query}
use Rattle.td_log.specs.Lines.{line_of}
use Rattle.td_log.specs.declared.line.Line.{Line}
use Rattle.td_log.specs.declared.line.Line.TheVariants as line
use Rattle.td_log_laws.proofs.Cutting.{AreLines, lacks}
use Rattle.td_log_laws.proofs.Growing.{two-more}
use Rattle.td_log_laws.proofs.Readings.{answer-feed, answer-read, deliver-feed, deliver-read, value-feed, value-read}
use Rattle.td_log_laws.proofs.Writing.{EventWrites, WorldWrites, event-writes}
use Rattle.td_net.specs.Schedules.{over, then}
use Rattle.td_net.specs.Worlds.{World, Becomes, state_at, step_of, visit_at}
use Rattle.td_net.specs.declared.call.Call.{Call}
use Rattle.td_net.specs.declared.event.CallState.{CallState}
use Rattle.td_net.specs.declared.event.CallState.TheVariants as state
use Rattle.td_net.specs.declared.event.Event.{Event}
use Rattle.td_net.specs.declared.event.Event.TheVariants as event
use Rattle.td_walk.specs.declared.trace.Address.{Address}
use Rattle.td_walk.specs.declared.trace.Visit.{Visit}

-- ---- what comes next

pub next-some : (c : ℕ) (o : Option CallState) (next : Next) → next_in c o ≡ Some next
    → (s : CallState) × (o ≡ Some s)
next-some c None next e = absurd cc
next-some c (Some s) next e = (s, refl)

pub within : (calls : List Call) (c : ℕ) (s : CallState) → state_at calls c ≡ Some s → c < length calls
within [] c s e = absurd cc
within (k ∷ calls) zero s e = omega arith
within (k ∷ calls) (suc c) s e = let h = within calls c s e in omega (arith, h)

pub next-is : (a b : Next) → ◌≡◌ {A = Option Next} (Some a) (Some b) → a ≡ b
next-is a b e = cc

module _ (home : Address) (names : List (List ℕ)) where
  -- its line is read as its event
  pub record IsRead (next : Next) : Type 0 where
    pub line : Line
    pub read : line_of names next.line ≡ Some line
    pub feed : lacks 10 next.line ≡ true
    pub writes : EventWrites next.event
    pub judged : (s t : AuditState) → Happens s next.event s.asked (Ok t) → AuditsLine home names s line (Ok t)

  next-read : (c : ℕ) → c < 2 ^ 64 → (o : Option CallState) (next : Next) → next_in c o ≡ Some next → IsRead next
  next-read c h (Some state.Sent) next e =
      subst IsRead (next-is (record { event = event.Deliver c; line = deliver_line c }) next e)
      (record {
        line = line.Deliver c;
        read = deliver-read names c h;
        feed = deliver-feed c h;
        writes = tt;
        judged = λ s t k. k;
      })
  next-read c h (Some state.Evaluating) next e =
      subst IsRead (next-is (record { event = event.Value c None; line = no_value_line c }) next e)
      (record {
        line = line.Value c None;
        read = value-read names c h;
        feed = value-feed c h;
        writes = tt;
        judged = λ s t k. k;
      })
  next-read c h (Some state.Ended) next e =
      subst IsRead (next-is (record { event = event.Answer c; line = answer_line c }) next e)
      (record {
        line = line.Answer c;
        read = answer-read names c h;
        feed = answer-feed c h;
        writes = tt;
        judged = λ s t k. k;
      })
  next-read c h (Some state.Running) next e = absurd cc
  next-read c h (Some (state.Waiting d)) next e = absurd cc
  next-read c h None next e = absurd cc

  -- ---- the lines of an Ask

  -- how many calls there are behind so many lines
  abbrev pub AreFew : World → (n : ℕ) → Type 0
  AreFew w n = length w.calls ≤ 2 * n

  -- What holds before and behind lines: what the network tells can be written, its calls are few, and the Ask's call
  -- has the query.
  pub record Stands (root : ℕ) (w : World) (n : ℕ) : Type 0 where
    pub writes : WorldWrites w
    pub few : AreFew w n
    pub kept : Keeps (HasQuery drill_query) root w.calls

  -- what holds where these lines have told how the calls go on up to the end of the Ask's
  pub record Followed (root : ℕ) (w : World) (asked : List AskedQuery) (n : ℕ) (lines : List (List ℕ)) (v : Visit)
      (x : World) : Type 0 where
    pub feeds : AreLines lines
    pub stands : Stands root x (n + length lines)
    pub ends : visit_at x.calls root ≡ Some v
    pub passes_on : (rest : List (List ℕ)) (verdict : Verdict)
        → HasVerdict home names (state x asked) (n + length lines) rest verdict
        → HasVerdict home names (state w asked) n (lines ++ rest) verdict

  event-stands : (root : ℕ) (w u : World) (n : ℕ) (e : Event) → Stands root w n → EventWrites e
      → Becomes w (step_of w e) u → Stands root u (n + 1)
  event-stands root w u n e h writes b = record {
    writes = event-writes w u e h.writes writes b;
    few = let few = h.few in let more = two-more w u e b in omega (arith, few, more);
    kept = run-keeps (HasQuery drill_query) (query-fixed drill_query) root w u (e ∷ []) h.kept (then b over);
  }

  line-long : (first : List ℕ) (lines : List (List ℕ)) (n : ℕ)
      → n + length (text_of_lines (first ∷ lines)) ≡ n + length first + 1 + length (text_of_lines lines)
  line-long first lines n = omega (arith, length-append first (10 ∷ text_of_lines lines))

  pub follow : (root : ℕ) {w x : World} {lines : List (List ℕ)} {v : Visit} → RunsCalls root w lines v x
      → (asked : List AskedQuery) (n : ℕ) → Stands root w n → n + length (text_of_lines lines) < 2 ^ 32
      → Followed root w asked n lines v x
  follow root (ended {w = w} {v = v} e) asked n h short = record {
    feeds = tt;
    stands = subst (Stands root w) (let same : n ≡ n + 0 = omega arith in same) h;
    ends = e;
    passes_on = λ rest verdict a. subst (λ (m : ℕ). HasVerdict home names (state w asked) m rest verdict)
        (let same : n + 0 ≡ n = omega arith in same) a;
  }
  follow root (goes {w = w} {u = u} {x = x} {lines = lines} {v = v} next open_yet at accepts more) asked n h short =
      let c = innermost_call (length w.calls) w.calls root in
      let there = next-some c (state_at w.calls c) next at in
      let low = within w.calls c there.0 there.1 in
      let few = h.few in
      let long = line-long next.line lines n in
      let read = next-read c (omega (arith, low, few, short, long)) (state_at w.calls c) next at in
      let later =
      follow root more asked (n + 1) (event-stands root w u n next.event h read.writes accepts.becomes)
      (omega (arith, short, long)) in
      let count : n + 1 + length lines ≡ n + length (next.line ∷ lines) = omega arith in
      record {
        feeds = (read.feed, later.feeds);
        stands = subst (Stands root x) count later.stands;
        ends = later.ends;
        passes_on = λ rest verdict a. passes read.read
            (read.judged (state w asked) (state u asked) (accepts.accepted, accepts.becomes, refl))
            (later.passes_on rest verdict
            (subst (λ (m : ℕ). HasVerdict home names (state x asked) m rest verdict) (sym count) a));
      }
