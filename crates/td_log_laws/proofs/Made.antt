-- A log that was made passes when it is audited.
use Rattle.std.proofs.Common.{◌≡◌, ℕ, suc, ◌+◌, ◌*◌, ◌^◌, ◌<◌, ◌≤◌, ◌⊎◌, inl, inr, Bool, false, List, [], ◌∷◌, ◌++◌}
use Rattle.std.proofs.Common.{append_assoc, length, nat_eq, nat_lt, slice_get, Option, None, Some, Ok, codes, refl, sym}
use Rattle.std.proofs.Common.{ap, subst, ◌∙◌, arith, length-append, if◌then◌else◌}
use Rattle.std.proofs.lemmas.Bool.{eq-eqb, lt-ltb}
use Rattle.std.proofs.lemmas.Bool.Decides.{nat_tests}
use Rattle.std.proofs.lemmas.Slice.Eq.{bytes_eq-Decides}
use Rattle.std.specs.List.{AllByRecursion, IsDistinct, position_or_len}
use Rattle.std.specs.Str.{bytes_eq}
use Rattle.hex.proofs.HexLemmas.{length-encode_with}
use Rattle.hex.specs.Hex.{encode_lower, lower_digits}
use Rattle.td_audit.specs.Auditing.{HasVerdict, AuditedFrom, Audits, AuditsOrWants, EndedIn, LogHead, RepliedIn}
use Rattle.td_audit.specs.Auditing.{AuditState}
use Rattle.td_audit.specs.Auditing.{asked_as, asked_of, names_of, opening_by, opening_of, over, passes, state}
use Rattle.td_audit.specs.Making.{IsOutcomeOfVisit, QueriesTraders, ask_line, form, text_of_lines, more, none}
use Rattle.td_audit.specs.Making.{passes as passed_over}
use Rattle.td_audit.specs.Making.{reply_line, request_to}
use Rattle.td_audit.specs.Replies.{spelled_reply}
use Rattle.td_audit.specs.declared.asked.AskedQuery.{AskedQuery}
use Rattle.td_audit.specs.declared.verdict.Verdict.{Verdict}
use Rattle.td_audit.specs.declared.verdict.Verdict.TheVariants as verdict
use Rattle.td_audit_laws.proofs.Roots.{HasQuery, asked-keeps, query-fixed}
use Rattle.td_audit_laws.proofs.Walks.{ended-call}
use Rattle.td_audit_laws.specs.Laws.{VerdictsAreOne}
use Rattle.td_drill.specs.Drills.{drill_query}
use Rattle.td_log.specs.Lines.{trader_named}
use Rattle.td_log.specs.Messages.{recorded_answer}
use Rattle.td_log.specs.Words.{lines_of}
use Rattle.td_log.specs.declared.message.Recorded.{Recorded}
use Rattle.td_log_laws.proofs.Cutting.{AreLines, lines-append, lines-read}
use Rattle.td_log_laws.proofs.Following.{Stands, follow}
use Rattle.td_log_laws.proofs.Given.{AdmitsVisit, reply-right, reply-written}
use Rattle.td_log_laws.proofs.Growing.{two-more}
use Rattle.td_log_laws.proofs.Readings.{ask-feed, ask-no-words, ask-read, reply-feed, reply-read}
use Rattle.td_log_laws.proofs.Whole.{query-admitted, reply-content, request-content}
use Rattle.td_log_laws.proofs.Writing.{CallWrites, EndedWrites, StageWrites, WorldWrites, event-writes}
use Rattle.td_log_laws.specs.Made.{MadeLogsAreRight, MadeLogsPass}
use Rattle.td_net.specs.Worlds.{World, visit_at}
use Rattle.td_net.specs.declared.event.Event.TheVariants as event
use Rattle.td_objects.specs.References.{IsAddress}
use Rattle.td_cdr.specs.Names.{IsTraderName}
use Rattle.td_ops.specs.Answers.{AdmitsOutcome, client_answer}
use Rattle.td_ops.specs.declared.operation.Operation.TheVariants as operation
use Rattle.td_ops.specs.declared.outcome.Outcome.{Outcome}
use Rattle.std.specs.Fmt.{decimal}
use Rattle.td_ops.specs.Parameters.{query}
use Rattle.td_ops.specs.declared.call.Query.{Query}
use Rattle.td_trader.specs.PlainTraders.{PlainTrader}
use Rattle.td_session_runs_laws.proofs.Parts.{each-at}
use Rattle.td_session_runs_laws.proofs.WalkingItems.{each-parts}
use Rattle.td_types.proofs.Sequences.{each-append}
use Rattle.td_walk.specs.declared.trace.Address.{Address}
use Rattle.td_walk.specs.declared.trace.Visit.{Visit}
use Rattle.td_walk.specs.declared.trace.Visit.TheVariants as visit

-- ---- the number of a trader's name

abbrev is_name : (name : List ℕ) → (other : List ℕ) → Bool
is_name name other = bytes_eq other name

name-at : (front : List (List ℕ)) (name : List ℕ) (rest : List (List ℕ)) → IsDistinct bytes_eq (front ++ name ∷ rest)
    → position_or_len (is_name name) (front ++ name ∷ rest) ≡ length front
unfolding IsDistinct
name-at [] name rest h = rw ((bytes_eq-Decides name name).1 refl) refl
name-at (x ∷ front) name rest h =
    let other : bytes_eq x name ≡ false = (each-parts (λ y. bytes_eq x y ≡ false) front (name ∷ rest) h.0).1.0 in
    let later = name-at front name rest h.1 in
    rw other (omega (arith, later))

abbrev some : {A : Type 0} → A → Option A
some x = Some x

name-found : (front : List (List ℕ)) (name : List ℕ) (rest : List (List ℕ))
    → IsDistinct bytes_eq (front ++ name ∷ rest) → trader_named (front ++ name ∷ rest) name ≡ Some (length front)
name-found front name rest h =
    let all : List (List ℕ) = front ++ name ∷ rest in
    let lt : length front < length all = omega (arith, length-append front (name ∷ rest)) in
    ap (λ (n : ℕ). if nat_lt n (length all) then some n else None) (name-at front name rest h)
    ∙ ap (λ (t : Bool). if t then some (length front) else None) (lt-ltb (length front) (length all) lt)

-- ---- the queries that were asked

-- their calls were opened before the call of this number
abbrev AreBefore : (c : ℕ) → List AskedQuery → Type 0
AreBefore c asked = AllByRecursion (λ (a : AskedQuery). a.call < c) asked

last-asked : (c : ℕ) (asked : List AskedQuery) (a : AskedQuery) → AreBefore c asked → a.call ≡ c
    → asked_of c (asked ++ a ∷ []) ≡ Some a
last-asked c [] a h e = rw (eq-eqb a.call c e) refl
last-asked c (x ∷ asked) a h e =
    let less = h.0 in
    let other : nat_eq x.call c ≡ false = grind (arith, nat_tests, less) in
    rw other (last-asked c asked a h.1 e)

later-before : (c d : ℕ) (asked : List AskedQuery) → c ≤ d → AreBefore c asked → AreBefore d asked
later-before c d [] le h = tt
later-before c d (x ∷ asked) le h =
    (let less = h.0 in let low : x.call < d = omega (arith, less, le) in low, later-before c d asked le h.1)

-- ---- lengths

pub content-append : (xs ys : List (List ℕ)) → length (text_of_lines (xs ++ ys)) ≡ length (text_of_lines xs) + length (text_of_lines ys)
content-append [] ys = omega arith
content-append (x ∷ xs) ys =
    let later = content-append xs ys in
    let whole : length (x ++ 10 ∷ text_of_lines (xs ++ ys)) ≡ length x + suc (length (text_of_lines (xs ++ ys))) =
    length-append x (10 ∷ text_of_lines (xs ++ ys)) in
    let front : length (x ++ 10 ∷ text_of_lines xs) ≡ length x + suc (length (text_of_lines xs)) =
    length-append x (10 ∷ text_of_lines xs) in
    omega (arith, later, whole, front)

-- each line takes a byte at least
no-more-lines : (xs : List (List ℕ)) → length xs ≤ length (text_of_lines xs)
no-more-lines [] = omega arith
no-more-lines (x ∷ xs) =
    let later = no-more-lines xs in
    let whole : length (x ++ 10 ∷ text_of_lines xs) ≡ length x + suc (length (text_of_lines xs)) =
    length-append x (10 ∷ text_of_lines xs) in
    omega (arith, later, whole)

ask-length : (name : List ℕ) → 2 * length (request_to name) ≤ length (ask_line name)
ask-length name =
    omega (
      arith,
      length-encode_with lower_digits (request_to name),
      length-append (codes "ask " ++ name ++ codes " ") (encode_lower (request_to name)),
    )

reply-length : (c : ℕ) (o : Outcome) → 2 * length (spelled_reply form o) ≤ length (reply_line c o)
reply-length c o =
    omega (
      arith,
      length-encode_with lower_digits (spelled_reply form o),
      length-append (codes "reply " ++ decimal c ++ codes " ") (encode_lower (spelled_reply form o)),
    )

-- ---- the reply

ended-admits : (q : Query) (v : Visit) → q ≡ drill_query → EndedWrites q v → AdmitsVisit v
ended-admits q (visit.Refused o) e h =
    h (subst (λ (x : Query). query.format.admits x) (sym e) query-admitted)
ended-admits q (visit.Answered a max_list) e h = h

module _ (traders : List PlainTrader) (home : Address) (here : IsAddress home) where
  abbrev names : List (List ℕ)
  names = names_of traders

  abbrev of_query : (call : ℕ) → AskedQuery
  of_query call = asked_as call form drill_query

  -- the lines are read, and pass
  record Passed (w : World) (asked : List AskedQuery) (n : ℕ) (lines : List (List ℕ)) : Type 0 where
    feeds : AreLines lines
    audited : HasVerdict home names (state w asked) n lines (verdict.Yes (n + length lines))

  -- what holds before a query is asked
  record Before (w : World) (asked : List AskedQuery) (n : ℕ) : Type 0 where
    writes : WorldWrites w
    few : length w.calls ≤ 2 * n
    earlier : AreBefore (length w.calls) asked

  -- the reply to the query of a call that has ended
  replied : (x : World) (asked : List AskedQuery) (c : ℕ) (name : List ℕ) (v : Visit) (o : Outcome) → AreBefore c asked
      → visit_at x.calls c ≡ Some v → IsTraderName name → IsOutcomeOfVisit home name v o
      → (let s = state x (asked ++ of_query c ∷ []) in
      RepliedIn s c (recorded_answer (spelled_reply form o) (client_answer o)) (asked_of c s.asked) (Ok s))
  replied x asked c name v o earlier ends named answers =
      let s : AuditState = state x (asked ++ of_query c ∷ []) in
      let reply : Recorded = recorded_answer (spelled_reply form o) (client_answer o) in
      subst (λ (a : Option AskedQuery). RepliedIn s c reply a (Ok s))
      (sym (last-asked c asked (of_query c) earlier refl))
      (subst (λ (z : Option Visit). EndedIn s (of_query c) reply z (Ok s)) (sym ends)
      (reply-right home name c v o here named answers, refl))

  -- the outcome can be written
  outcome-written : (x : World) (c n : ℕ) (name : List ℕ) (v : Visit) (o : Outcome) → Stands home names c x n
      → visit_at x.calls c ≡ Some v → IsOutcomeOfVisit home name v o → AdmitsOutcome operation.Query o
  outcome-written x c n name v o stands ends answers =
      let call = ended-call x.calls c v (slice_get x.calls c) refl ends in
      let writes : StageWrites call.call.query call.call.stage =
      each-at CallWrites x.calls c call.call stands.writes.calls call.is in
      let gives : EndedWrites call.call.query v = subst (StageWrites call.call.query) call.stage writes in
      reply-written home name v o (ended-admits call.call.query v (stands.kept.holds call.call call.is) gives) answers

  asks : {w y : World} {k : ℕ} {rest lines : List (List ℕ)} → QueriesTraders home w k rest lines y → (front : List (List ℕ))
      → names ≡ front ++ rest → length front ≡ k → IsDistinct bytes_eq names → (asked : List AskedQuery) (n : ℕ)
      → Before w asked n → n + length (text_of_lines lines) < 2 ^ 32 → Passed w asked n lines
  asks (none {w = w}) front all at distinct asked n h short = record {
    feeds = tt;
    audited = subst (λ (m : ℕ). HasVerdict home names (state w asked) n [] (verdict.Yes m))
        (let same : n ≡ n + 0 = omega arith in same) over;
  }
  asks (passed_over {n = k} {name = name} {names = others} unnamed later) front all at distinct asked n h short =
      asks later (front ++ name ∷ []) (all ∙ sym (append_assoc front (name ∷ []) others))
      (omega (arith, at, length-append front (name ∷ []))) distinct asked n h short
  asks (more {w = w} {u = u} {x = x} {n = k} {name = name} {names = rest} {lines = lines} {others = others} {v = v} o
      named request accepts follows answers octets later) front all at distinct asked n h short =
      let c = length w.calls in
      let few = h.few in
      let ask = ask_line name in
      let reply = reply_line c o in
      let next = asked ++ of_query c ∷ [] in
      let content : length (text_of_lines (ask ∷ lines ++ reply ∷ others))
      ≡ length ask + suc (length (text_of_lines (lines ++ reply ∷ others))) =
      length-append ask (10 ∷ text_of_lines (lines ++ reply ∷ others)) in
      let middle = content-append lines (reply ∷ others) in
      let behind : length (text_of_lines (reply ∷ others)) ≡ length reply + suc (length (text_of_lines others)) =
      length-append reply (10 ∷ text_of_lines others) in
      let low : c < 2 ^ 64 = omega (arith, few, short) in
      let ask-long : 2 * length (request_to name) ≤ length ask = ask-length name in
      let reply-long : 2 * length (spelled_reply form o) ≤ length reply = reply-length c o in
      let at-name : trader_named names name ≡ Some k =
      ap (λ (xs : List (List ℕ)). trader_named xs name) all
      ∙ name-found front name rest (subst (IsDistinct bytes_eq) all distinct) ∙ ap (λ (m : ℕ). some m) at in
      let followed =
      follow home names c follows next (n + 1)
      (record {
        writes = event-writes w u (event.Ask k drill_query) h.writes tt accepts.becomes;
        few = let more = two-more w u (event.Ask k drill_query) accepts.becomes in omega (arith, few, more);
        kept = asked-keeps (HasQuery drill_query) (query-fixed drill_query) w u k drill_query refl accepts.accepted
            accepts.becomes;
      }) (omega (arith, short, content, middle)) in
      let ok = outcome-written x c (n + 1 + length lines) name v o followed.stands followed.ends answers in
      let m = n + 1 + length lines + 1 in
      let inside = followed.stands.kept.within in
      let calls = followed.stands.few in
      let last =
      asks later (front ++ name ∷ []) (all ∙ sym (append_assoc front (name ∷ []) rest))
      (omega (arith, at, length-append front (name ∷ []))) distinct next m
      (record {
        writes = followed.stands.writes;
        few = omega (arith, calls);
        earlier = each-append (λ (a : AskedQuery). a.call < length x.calls) asked (of_query c ∷ [])
            (later-before c (length x.calls) asked (omega (arith, inside)) h.earlier) (inside, tt);
      }) (omega (arith, short, content, middle, behind, no-more-lines lines)) in
      let count : m + length others ≡ n + length (ask ∷ lines ++ reply ∷ others) =
      omega (arith, length-append lines (reply ∷ others)) in
      record {
        feeds =
            (ask-feed name named, lines-append lines (reply ∷ others) followed.feeds (reply-feed c o low, last.feeds));
        audited = passes
            (ask-read names k name named at-name request
            (request-content name named (omega (arith, short, content, ask-long))))
            (accepts.accepted, accepts.becomes, refl)
            (followed.passes_on (reply ∷ others) (verdict.Yes (n + length (ask ∷ lines ++ reply ∷ others)))
            (passes
            (reply-read names c o (recorded_answer (spelled_reply form o) (client_answer o)) low octets
            (reply-content o ok (omega (arith, short, content, middle, behind, reply-long))))
            (replied x asked c name v o h.earlier followed.ends named answers)
            (subst (λ (z : ℕ). HasVerdict home names (state x next) m others (verdict.Yes z)) count last.audited)));
      }

-- ---- the whole log

abbrev from_first : List (List ℕ) → LogHead
from_first lines = record { words = []; number = 0; lines = lines }

-- its first line tells no random words
no-words : (home : Address) {w y : World} {k : ℕ} {rest lines : List (List ℕ)} → QueriesTraders home w k rest lines y
    → opening_of lines ≡ from_first lines
no-words home none = refl
no-words home (passed_over unnamed later) = no-words home later
no-words home (more {w = w} {name = name} {lines = lines} {others = others} o named request accepts follows answers
    octets later) =
    ap (λ (words : Option (List ℕ)). opening_by words (ask_line name)
    (lines ++ reply_line (length w.calls) o ∷ others)) (ask-no-words name)

pub made-pass : MadeLogsPass
made-pass traders home log opened here is short =
    let all : length log ≡ length (text_of_lines is.lines) = ap (length {A = ℕ}) is.content in
    let passed =
    asks traders home here is.asked [] refl refl opened.distinct [] 0
    (record { writes = record { traders = opened.writable; calls = tt }; few = omega arith; earlier = tt })
    (omega (arith, short, all)) in
    let read : lines_of log ≡ is.lines = ap lines_of is.content ∙ lines-read is.lines passed.feeds in
    let opening : opening_of (lines_of log) ≡ from_first is.lines = ap opening_of read ∙ no-words home is.asked in
    let count : 0 + length is.lines ≡ length (lines_of log) =
    (let same : 0 + length is.lines ≡ length is.lines = omega arith in same) ∙ sym (ap (length {A = List ℕ}) read) in
    subst (λ (p : LogHead). AuditedFrom traders home p (verdict.Yes (length (lines_of log)))) (sym opening)
    (subst (λ (m : ℕ). AuditedFrom traders home (from_first is.lines) (verdict.Yes m)) count passed.audited)

-- ---- its verdict

right : (one : VerdictsAreOne) (traders : List PlainTrader) (home : Address) (log : List ℕ) (n : ℕ) (v : Verdict)
    → Audits traders home log (verdict.Yes n) → AuditsOrWants traders home log v
    → (v ≡ verdict.Yes n) ⊎ (v ≡ verdict.Memory)
right one traders home log n (verdict.Yes m) passing is =
    inl (one traders home log (verdict.Yes m) (verdict.Yes n) is passing)
right one traders home log n (verdict.No m cause) passing is =
    inl (one traders home log (verdict.No m cause) (verdict.Yes n) is passing)
right one traders home log n (verdict.Line m) passing is =
    inl (one traders home log (verdict.Line m) (verdict.Yes n) is passing)
right one traders home log n verdict.Memory passing is = inr refl

pub made-right : VerdictsAreOne → MadeLogsAreRight
made-right one traders home log v opened here is short audit =
    right one traders home log (length (lines_of log)) v (made-pass traders home log opened here is short) audit
