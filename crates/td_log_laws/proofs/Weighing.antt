-- A log that was made of sparse traders has few bytes.
use Rattle.std.proofs.Common.{◌≡◌, ℕ, zero, suc, ◌+◌, ◌-◌, ◌*◌, ◌^◌, ◌<◌, ◌≤◌, ◌&&◌, nat_le, Bool, true, List, [], ◌∷◌}
use Rattle.std.proofs.Common.{◌++◌, length, map, min, slice_get, Option, None, Some, codes, refl, sym, ap, subst, ◌∙◌}
use Rattle.std.proofs.Common.{arith, length-append}
use Rattle.std.proofs.lemmas.Bool.{leb-true}
use Rattle.std.proofs.lemmas.Fmt.{length-decimal-le}
use Rattle.std.proofs.lemmas.List.{length-map}
use Rattle.std.specs.Fmt.{decimal}
use Rattle.std.specs.List.{AllByRecursion, list_all}
use Rattle.hex.proofs.HexLemmas.{length-encode_with}
use Rattle.hex.specs.Hex.{encode_lower, lower_digits}
use Rattle.td_audit.specs.Making.{IsOutcomeOfVisit, QueriesTraders, RunsCalls, IsLog, Next, answer_line, ask_line}
use Rattle.td_audit.specs.Making.{deliver_line, ended}
use Rattle.td_audit.specs.Making.{form, goes, innermost_call, text_of_lines, more, next_in, no_value_line, none, passes}
use Rattle.td_audit.specs.Making.{reply_line, request_to}
use Rattle.td_audit.specs.Replies.{reply_head, spelled_reply}
use Rattle.td_audit_laws.proofs.Roots.{HasQuery, Keeps, asked-keeps, query-fixed, run-keeps}
use Rattle.td_audit_laws.proofs.Walks.{ended-call}
use Rattle.td_cdr.specs.Names.{IsTraderName, is_trader_byte, trader_name}
use Rattle.td_cdr.specs.declared.order.Order.TheVariants.{Big}
use Rattle.td_drill.specs.Drills.{drill_query}
use Rattle.td_giop.proofs.ByField.{request_is}
use Rattle.td_giop.proofs.Lengths.{reply_start_length, request_length}
use Rattle.td_giop.specs.Written.{reply_start, request_size, request_start}
use Rattle.td_ior.proofs.Numbers.{and-left, and-right}
use Rattle.td_ior.specs.Keys.{written_key}
use Rattle.td_iter.specs.Batches.{IsBatch}
use Rattle.td_iter.specs.Heads.{IsSmallReference, offers_found}
use Rattle.td_log_laws.proofs.Carrying.{EndedRefers, IsMade, OffersRefer, keeps-referring, quiet-made, referring}
use Rattle.td_log_laws.proofs.Fitting.{visit-fits}
use Rattle.td_log_laws.proofs.Keeping.{CallHas, StageHas, WorldHas, event-keeps}
use Rattle.td_log_laws.proofs.Following.{next-is, next-some, within}
use Rattle.td_log_laws.proofs.Growing.{two-more}
use Rattle.td_log_laws.proofs.Lasting.{EndedSo, SparseCall, SparseStage, SparseWorld, asked-lasts, event-lasts}
use Rattle.td_log_laws.proofs.Made.{content-append}
use Rattle.td_log_laws.proofs.Refusing.{refused-brief}
use Rattle.td_log_laws.proofs.Shortness.{drill-starts, made-short, next-quiet}
use Rattle.td_log_laws.proofs.Whole.{asked, sealed-length}
use Rattle.td_log_laws.specs.Short.{MadeLogsAreSmall, MadeLogsFit, SparseTrader}
use Rattle.td_lookup.specs.Choosing.{chosen}
use Rattle.td_lookup.specs.Querying.{first_offers}
use Rattle.td_net.specs.Schedules.{over, then}
use Rattle.td_net.specs.Worlds.{World, Becomes, state_at, step_of, visit_at}
use Rattle.td_net.specs.declared.event.Event.{Event}
use Rattle.td_typecode.specs.declared.reference.Ior.{Ior}
use Rattle.td_store.specs.declared.record.OfferRecord.{OfferRecord}
use Rattle.td_net.specs.declared.event.CallState.{CallState}
use Rattle.td_net.specs.declared.event.CallState.TheVariants as state
use Rattle.td_net.specs.declared.event.Event.TheVariants as event
use Rattle.td_objects.specs.References.{offer_iterator}
use Rattle.td_ops.specs.Calls.{call_piece}
use Rattle.td_ops.specs.Outcomes.{outcome_piece}
use Rattle.td_ops.specs.declared.call.Query.{Query}
use Rattle.td_ops.specs.declared.outcome.Outcome.{Outcome}
use Rattle.td_trader.specs.PlainTraders.{PlainTrader, store_of}
use Rattle.td_session_runs_laws.proofs.Parts.{each-at}
use Rattle.td_value.specs.declared.key.Kind.TheVariants.{Lookup}
use Rattle.td_value.specs.declared.structures.Offer.{Offer}
use Rattle.td_walk.specs.declared.trace.Address.{Address}
use Rattle.td_walk.specs.declared.trace.Visit.{Visit}
use Rattle.td_walk.specs.declared.trace.Visit.TheVariants as visit

-- ---- numbers

digits-few : (c : ℕ) → c < 2 ^ 64 → length (decimal c) ≤ 20
digits-few c h = length-decimal-le 20 c (omega arith) (omega (arith, h)) h

-- all numbers below n
abbrev each_below : (ℕ → Bool) → ℕ → Bool
each_below f zero = true
each_below f (suc n) = f 0 && each_below (λ k. f (suc k)) n

below-at : (f : ℕ → Bool) (n k : ℕ) → each_below f n ≡ true → k < n → f k ≡ true
below-at f zero k e low = absurd (let no : ⊥ = omega (arith, low) in no)
below-at f (suc n) zero e low = and-left (f 0) (each_below (λ k. f (suc k)) n) e
below-at f (suc n) (suc k) e low =
    below-at (λ m. f (suc m)) n k (and-right (f 0) (each_below (λ m. f (suc m)) n) e) (omega (arith, low))

-- ---- the line of an event

next-small : (c : ℕ) → c < 2 ^ 64 → (o : Option CallState) (next : Next) → next_in c o ≡ Some next
    → length next.line ≤ 28
next-small c h (Some state.Sent) next e =
    subst (λ (n : Next). length n.line ≤ 28)
    (next-is (record { event = event.Deliver c; line = deliver_line c }) next e)
    (omega (arith, digits-few c h, length-append (codes "deliver ") (decimal c)))
next-small c h (Some state.Evaluating) next e =
    subst (λ (n : Next). length n.line ≤ 28)
    (next-is (record { event = event.Value c None; line = no_value_line c }) next e)
    (omega (
      arith,
      digits-few c h,
      length-append (codes "value ") (decimal c),
      length-append (codes "value " ++ decimal c) (codes " -"),
    ))
next-small c h (Some state.Ended) next e =
    subst (λ (n : Next). length n.line ≤ 28)
    (next-is (record { event = event.Answer c; line = answer_line c }) next e)
    (omega (arith, digits-few c h, length-append (codes "answer ") (decimal c)))
next-small c h (Some state.Running) next e = absurd cc
next-small c h (Some (state.Waiting d)) next e = absurd cc
next-small c h None next e = absurd cc

-- ---- the line of an Ask

-- behind the head of a Request to a name of so many bytes, the parameters end soon
abbrev ends_soon : ℕ → Bool
ends_soon n = nat_le (request_size (n + 2) 5 + length (call_piece asked Big (request_size (n + 2) 5))) 300

soon : each_below ends_soon 33 ≡ true
soon = refl

name-few : (name : List ℕ) → trader_name name ≡ true → length name ≤ 32
name-few name e =
    let counts = and-left (nat_le 1 (length name) && nat_le (length name) 32) (list_all is_trader_byte name) e in
    leb-true (length name) 32 (and-right (nat_le 1 (length name)) (nat_le (length name) 32) counts)

module _ (name : List ℕ) (named : trader_name name ≡ true) where
  abbrev key : List ℕ
  key = written_key (record { trader = name; kind = Lookup })

  abbrev head : List ℕ
  head = request_start Big 0 1 true key (codes "query")

  head-length : length head ≡ request_size (length name + 2) 5
  head-length =
      ap (length {A = ℕ}) (sym (request_is Big 0 1 true key (codes "query")))
      ∙ request_length Big 0 1 true key (codes "query")
      ∙ ap (λ (n : ℕ). request_size n 5) (length-append name (47 ∷ 76 ∷ []))

  request-small : length (request_to name) ≤ 300
  request-small =
      let few = name-few name named in
      let place = request_size (length name + 2) 5 in
      let fits = leb-true (place + length (call_piece asked Big place)) 300
      (below-at ends_soon 33 (length name) soon (omega (arith, few))) in
      let parameters : length (call_piece asked Big (length head)) ≡ length (call_piece asked Big place) =
      ap (λ (p : ℕ). length (call_piece asked Big p)) head-length in
      let both = length-append head (call_piece asked Big (length head)) in
      omega (
        arith,
        fits,
        head-length,
        parameters,
        both,
        sealed-length Big (head ++ call_piece asked Big (length head)) (omega (arith, head-length, both)),
      )

  pub ask-small : length (ask_line name) ≤ 637
  ask-small =
      let few = name-few name named in
      let hex = length-encode_with lower_digits (request_to name) in
      omega (
        arith,
        few,
        hex,
        request-small,
        length-append (codes "ask ") name,
        length-append (codes "ask " ++ name) (codes " "),
        length-append (codes "ask " ++ name ++ codes " ") (encode_lower (request_to name)),
      )

-- ---- the line of a reply

-- a batch fits in a message
answer-small : (home : Address) (name : List ℕ) (limits : List (List ℕ)) (offers : List Offer) (n count : ℕ)
    → IsBatch (offers_found (offer_iterator home name 1) limits) offers (reply_head form) n count
    → length (spelled_reply form (first_offers home name 1 limits offers count)) ≤ 16777228
answer-small home name limits offers n count batch =
    let start = reply_start Big 0 1 0 in
    let body = outcome_piece (first_offers home name 1 limits offers count) Big (length start) in
    let fits : length start + length body ≤ 16777228 = batch.holds in
    let front = reply_start_length Big 0 1 0 in
    let both = length-append start body in
    let whole = sealed-length Big (start ++ body) (omega (arith, front, both)) in
    omega (arith, fits, both, whole)

visit-small : (home : Address) (name : List ℕ) (q : Query) (v : Visit) (o : Outcome) → q ≡ drill_query → EndedSo q v
    → IsOutcomeOfVisit home name v o → length (spelled_reply form o) ≤ 16777228
visit-small home name q (visit.Refused r) o e so is =
    subst (λ (x : Outcome). length (spelled_reply form x) ≤ 16777228) (sym is)
    (let brief = refused-brief q r e so in omega (arith, brief))
visit-small home name q (visit.Answered a max_list) o e so is =
    subst (λ (x : Outcome). length (spelled_reply form x) ≤ 16777228) (sym is.2)
    (answer-small home name a.limits (map (chosen drill_query.desired) a.offers) (min drill_query.how_many max_list)
    is.0 is.1)

reply-small : (most c : ℕ) (o : Outcome) → c < 2 ^ 64 → length (spelled_reply form o) ≤ most
    → length (reply_line c o) ≤ 2 * most + 27
reply-small most c o h few =
    let hex = length-encode_with lower_digits (spelled_reply form o) in
    omega (
      arith,
      few,
      hex,
      digits-few c h,
      length-append (codes "reply ") (decimal c),
      length-append (codes "reply " ++ decimal c) (codes " "),
      length-append (codes "reply " ++ decimal c ++ codes " ") (encode_lower (spelled_reply form o)),
    )

-- ---- a log, where each reply to the query has so many bytes at most

-- the same for each of so many
abbrev share : (each : ℕ) → ℕ → ℕ
share each zero = 0
share each (suc n) = each + share each n

module _ (home : Address) (P : Ior → Type 0) (most : ℕ)
    (replies : (name : List ℕ) (q : Query) (v : Visit) (o : Outcome) → IsTraderName name → q ≡ drill_query
    → EndedSo q v → EndedRefers P q v → IsOutcomeOfVisit home name v o → length (spelled_reply form o) ≤ most) where
  keeps : (w u : World) (e : Event) → WorldHas (referring P) w → IsMade e → Becomes w (step_of w e) u
      → WorldHas (referring P) u
  keeps w u e h made b = event-keeps (referring P) IsMade (keeps-referring P) w u e h made b

  -- ---- the lines between

  -- what holds behind so many lines
  record Holds (root : ℕ) (w : World) (n : ℕ) : Type 0 where
    sparse : SparseWorld w
    refers : WorldHas (referring P) w
    few : length w.calls ≤ 2 * n
    kept : Keeps (HasQuery drill_query) root w.calls

  record Light (root : ℕ) (x : World) (n : ℕ) (lines : List (List ℕ)) (v : Visit) : Type 0 where
    holds : Holds root x n
    ends : visit_at x.calls root ≡ Some v
    bytes : length (text_of_lines lines) ≤ 29 * length lines

  follow-light : (root : ℕ) {w x : World} {lines : List (List ℕ)} {v : Visit} → RunsCalls root w lines v x → (n : ℕ)
      → Holds root w n → n + length lines < 2 ^ 62 → Light root x (n + length lines) lines v
  follow-light root (ended {w = w} e) n h low = record {
    holds = subst (Holds root w) (let same : n ≡ n + 0 = omega arith in same) h;
    ends = e;
    bytes = omega arith;
  }
  follow-light root (goes {w = w} {u = u} {x = x} {lines = lines} next open_yet at accepts later) n h low =
      let c = innermost_call (length w.calls) w.calls root in
      let there = next-some c (state_at w.calls c) next at in
      let inside = within w.calls c there.0 there.1 in
      let few = h.few in
      let grows = two-more w u next.event accepts.becomes in
      let quiet = next-quiet c (state_at w.calls c) next at in
      let left = event-lasts w u next.event quiet h.sparse accepts.accepted accepts.becomes in
      let line = next-small c (omega (arith, inside, few, low)) (state_at w.calls c) next at in
      let rest =
      follow-light root later (n + 1)
      (record {
        sparse = left.0;
        refers = keeps w u next.event h.refers (quiet-made next.event quiet) accepts.becomes;
        few = omega (arith, few, grows);
        kept = run-keeps (HasQuery drill_query) (query-fixed drill_query) root w u (next.event ∷ []) h.kept
            (then accepts.becomes over);
      }) (omega (arith, low)) in
      let others = rest.bytes in
      let count : n + 1 + length lines ≡ n + length (next.line ∷ lines) = omega arith in
      record {
        holds = subst (Holds root x) count rest.holds;
        ends = rest.ends;
        bytes = omega (arith, line, others, length-append next.line (10 ∷ text_of_lines lines));
      }

  -- ---- the reply behind them

  outcome-small : (name : List ℕ) (x : World) (c n : ℕ) (v : Visit) (o : Outcome) → IsTraderName name → Holds c x n
      → visit_at x.calls c ≡ Some v → IsOutcomeOfVisit home name v o → length (spelled_reply form o) ≤ most
  outcome-small name x c n v o named h ends answers =
      let call = ended-call x.calls c v (slice_get x.calls c) refl ends in
      let sparse : SparseStage call.call.query call.call.stage =
      each-at SparseCall x.calls c call.call h.sparse.calls call.is in
      let so : EndedSo call.call.query v = subst (SparseStage call.call.query) call.stage sparse in
      let stage : StageHas (referring P) call.call.query call.call.stage =
      each-at (CallHas (referring P)) x.calls c call.call h.refers.calls call.is in
      let refers : EndedRefers P call.call.query v =
      subst (StageHas (referring P) call.call.query) call.stage stage in
      replies name call.call.query v o named (h.kept.holds call.call call.is) so refers answers

  -- ---- all lines

  asks-light : {w y : World} {k : ℕ} {names lines : List (List ℕ)} → QueriesTraders home w k names lines y → (n : ℕ)
      → SparseWorld w → WorldHas (referring P) w → length w.calls ≤ 2 * n → n + length lines < 2 ^ 62
      → length (text_of_lines lines) ≤ 29 * length lines + share (2 * most + 664) (length names)
  asks-light none n h refers few low = omega arith
  asks-light (passes unnamed later) n h refers few low =
      let rest = asks-light later n h refers few low in omega (arith, rest)
  asks-light (more {w = w} {u = u} {x = x} {n = k} {name = name} {names = names} {lines = lines} {others = others}
      {v = v} o named request accepts follows answers octets later) n h refers few low =
      let c = length w.calls in
      let reply = reply_line c o in
      let asked_one = asked-lasts w u k drill_query h drill-starts accepts.accepted accepts.becomes in
      let grows = two-more w u (event.Ask k drill_query) accepts.becomes in
      let lines-in = length-append lines (reply ∷ others) in
      let followed =
      follow-light c follows (n + 1)
      (record {
        sparse = asked_one.0;
        refers = keeps w u (event.Ask k drill_query) refers tt accepts.becomes;
        few = omega (arith, few, grows);
        kept = asked-keeps (HasQuery drill_query) (query-fixed drill_query) w u k drill_query refl accepts.accepted
            accepts.becomes;
      }) (omega (arith, low, lines-in)) in
      let calls = followed.holds.few in
      let rest =
      asks-light later (n + 1 + length lines + 1) followed.holds.sparse followed.holds.refers (omega (arith, calls))
      (omega (arith, low, lines-in)) in
      let ask-bytes = ask-small name named in
      let between = followed.bytes in
      let reply-bytes =
      reply-small most c o (omega (arith, few, low))
      (outcome-small name x c (n + 1 + length lines) v o named followed.holds followed.ends answers) in
      let front : length (text_of_lines (ask_line name ∷ lines ++ reply ∷ others))
      ≡ length (ask_line name) + suc (length (text_of_lines (lines ++ reply ∷ others))) =
      length-append (ask_line name) (10 ∷ text_of_lines (lines ++ reply ∷ others)) in
      let middle = content-append lines (reply ∷ others) in
      let behind : length (text_of_lines (reply ∷ others)) ≡ length reply + suc (length (text_of_lines others)) =
      length-append reply (10 ∷ text_of_lines others) in
      omega (arith, front, middle, behind, ask-bytes, between, reply-bytes, rest, lines-in)

  -- the whole log
  made-light : (traders : List PlainTrader) (log : List ℕ) → AllByRecursion SparseTrader traders
      → AllByRecursion (λ (t : PlainTrader). OffersRefer P (store_of t).offers) traders → length traders ≤ 64
      → IsLog traders home log → length log ≤ 237568 + share (2 * most + 664) (length traders)
  made-light traders log sparse refers few is =
      let all : length log ≡ length (text_of_lines is.lines) = ap (length {A = ℕ}) is.content in
      let short = made-short traders home log sparse is in
      let count : share (2 * most + 664) (length (map (λ (t : PlainTrader). t.name) traders))
      ≡ share (2 * most + 664) (length traders) =
      ap (share (2 * most + 664)) (length-map traders (λ (t : PlainTrader). t.name)) in
      let bytes = asks-light is.asked 0 (record { traders = sparse; calls = tt })
      (record { traders = refers; calls = tt }) (omega arith) (omega (arith, short, few)) in
      omega (arith, all, short, few, count, bytes)

-- ---- any references

abbrev AnyReference : Ior → Type 0
AnyReference r = Unit {0}

any-offers : (offers : List OfferRecord) → OffersRefer AnyReference offers
any-offers [] = tt
any-offers (o ∷ offers) = (tt, any-offers offers)

any-traders : (traders : List PlainTrader)
    → AllByRecursion (λ (t : PlainTrader). OffersRefer AnyReference (store_of t).offers) traders
any-traders [] = tt
any-traders (t ∷ traders) = (any-offers (store_of t).offers, any-traders traders)

share-large : (n : ℕ) → share 33555120 n ≡ 33555120 * n
share-large zero = refl
share-large (suc n) = let later = share-large n in omega (arith, later)

pub made-small : MadeLogsAreSmall
made-small traders home log sparse few is =
    let light =
    made-light home AnyReference 16777228
    (λ name q v o named e so refers answers. visit-small home name q v o e so answers) traders log sparse
    (any-traders traders) few is in
    omega (arith, light, few, share-large (length traders))

-- ---- small references

share-few : (n : ℕ) → share 830534 n ≡ 830534 * n
share-few zero = refl
share-few (suc n) = let later = share-few n in omega (arith, later)

pub made-fits : MadeLogsFit
made-fits traders home log here sparse small few is =
    let light =
    made-light home IsSmallReference 414935
    (λ name q v o named e so refers answers. visit-fits home name q v o here named e so refers answers) traders log
    sparse small few is in
    omega (arith, light, few, share-few (length traders))
