-- Requests and Replies that were written are read back as messages of a log.
use Rattle.std.proofs.Common.{codes, ◌≡◌, ℕ, ◌+◌, ◌-◌, ◌^◌, ◌<◌, ◌≤◌, nat_eq, nat_le, ◌&&◌, Bool, true, List, [], ◌∷◌}
use Rattle.std.proofs.Common.{◌++◌, length, take, drop, Option, Some, None, Result, Ok, refl, sym, ap, subst, ◌∙◌}
use Rattle.std.proofs.Common.{arith, length-append, length-drop, if◌then◌else◌}
use Rattle.std.proofs.lemmas.Bool.{eq-eqb}
use Rattle.std.proofs.lemmas.Bool.Decides.{nat_tests}
use Rattle.std.proofs.lemmas.List.{append-nil, length-take}
use Rattle.std.proofs.lemmas.Slice.Eq.{bytes_eq-Decides}
use Rattle.std.specs.Result.{result_ok}
use Rattle.std.specs.List.{list_all}
use Rattle.td_audit.specs.Making.{form, request_to}
use Rattle.td_audit.specs.Replies.{spelled_reply}
use Rattle.td_cdr.specs.Gap.{bytes_of}
use Rattle.td_cdr.specs.Joined.{length-bytes_of}
use Rattle.td_cdr.specs.Names.{is_trader_byte, trader_name}
use Rattle.td_cdr.specs.Place.{At}
use Rattle.td_cdr.specs.Reading.{after}
use Rattle.td_cdr.specs.declared.fault.CdrFault.{CdrFault}
use Rattle.td_cdr.specs.declared.order.Order.{Order}
use Rattle.td_cdr.specs.declared.order.Order.TheVariants.{Big}
use Rattle.td_drill.specs.Drills.{drill_query}
use Rattle.td_giop.proofs.Judged.{good_at}
use Rattle.td_giop.proofs.Lengths.{reply_start_length}
use Rattle.td_giop.proofs.Messages.{reply_back, reply_whole, request_back, request_whole}
use Rattle.td_giop.specs.Header.{header_at}
use Rattle.td_giop.specs.Heads.{Reply, Request, request as request_head}
use Rattle.td_giop.specs.Written.{IsSealed, at_body, header_written, reply_start, request_start, seal_size}
use Rattle.td_giop.specs.declared.fault.FrameFault.{FrameFault}
use Rattle.td_giop.specs.declared.header.Header.{Header}
use Rattle.td_giop.specs.declared.message_type.TheConstants.{REPLY, REQUEST}
use Rattle.td_ior.proofs.Keys.{written-found}
use Rattle.td_ior.proofs.Numbers.{and-left, and-right}
use Rattle.td_ior.specs.Keys.{◌>>=◌, written_key}
use Rattle.td_log.specs.Messages.{parse_answer, parse_call, call_of_object, header_of, most, recorded_answer, reply_in}
use Rattle.td_log.specs.Messages.{reply_of}
use Rattle.td_log.specs.Messages.{request_behind, request_in, request_of, whole_in}
use Rattle.td_ops.proofs.Heard.{outcome-back}
use Rattle.td_ops.proofs.Told.{call-back}
use Rattle.td_ops.specs.Answers.{AdmitsOutcome, answer_of, client_answer, answer_piece}
use Rattle.td_ops.specs.Refusals.{reading_of}
use Rattle.td_ops.specs.Calls.{AdmitsCall, call_piece, call_read}
use Rattle.td_ops.specs.Parameters.{query}
use Rattle.td_ops.specs.Outcomes.{outcome_piece, outcome_status}
use Rattle.td_ops.specs.declared.call.Call.{Call}
use Rattle.td_ops.specs.declared.call.Call.TheVariants as call
use Rattle.td_ops.specs.declared.fault.OpsFault.{OpsFault}
use Rattle.td_ops.specs.declared.operation.Operation.TheVariants.{Query}
use Rattle.td_ops.specs.declared.outcome.Outcome.{Outcome}
use Rattle.td_ops.specs.declared.outcome.Outcome.TheVariants.{Done, User, System}
use Rattle.td_types.proofs.Sequences.{sequence-from}
use Rattle.td_value.specs.Structures.{policy}
use Rattle.td_value.specs.declared.key.Kind.TheVariants.{Lookup}
use Rattle.td_value.specs.declared.key.ObjectKey.{ObjectKey}

-- ---- a message by itself

abbrev some : {A : Type 0} → A → Option A
some x = Some x

pub sealed-length : (order : Order) (bytes : List ℕ) → 12 ≤ length bytes → length (seal_size order bytes) ≡ length bytes
sealed-length order bytes whole =
    let front : List ℕ = take 8 bytes in
    let size : List ℕ = bytes_of order 4 (length bytes - 12) in
    let outer : length (seal_size order bytes) ≡ length (front ++ size) + length (drop 12 bytes) =
    length-append (front ++ size) (drop 12 bytes) in
    omega (
      arith,
      outer,
      length-append front size,
      length-take 8 bytes,
      length-bytes_of order 4 (length bytes - 12),
      length-drop 12 bytes,
    )

abbrev header : (kind minor : ℕ) → Order → (bytes : List ℕ) → Header
header kind minor order bytes = record { kind = kind; order = order; size = length bytes - 12; minor = minor }

abbrev if_kind : (kind : ℕ) → Header → Option Header
if_kind kind h = if nat_eq h.kind kind then Some h else None

header-content : (kind minor : ℕ) (order : Order) (bytes : List ℕ) → IsSealed most minor order kind bytes
    → 12 ≤ length bytes → length bytes < 2 ^ 32
    → header_of kind (seal_size order bytes) ≡ Some (header kind minor order bytes)
unfolding header_of
header-content kind minor order bytes is whole short =
    let h : Header = header kind minor order bytes in
    let good = is.good short (omega (arith, short)) in
    let at : header_at most (seal_size order bytes) ≡ Ok (Some h) =
    good_at most (seal_size order bytes) minor order kind (length bytes - 12) good in
    let long : length (seal_size order bytes) ≡ 12 + (length bytes - 12) =
    omega (arith, whole, sealed-length order bytes whole) in
    let count : nat_eq (length (seal_size order bytes)) (12 + (length bytes - 12)) ≡ true =
    eq-eqb (length (seal_size order bytes)) (12 + (length bytes - 12)) long in
    ap (λ (r : Result (Option Header) FrameFault). whole_in (length (seal_size order bytes)) r >>= if_kind kind) at
    ∙ ap (λ (b : Bool). (if b then some h else None) >>= if_kind kind) count
    ∙ ap (λ (b : Bool). if b then some h else None) (eq-eqb kind kind refl)

-- ---- a Reply

status-low : (o : Outcome) → outcome_status o < 2 ^ 32
status-low (Done r) = omega arith
status-low (User e) = omega arith
status-low (System kind minor completion) = omega arith

module _ (o : Outcome) (ok : AdmitsOutcome Query o) (short : length (spelled_reply form o) < 2 ^ 32) where
  abbrev start : List ℕ
  start = reply_start Big 0 1 (outcome_status o)

  abbrev body : List ℕ
  body = outcome_piece o Big (length start)

  abbrev message : List ℕ
  message = seal_size Big (start ++ body)

  long : 12 ≤ length (start ++ body)
  long = omega (arith, length-append start body, reply_start_length Big 0 1 (outcome_status o))

  all-short : length (start ++ body) < 2 ^ 32
  all-short = omega (arith, short, sealed-length Big (start ++ body) long)

  body-short : length body < 2 ^ 32
  body-short = omega (arith, all-short, length-append start body)

  -- where the body begins
  abbrev at : At
  at = at_body Big start body

  same-place : length start - 0 ≡ length start
  same-place = omega arith

  heard : reading_of ((answer_of Query (outcome_status o)).format.reads at)
      ≡ Ok (client_answer o, after (length (answer_piece o Big (length start - 0))) at)
  heard =
      outcome-back (call.Query drill_query) o at [] ok (omega arith)
      (subst (λ (p : ℕ). length (outcome_piece o Big p) < 2 ^ 32) (sym same-place) body-short)
      (sym (append-nil body) ∙ ap (λ (p : ℕ). outcome_piece o Big p ++ []) (sym same-place))

  read-in : reply_in Query Big message ≡ Some (recorded_answer message (client_answer o))
  unfolding reply_in
  read-in =
      ap (λ (r : Result (Reply × At) CdrFault). result_ok r >>= λ x.
      parse_answer message (reading_of ((answer_of Query x.0.status).format.reads x.1)))
      (reply_back Big 0 1 (outcome_status o) body (omega arith) (status-low o))
      ∙ ap (parse_answer message) heard

  -- it is read as what a client is told
  pub reply-content : reply_of Query (spelled_reply form o) ≡ Some (recorded_answer (spelled_reply form o) (client_answer o))
  unfolding reply_of
  reply-content =
      ap (λ (h : Option Header). h >>= λ x. reply_in Query x.order message)
      (header-content REPLY 0 Big (start ++ body) (reply_whole Big 0 1 (outcome_status o) body most (omega arith)) long
      all-short)
      ∙ read-in

-- ---- a Request

abbrev pub asked : Call
asked = call.Query drill_query

asked-admitted : AdmitsCall asked
asked-admitted =
    let policies = sequence-from policy [] (omega arith) tt in
    (drill_query, refl, (refl, (refl, (refl, (policies, ((omega arith, refl), omega arith))))))

pub query-admitted : query.format.admits drill_query
unfolding asked-admitted
query-admitted = asked-admitted.2

module _ (name : List ℕ) (named : trader_name name ≡ true) (short : length (request_to name) < 2 ^ 32) where
  abbrev key : ObjectKey
  key = record { trader = name; kind = Lookup }

  abbrev head : List ℕ
  head = request_start Big 0 1 true (written_key key) (codes "query")

  abbrev parameters : List ℕ
  parameters = call_piece asked Big (length head)

  abbrev request : List ℕ
  request = seal_size Big (head ++ parameters)

  name-short : length name ≤ 32
  name-short =
      let counts = and-left (nat_le 1 (length name) && nat_le (length name) 32) (list_all is_trader_byte name) named in
      let most = and-right (nat_le 1 (length name)) (nat_le (length name) 32) counts in
      grind (arith, nat_tests, most)

  abbrev content_head : Request
  content_head = record { id = 1; answered = true; key = written_key key; operation = codes "query" }

  head-long : 12 ≤ length head
  unfolding request_start
  head-long =
      omega (arith, length-append (header_written Big 0 REQUEST) ((request_head 0).format.writes content_head Big 12))

  request-long : 12 ≤ length (head ++ parameters)
  request-long = omega (arith, head-long, length-append head parameters)

  request-short : length (head ++ parameters) < 2 ^ 32
  request-short = omega (arith, short, sealed-length Big (head ++ parameters) request-long)

  parameters-short : length parameters < 2 ^ 32
  parameters-short = omega (arith, request-short, length-append head parameters)

  abbrev there : At
  there = at_body Big head parameters

  no-origin : length head - 0 ≡ length head
  no-origin = omega arith

  called : call_read Lookup (codes "query") there
      ≡ Ok (asked, after (length (call_piece asked Big (length head - 0))) there)
  called =
      call-back Lookup asked there [] refl asked-admitted (omega arith)
      (subst (λ (p : ℕ). length (call_piece asked Big p) < 2 ^ 32) (sym no-origin) parameters-short)
      (sym (append-nil parameters) ∙ ap (λ (p : ℕ). call_piece asked Big p ++ []) (sym no-origin))

  key-short : length (written_key key) < 2 ^ 32
  key-short = omega (arith, name-short, length-append name (47 ∷ 76 ∷ []))

  behind : request_behind name Big 0 content_head there ≡ Some (form, asked)
  behind =
      ap (λ (k : Option ObjectKey). k >>= λ x. call_of_object name content_head there x >>= λ c. some (form, c))
      (written-found key named tt)
      ∙ ap
      (λ (b : Bool). (if b then parse_call (call_read Lookup (codes "query") there) else None) >>= λ c. some (form, c))
      ((bytes_eq-Decides name name).1 refl)
      ∙ ap (λ (r : Result (Call × At) OpsFault). parse_call r >>= λ c. some (form, c)) called

  request-in : request_in name Big 0 request ≡ Some (form, asked)
  unfolding request_in
  request-in =
      ap (λ (r : Result (Request × At) CdrFault). result_ok r >>= λ x. request_behind name Big 0 x.0 x.1)
      (request_back Big 0 1 true (written_key key) (codes "query") parameters (omega arith) key-short (omega arith)
      refl)
      ∙ behind

  -- it is read as the query, and the form of its reply
  pub request-content : request_of name (request_to name) ≡ Some (form, asked)
  unfolding request_of
  request-content =
      ap (λ (h : Option Header). h >>= λ x. request_in name x.order x.minor request)
      (header-content REQUEST 0 Big (head ++ parameters)
      (request_whole Big 0 1 true (written_key key) (codes "query") parameters most (omega arith)) request-long
      request-short)
      ∙ request-in
