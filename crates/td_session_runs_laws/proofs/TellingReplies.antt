-- A Reply whose outcome can be written spells it.
use Rattle.std.proofs.Common.{◌≡◌, ℕ, ◌+◌, ◌-◌, ◌^◌, ◌<◌, ◌≤◌, Bool, true, false, List, [], ◌++◌, length, drop, take}
use Rattle.std.specs.Prelude.{if◌then◌else◌}
use Rattle.std.proofs.Common.{ap, arith, length-append, length-drop}
use Rattle.td_cdr.specs.Gap.{bytes_of}
use Rattle.td_cdr.specs.declared.order.Order.{Order}
use Rattle.td_giop.proofs.Lengths.{reply_start_length}
use Rattle.td_giop.specs.Written.{reply_start, seal_size}
use Rattle.td_giop.specs.declared.header.TheConstants.{HEADER_SIZE, SIZE_PLACE}
use Rattle.td_ops.specs.Outcomes.{outcome_piece, outcome_status}
use Rattle.td_dispatch.specs.ReplyBytes.{outcome_reply, reply_for}
use Rattle.td_dispatch.specs.declared.reply_to.ReplyTo.{ReplyTo}
use Rattle.td_session_runs.specs.Turns.{ServedRequest}
use Rattle.td_session_runs_laws.proofs.SpellingOutcomes.{answer-spells}
use Rattle.td_session_runs_laws.specs.Spelled.{HasAdmittedAnswer, SpellsReply, SpellsReplyIf}

-- what stands behind a header is no longer than the sealed message
sealed-longer : (order : Order) (start body : List ℕ) → HEADER_SIZE ≤ length start
    → length body ≤ length (seal_size order (start ++ body))
sealed-longer order start body whole =
    let all : List ℕ = start ++ body in
    let size : List ℕ = bytes_of order 4 (length all - HEADER_SIZE) in
    let rest : List ℕ = drop HEADER_SIZE all in
    let long : length all ≡ length start + length body = length-append start body in
    let behind : length rest ≡ length all - HEADER_SIZE = length-drop HEADER_SIZE all in
    let outer : length (seal_size order all) ≡ length (take SIZE_PLACE all ++ size) + length rest =
    length-append (take SIZE_PLACE all ++ size) rest in
    omega arith

-- a Reply of fewer than 2^32 bytes, or none where none is expected
content-if : (n : ServedRequest) (to : ReplyTo) (answered : Bool) (bytes : List ℕ) → HasAdmittedAnswer n → length bytes < 2 ^ 32
    → bytes ≡ (if answered then outcome_reply to n.outcome else []) → SpellsReplyIf answered to n bytes
content-if n to false bytes ok short is = is
content-if n to true bytes ok short is =
    let order : Order = to.order in
    let start : List ℕ = reply_start order to.minor to.id (outcome_status n.outcome) in
    let body : List ℕ = outcome_piece n.outcome order (length start) in
    let head : length start ≡ 24 = reply_start_length order to.minor to.id (outcome_status n.outcome) in
    let within : length body ≤ length (seal_size order (start ++ body)) = sealed-longer order start body (omega arith) in
    let long : length bytes ≡ length (seal_size order (start ++ body)) = ap (length {A = ℕ}) is in
    record {
      body = body;
      reply = is;
      spells = answer-spells n.judged n.outcome order (length start) ok (omega arith);
    }

pub reply-content : (n : ServedRequest) (to : ReplyTo) (bytes : List ℕ) → HasAdmittedAnswer n → length bytes < 2 ^ 32
    → bytes ≡ reply_for to n.outcome → SpellsReply to n bytes
reply-content n to bytes ok short is = content-if n to to.answered bytes ok short is
