-- A message is echoed as its head asks, and a stream over the servant is echoes.
use Rattle.std.proofs.Common.{◌≡◌, ℕ, ◌≤◌, cond, List, [], ◌∷◌, ◌++◌, All, length, Result, Ok, Err, OnOk, sym, ap, subst}
use Rattle.std.proofs.Common.{◌∙◌, arith, length-append}
use Rattle.std.proofs.lemmas.List.Elements.{All-nil, All-cons}
use Rattle.td_cdr.specs.Place.{At}
use Rattle.td_cdr.specs.declared.order.Order.{Order}
use Rattle.td_giop.specs.Heads.{Request, behind_header, request_at, locate_at}
use Rattle.td_giop.specs.Written.{locate_reply_written, seal_size}
use Rattle.td_giop.specs.declared.raw.Raw.{Raw}
use Rattle.td_stream.specs.Exchanges.{MessageExchange, Run}
use Rattle.td_stream.specs.Heads.{IsMessage}
use Rattle.td_stream.specs.Messages.{behind, order_of}
use Rattle.td_stream.specs.Outside.{Outside}
use Rattle.td_stream.specs.Streams.{Streams}
use Rattle.td_stream.specs.declared.end.End.{End}
use Rattle.td_stream_tests.specs.Echoes.{Any, Echoes, EchoesAll, EchoesSo, echo_of, request, locate}

-- what begins with a start of a message has a header
pub started : (old mid new start more : List ℕ) (n : ℕ) → length start ≡ n → 12 ≤ n → mid ≡ old ++ start
    → new ≡ mid ++ more → 12 ≤ length new
started old mid new start more n size long e f =
    omega (
      arith,
      size,
      long,
      ap (length {A = ℕ}) e ∙ length-append old start,
      ap (length {A = ℕ}) f ∙ length-append mid more,
    )

pub written : (old new start : List ℕ) (n : ℕ) → length start ≡ n → 12 ≤ n → new ≡ old ++ start → 12 ≤ length new
written old new start n size long e = omega (arith, size, long, ap (length {A = ℕ}) e ∙ length-append old start)

-- ---- one message

pub request_echoed : {E : Type 0} (result : Result (Unit {0}) E) (m : Raw) (head : Request) (body : At) (order : Order)
    (reply : List ℕ) → IsMessage m → m.kind ≡ 0
    → request_at m.minor (behind_header m.order m.bytes.now) ≡ Ok (head, body) → order ≡ m.order
    → OnOk result (reply ≡ cond head.answered (echo_of order m.minor head body) [])
    → OnOk result (Echoes m.bytes.now reply)
request_echoed (Ok u) m head body order reply is kind read same content =
    request (record {
      head = head;
      body = body;
      kind = sym is.kind ∙ kind;
      read =
          subst (λ (n : ℕ). request_at n (behind m.bytes.now) ≡ Ok (head, body)) is.minor
          (subst (λ (o : Order). request_at m.minor (behind_header o m.bytes.now) ≡ Ok (head, body)) is.order read);
      content =
          subst (λ (n : ℕ). reply ≡ cond head.answered (echo_of (order_of m.bytes.now) n head body) []) is.minor
          (subst (λ (o : Order). reply ≡ cond head.answered (echo_of o m.minor head body) []) (same ∙ is.order) content);
    })
request_echoed (Err f) m head body order reply is kind read same content = tt

pub locate_echoed : {E : Type 0} (result : Result (Unit {0}) E) (m : Raw) (id : ℕ) (key : List ℕ) (order : Order)
    (reply : List ℕ) → IsMessage m → m.kind ≡ 3 → locate_at (behind_header m.order m.bytes.now) ≡ Ok (id, key)
    → order ≡ m.order → OnOk result (reply ≡ seal_size order (locate_reply_written order m.minor id 1))
    → OnOk result (Echoes m.bytes.now reply)
locate_echoed (Ok u) m id key order reply is kind read same content =
    locate (record {
      id = id;
      key = key;
      kind = sym is.kind ∙ kind;
      read = subst (λ (o : Order). locate_at (behind_header o m.bytes.now) ≡ Ok (id, key)) is.order read;
      content =
          subst (λ (n : ℕ). reply ≡ seal_size (order_of m.bytes.now) (locate_reply_written (order_of m.bytes.now) n id 1))
          is.minor
          (subst (λ (o : Order). reply ≡ seal_size o (locate_reply_written o m.minor id 1)) (same ∙ is.order) content);
    })
locate_echoed (Err f) m id key order reply is kind read same content = tt

-- ---- a stream

each_echoed : (s u : Unit {0}) (xs : List MessageExchange) → Run EchoesSo s xs u → All (λ x. Echoes x.message x.reply) xs
each_echoed s u [] r = All-nil (λ (x : MessageExchange). Echoes x.message x.reply)
each_echoed s u (x ∷ xs) r =
    All-cons (λ (y : MessageExchange). Echoes y.message y.reply) x xs r.1.served (each_echoed r.0 u xs r.2)

pub echoes_all : (s u : Unit {0}) (end : End) (before after : Outside) → Streams EchoesSo Any s u end before after
    → EchoesAll end before after
echoes_all s u end before after f = record {
  exchanges = f.exchanges;
  each = each_echoed s f.last f.exchanges f.run;
  stream = f.stream;
}
