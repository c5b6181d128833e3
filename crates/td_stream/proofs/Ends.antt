-- How a turn goes on with a stream or ends it.
use Rattle.std.proofs.Common.{◌≡◌, ℕ, ◌+◌, ◌<◌, ◌≤◌, Bool, true, false, cond, List, [], ◌∷◌, ◌++◌, length}
use Rattle.std.proofs.Common.{drop, Option, Some, None, Result, Ok, Err, refl, sym, ap, subst, ◌∙◌, inl, inr, arith}
use Rattle.std.proofs.Common.{take_all, append-nil, length-append, length-drop}
use mir.Val.{bool_byte}
use Rattle.std.proofs.KnownBytes.{Consumes-nil}
use Rattle.std.specs.Io.KnownBytes.{Consumes, IsAtEnd}
use Rattle.td_out.specs.declared.fault.Failed.{Failed as SinkFailed}
use Rattle.td_giop.specs.declared.fault.FrameFault.{FrameFault}
use Rattle.td_giop.specs.Stream.{Stream, first_at, without_first}
use Rattle.td_giop.proofs.Framing.{whole}
use Rattle.td_stream.specs.Messages.{is_request, message_limit}
use Rattle.td_stream.specs.Exchanges.{MessageExchange, requests}
use Rattle.td_stream.specs.declared.end.Cause.{Cause}
use Rattle.td_stream.specs.declared.end.End.{End}
use Rattle.td_stream.specs.declared.end.End.TheVariants.{Closed, Broken, Truncated, ReadFault, WriteFault, Long}
use Rattle.td_stream.specs.declared.end.End.TheVariants.{Memory}
use Rattle.td_stream.specs.Outbound.{Outbound, PutsReply, SendsAll, IsSent}
use Rattle.td_stream.specs.OutboundLaws.{puts-then}
use Rattle.td_stream.specs.Streams.{BreaksAt, bytes_limit, request_limit}
use Rattle.td_stream.specs.Steps.{cause_of}
use Rattle.td_stream.specs.Fronts.{AnswersMessage}
use Rattle.td_stream.specs.Ends.{EndsInput, BreaksOff, EndsAtBad}
use Rattle.td_stream.specs.Pieces.{WritesFront}
use Rattle.td_out.specs.SinkTexts.{WritesAll}
use Rattle.td_stream.specs.Progress.{stand, StreamMoves, EndsAt, WritesLast, Advances}

-- ---- sends

-- what is held was sent, and no send has failed
pub is_sent : (o p : Outbound) → SendsAll o p → p.failed ≡ false → IsSent p
is_sent o p sends works = record { held = sends.empty works; works = works }

pub writes_of : (w0 w1 : Option (List ℕ)) (f0 f1 : ℕ) (piece : List ℕ) (r : Result (Unit {0}) SinkFailed)
    → WritesAll w0 w1 f0 f1 piece r → WritesFront piece w0 w1 f0 f1
writes_of w0 w1 f0 f1 piece (Ok u) h = record {
  sent = length piece;
  gave = rw (take_all (length piece) piece (omega arith)) h.whole;
  whole = inl refl;
  later = h.later;
}
writes_of w0 w1 f0 f1 piece (Err e) h = record {
  sent = h.front.0;
  gave = h.front.2;
  whole = inr h.rose;
  later = h.later;
}

-- ---- moves at which no message is answered

-- what is held was sent, or some of it, and these bytes were taken
pub moves_by : (l k : Option (List ℕ)) (r s : ℕ) (rest bytes next : List ℕ) (count later asked : ℕ) (o p : Outbound)
    → Consumes l k bytes → r ≤ s → next ≡ rest ++ bytes → later ≡ count + length bytes → PutsReply [] o p
    → StreamMoves [] (stand l r rest count asked o) (stand k s next later asked p)
moves_by l k r s rest bytes next count later asked o p took reads is counted puts = record {
  taken = bytes;
  took = took;
  cut = sym is;
  bytes = counted;
  asked = omega arith;
  puts = puts;
  reads = reads;
}

pub idles : (l : Option (List ℕ)) (r : ℕ) (rest : List ℕ) (count asked : ℕ) (o p : Outbound) → PutsReply [] o p
    → StreamMoves [] (stand l r rest count asked o) (stand l r rest count asked p)
idles l r rest count asked o p puts =
    moves_by l l r r rest [] rest count count asked o p (Consumes-nil l) (omega arith) (sym (append-nil rest))
    (omega arith) puts

-- ---- ends

-- an end at which nothing is written behind the replies
pub ends_so : (end : End) (l k : Option (List ℕ)) (r s : ℕ) (rest next : List ℕ) (count later asked : ℕ)
    (o p : Outbound) → StreamMoves [] (stand l r rest count asked o) (stand k s next later asked p)
    → EndsAt end (stand l r rest count asked o) (stand k s next later asked p) → WritesLast end p p
    → later ≤ bytes_limit → asked ≤ request_limit
    → Advances [] (Some end) (stand l r rest count asked o) (stand k s next later asked p)
ends_so end l k r s rest next count later asked o p moves ends last bytes few = record {
  at = stand k s next later asked p;
  moves = moves;
  goes =
      record { ends = ends; bytes = bytes; few = few; left = refl; reads = refl; last = last };
}

-- what is held is sent, and the stream ends so where that didn't fail
pub finished : (end result : End) (b : Bool) (l : Option (List ℕ)) (r : ℕ) (rest : List ℕ) (count asked : ℕ)
    (o p q : Outbound) → PutsReply [] o p → SendsAll p q → q.failed ≡ b → result ≡ cond b WriteFault end
    → (IsSent q → EndsAt end (stand l r rest count asked o) (stand l r rest count asked q)) → WritesLast end q q
    → count ≤ bytes_limit → asked ≤ request_limit
    → Advances [] (Some result) (stand l r rest count asked o) (stand l r rest count asked q)
finished end result true l r rest count asked o p q puts sends failed is ends last bytes few =
    rw is (ends_so WriteFault l l r r rest rest count count asked o q
    (idles l r rest count asked o q (puts-then [] [] o p q puts sends.puts)) failed refl bytes few)
finished end result false l r rest count asked o p q puts sends failed is ends last bytes few =
    rw is (ends_so end l l r r rest rest count count asked o q
    (idles l r rest count asked o q (puts-then [] [] o p q puts sends.puts)) (ends (is_sent p q sends failed)) last
    bytes few)

-- a stream is broken off
pub broken : (start : ℕ) (cause : Cause) (result : End) (l : Option (List ℕ)) (r : ℕ) (rest : List ℕ) (count asked : ℕ)
    (o q : Outbound) → BreaksOff start cause result o q → start + length rest ≡ count → count ≤ bytes_limit
    → asked < request_limit → BreaksAt count rest cause
    → Advances [] (Some result) (stand l r rest count asked o) (stand l r rest count asked q)
broken start cause Closed l r rest count asked o q b counted bytes few at = absurd b
broken start cause (Truncated place) l r rest count asked o q b counted bytes few at = absurd b
broken start cause ReadFault l r rest count asked o q b counted bytes few at = absurd b
broken start cause Long l r rest count asked o q b counted bytes few at = absurd b
broken start cause Memory l r rest count asked o q b counted bytes few at = absurd b
broken start cause WriteFault l r rest count asked o q b counted bytes few at =
    ends_so WriteFault l l r r rest rest count count asked o q (idles l r rest count asked o q b.0) b.1 refl bytes
    (omega arith)
broken start cause (Broken place content) l r rest count asked o q b counted bytes few at =
    let e = b.2 in
    let reason : BreaksAt count rest content = subst (BreaksAt count rest) (sym b.1) at in
    record {
      at = stand l r rest count asked e.middle;
      moves = idles l r rest count asked o e.middle e.puts;
      goes =
          record {
            ends =
                record {
                  reason = (few, let same = b.0 in omega arith, reason);
                  sent = e.sent;
                };
            bytes = bytes;
            few = omega arith;
            left = refl;
            reads = refl;
            last = e.error;
          };
    }

-- a front that is none, or a bad header, is no whole message
pub none_whole : (rest : List ℕ) → first_at message_limit rest ≡ Ok None → (n : ℕ)
    → first_at message_limit rest ≡ Ok (Some n) → ⊥
none_whole rest e n f = cc (e, f)

bad_whole : (rest : List ℕ) (fault : FrameFault) → first_at message_limit rest ≡ Err fault → (n : ℕ)
    → first_at message_limit rest ≡ Ok (Some n) → ⊥
bad_whole rest fault e n f = cc (e, f)

-- a stream that is at a bad header
pub bad : (start : ℕ) (fault : FrameFault) (result : End) (l : Option (List ℕ)) (r : ℕ) (rest : List ℕ)
    (count asked : ℕ) (o q : Outbound) → EndsAtBad start count fault result o q
    → first_at message_limit rest ≡ Err fault → start + length rest ≡ count → count ≤ bytes_limit
    → asked < request_limit
    → Advances [] (Some result) (stand l r rest count asked o) (stand l r rest count asked q)
bad start fault Closed l r rest count asked o q e at counted bytes few = absurd e
bad start fault (Truncated place) l r rest count asked o q e at counted bytes few = absurd e
bad start fault ReadFault l r rest count asked o q e at counted bytes few = absurd e
bad start fault Memory l r rest count asked o q e at counted bytes few = absurd e
bad start fault Long l r rest count asked o q e at counted bytes few =
    ends_so Long l l r r rest rest count count asked o q (idles l r rest count asked o q e.1)
    (record { reason = inr (e.0, bad_whole rest fault at); sent = e.2 }) refl bytes (omega arith)
bad start fault WriteFault l r rest count asked o q e at counted bytes few =
    ends_so WriteFault l l r r rest rest count count asked o q (idles l r rest count asked o q e.0) e.1 refl bytes
    (omega arith)
bad start fault (Broken place cause) l r rest count asked o q e at counted bytes few =
    broken start (cause_of fault) (Broken place cause) l r rest count asked o q e.1 counted bytes few
    (inl (fault, (let ne = e.0 in omega arith), at, refl))

-- the end of the input, where no whole message is in front
pub input_ends : (end : End) (l k : Option (List ℕ)) (r s : ℕ) (stream : Stream) (count asked : ℕ) (o p : Outbound)
    → EndsInput stream end → Consumes l k [] → IsAtEnd k → r ≤ s → first_at message_limit stream.rest ≡ Ok None
    → stream.start + length stream.rest ≡ count → count < bytes_limit → asked < request_limit → PutsReply [] o p
    → IsSent p
    → Advances [] (Some end) (stand l r stream.rest count asked o) (stand k s stream.rest count asked p)
input_ends Closed l k r s stream count asked o p e took ended reads none counted bytes few puts sent =
    ends_so Closed l k r s stream.rest stream.rest count count asked o p
    (moves_by l k r s stream.rest [] stream.rest count count asked o p took reads (sym (append-nil stream.rest))
    (omega arith) puts)
    (record { reason = (few, inl (bytes, e, ended)); sent = sent }) refl (omega arith) (omega arith)
input_ends (Truncated place) l k r s stream count asked o p e took ended reads none counted bytes few puts sent =
    ends_so (Truncated place) l k r s stream.rest stream.rest count count asked o p
    (moves_by l k r s stream.rest [] stream.rest count count asked o p took reads (sym (append-nil stream.rest))
    (omega arith) puts)
    (record {
      reason = (
        few,
        omega (arith, e.0),
        record { few = bytes; began = e.1; not_whole = none; ended = ended },
      );
      sent = sent;
    })
    refl (omega arith) (omega arith)
input_ends (Broken place cause) l k r s stream count asked o p e took ended reads none counted bytes few puts sent =
    absurd e
input_ends ReadFault l k r s stream count asked o p e took ended reads none counted bytes few puts sent = absurd e
input_ends WriteFault l k r s stream count asked o p e took ended reads none counted bytes few puts sent = absurd e
input_ends Long l k r s stream count asked o p e took ended reads none counted bytes few puts sent = absurd e
input_ends Memory l k r s stream count asked o p e took ended reads none counted bytes few puts sent = absurd e

-- bytes came, and the stream goes on
pub came : (l k : Option (List ℕ)) (r s : ℕ) (rest bytes next : List ℕ) (count later asked : ℕ) (o p : Outbound)
    → Consumes l k bytes → r ≤ s → next ≡ rest ++ bytes → later ≡ count + length bytes → 0 < length bytes
    → later ≤ bytes_limit → PutsReply [] o p → p.failed ≡ false
    → Advances [] None (stand l r rest count asked o) (stand k s next later asked p)
came l k r s rest bytes next count later asked o p took reads is counted some within puts works = record {
  at = stand k s next later asked p;
  moves = moves_by l k r s rest bytes next count later asked o p took reads is counted puts;
  goes =
      record {
        here = refl;
        works = works;
        less = omega (arith, ap (length {A = ℕ}) is, length-append rest bytes);
      };
}

-- bytes came for which there was no memory
pub lost : (l k : Option (List ℕ)) (r s : ℕ) (rest bytes : List ℕ) (count asked : ℕ) (o p : Outbound)
    → Consumes l k bytes → r ≤ s → count + length bytes ≤ bytes_limit → asked ≤ request_limit → PutsReply [] o p
    → IsSent p → Advances [] (Some Memory) (stand l r rest count asked o) (stand k s rest count asked p)
lost l k r s rest bytes count asked o p took reads within few puts sent = record {
  at = stand k s (rest ++ bytes) (count + length bytes) asked p;
  moves =
      moves_by l k r s rest bytes (rest ++ bytes) count (count + length bytes) asked o p took reads refl refl puts;
  goes =
      record {
        ends = record { reason = tt; sent = sent };
        bytes = within;
        few = few;
        left = refl;
        reads = refl;
        last = refl;
      };
}

-- ---- a message is answered

one_asked : (t : MessageExchange) (asked : Bool) → is_request t.message ≡ asked → requests (t ∷ []) ≡ cond asked 1 0
one_asked t asked e = rw e (omega arith)

pub byte_of : (b : Bool) → bool_byte b ≡ cond b 1 0
byte_of true = refl
byte_of false = refl

pub one_at_most : (b : Bool) → cond b 1 0 ≤ 1
one_at_most true = omega arith
one_at_most false = omega arith

module _ {V : Type 0} (serves : V → List ℕ → List ℕ → V → Type 0) (stays : V → V → Type 0) where
  -- the message in front was answered, and dropped
  pub answered : (s u : V) (l : Option (List ℕ)) (r : ℕ) (stream next : Stream) (count asked later : ℕ) (request : Bool)
      (o p : Outbound) (f : AnswersMessage serves stays s u stream.rest request o p) → stream.limit ≡ message_limit
      → next ≡ without_first stream (first_at stream.limit stream.rest) → later ≡ asked + cond request 1 0
      → StreamMoves (f.exchange ∷ []) (stand l r stream.rest count asked o) (stand l r next.rest count later p)
  answered s u l r stream next count asked later request o p f limited is asked-is =
      let x = f.exchange in
      let size : first_at stream.limit stream.rest ≡ Ok (Some (length x.message)) =
      subst (λ (n : ℕ). first_at n stream.rest ≡ Ok (Some (length x.message))) (sym limited) f.front.size in
      let rest-is : next.rest ≡ drop (length x.message) stream.rest =
      ap (λ (s : Stream). s.rest) is ∙ ap (λ r. (without_first stream r).rest) size in
      let reply-is : x.reply ++ [] ≡ x.reply = append-nil x.reply in
      record {
        taken = [];
        took = Consumes-nil l;
        cut = rw (append-nil, rest-is) (f.front, refl);
        bytes = omega arith;
        asked = asked-is ∙ ap (λ (n : ℕ). asked + n) (sym (one_asked x request f.is));
        puts = rw reply-is f.puts;
        reads = omega arith;
      }

  -- there is less to do then
  pub less_left : (s u : V) (stream next : Stream) (request : Bool) (o p : Outbound)
      → (f : AnswersMessage serves stays s u stream.rest request o p) → stream.limit ≡ message_limit
      → next ≡ without_first stream (first_at stream.limit stream.rest) → length next.rest < length stream.rest
  less_left s u stream next request o p f limited is =
      let x = f.exchange in
      let size : first_at stream.limit stream.rest ≡ Ok (Some (length x.message)) =
      subst (λ (n : ℕ). first_at n stream.rest ≡ Ok (Some (length x.message))) (sym limited) f.front.size in
      let rest-is : next.rest ≡ drop (length x.message) stream.rest =
      ap (λ (s : Stream). s.rest) is ∙ ap (λ r. (without_first stream r).rest) size in
      let there = whole message_limit stream.rest (length x.message) f.front.size in
      omega (
        arith,
        ap (length {A = ℕ}) rest-is,
        length-drop (length x.message) stream.rest,
        there.size,
        there.within,
      )
