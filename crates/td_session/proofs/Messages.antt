-- A message whose head is known is served as it asks.
use Rattle.std.proofs.Common.{◌≡◌, ℕ, ◌≤◌, ◌<◌, ◌^◌, List, [], ◌∷◌, ◌++◌, length, None, Some, Ok, refl, sym, ap}
use Rattle.std.proofs.Common.{subst, ◌∙◌, arith}
use Rattle.std.proofs.lemmas.List.{append-nil}
use Rattle.td_cdr.specs.Lawful.{AreOctets}
use Rattle.td_cdr.specs.Marks.{Marks}
use Rattle.td_cdr.specs.Place.{At}
use Rattle.td_cdr.specs.declared.order.Order.{Order}
use Rattle.td_giop.specs.declared.raw.Raw.{Raw}
use Rattle.td_giop.specs.Heads.{Request, behind_header, request_at, cancel_at}
use Rattle.td_iter.specs.Desks.{Live}
use Rattle.td_lookup.specs.Scenes.{scene}
use Rattle.td_ops.specs.declared.outcome.Outcome.{Outcome}
use Rattle.td_register.specs.declared.history.Accepted.{Accepted}
use Rattle.td_servant.specs.Classes.{request_class}
use Rattle.td_servant.specs.Judging.{judge_request}
use Rattle.td_servant.specs.Linking.{PeersSeen}
use Rattle.td_servant.specs.declared.entry.Entry.{Entry}
use Rattle.td_dispatch.specs.Backends.{BackendSeen, scene_of}
use Rattle.td_dispatch.specs.ReplyBytes.{reply_to}
use Rattle.td_dispatch.specs.Requests.{NotesNoCall, RepliesTo}
use Rattle.td_stream.specs.Heads.{IsMessage}
use Rattle.td_stream.specs.Messages.{behind, order_of}
use Rattle.td_trader.specs.Worlds.{View}
use Rattle.td_session_runs.specs.Turns.{IsTurn, ServedRequest, ServesCancel, ServesLocate, ServesRequest}
use Rattle.td_session_runs.specs.Turns.{request as request_turn, locate as locate_turn, cancel as cancel_turn}
use Rattle.td_walk.specs.declared.trace.Address.{Address}
use Rattle.td_session.specs.Serving.{ServesMessage}
use Rattle.td_session.specs.Stages.{Stage, stage, turn_of}

-- the first iterator's number is small
pub first_number : (d : Live) → d ≡ ([], 1) → d.1 ≤ 2 ^ 62
first_number d e = omega (arith, ap (λ (x : Live). x.1) e)

module _ (others : List Accepted → Type 0) (later : Marks → Marks → Type 0) where
  -- a Request that is served, and noted, is a turn
  pub request_served : (home : Address) (b c : BackendSeen) (d e : Live) (journal after : List Entry) (m : Raw)
      (reply : List ℕ) (head : Request) (body : At) (entry : Entry) → IsMessage m → m.kind ≡ 0
      → request_at m.minor (behind_header m.order m.bytes.now) ≡ Ok (head, body)
      → ((o : Outcome) × RepliesTo others later home (reply_to m.order m.minor head)
      (judge_request b.world d head.key head.operation body) (scene_of b d) o entry reply (scene_of c e))
      → NotesNoCall (request_class b.world d head.key head.operation) (judge_request b.world d head.key head.operation body)
      entry → after ≡ journal ++ entry ∷ [] → AreOctets body.rest → length reply < 2 ^ 32
      → ServesMessage others later (stage home (scene_of b d) journal) m.bytes.now reply
      (stage home (scene_of c e) after)
  request_served home b c d e journal after m reply head body entry is kind read content no_call grew octets short =
      let j = judge_request b.world d head.key head.operation body in
      let o : Outcome = content.0 in
      let noted : ServedRequest = record { judged = j; outcome = o; entry = entry } in
      let serves : ServesRequest others later home (scene_of b d)
      (turn_of m.bytes.now (Some noted) reply (scene_of c e)) =
      record {
        head = head;
        body = body;
        kind = sym is.kind ∙ kind;
        read =
            subst (λ (n : ℕ). request_at n (behind m.bytes.now) ≡ Ok (head, body)) is.minor
            (subst (λ (o : Order). request_at m.minor (behind_header o m.bytes.now) ≡ Ok (head, body)) is.order read);
        noted = noted;
        request = refl;
        asks = refl;
        served =
            subst
            (λ (n : ℕ). RepliesTo others later home (reply_to (order_of m.bytes.now) n head) j (scene_of b d) o entry
            reply (scene_of c e)) is.minor
            (subst
            (λ (x : Order). RepliesTo others later home (reply_to x m.minor head) j (scene_of b d) o entry reply
            (scene_of c e)) is.order content.1);
        no_call = no_call;
        octets = octets;
        short = short;
      } in
      record { noted = Some noted; turn = request_turn serves; journal = grew; home = refl }

  -- ---- a message that changes nothing, and of which nothing is noted

  unchanged : (s : Stage) (message reply : List ℕ)
      → IsTurn others later s.home s.scene (turn_of message None reply s.scene)
      → ServesMessage others later s message reply s
  unchanged s message reply turn =
      record { noted = None; turn = turn; journal = sym (append-nil s.journal); home = refl }

  pub cancel_served : (s : Stage) (m : Raw) (id : ℕ) (reply : List ℕ) → IsMessage m → m.kind ≡ 2
      → cancel_at (behind_header m.order m.bytes.now) ≡ Ok id → reply ≡ []
      → ServesMessage others later s m.bytes.now reply s
  cancel_served s m id reply is kind read content =
      let serves : ServesCancel s.scene (turn_of m.bytes.now None reply s.scene) = record {
        id = id;
        kind = sym is.kind ∙ kind;
        read = subst (λ (o : Order). cancel_at (behind_header o m.bytes.now) ≡ Ok id) is.order read;
        request = refl;
        content = content;
        kept = refl;
      } in
      unchanged s m.bytes.now reply (cancel_turn serves)

  -- the iterators that are kept are the same still
  pub locate_served : (home : Address) (w : List View) (d e : Live) (peers : PeersSeen) (words : ℕ → ℕ)
      (j : List Entry) (message reply : List ℕ) → e ≡ d
      → ServesLocate (scene w d peers words) (turn_of message None reply (scene w d peers words))
      → ServesMessage others later (stage home (scene w d peers words) j) message reply
      (stage home (scene w e peers words) j)
  locate_served home w d e peers words j message reply same serves =
      let s = stage home (scene w d peers words) j in
      subst (λ (x : Live). ServesMessage others later s message reply (stage home (scene w x peers words) j))
      (sym same) (unchanged s message reply (locate_turn serves))
