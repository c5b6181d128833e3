-- A message whose head is known is served as it asks.
use Rattle.std.proofs.Common.{◌≡◌, ℕ, ◌≤◌, ◌^◌, List, [], None, Some, Result, Ok, Err, OnOk, refl, sym, ap}
use Rattle.std.proofs.Common.{subst, ◌∙◌, arith}
use Rattle.std.proofs.lemmas.List.{append-nil}
use Rattle.td_cdr.specs.Place.{At}
use Rattle.td_cdr.specs.declared.order.Order.{Order}
use Rattle.td_giop.specs.Heads.{Request, behind_header, cancel_at, locate_at, request_at}
use Rattle.td_giop.specs.declared.raw.Raw.{Raw}
use Rattle.td_naming.specs.declared.history.NameChange.{NameChange}
use Rattle.td_stream.specs.Heads.{IsMessage}
use Rattle.td_stream.specs.Messages.{behind, minor_of, order_of}
use Rattle.td_name_session.specs.ReplyBytes.{reply_to}
use Rattle.td_name_session.specs.Scenes.{IteratorList}
use Rattle.td_name_session.specs.Stages.{NotesHead, NotesLocate, ServesMessage, Stage, turn_of}
use Rattle.td_name_session.specs.Turns.{ServesCancel, ServesLocate, ServesRequest, seen_in}
use Rattle.td_name_session.specs.Turns.IsTurn.{cancel as cancel_turn, locate as locate_turn, request as request_turn}

-- the first iterator's number is small
pub first_number : (d : IteratorList) → d ≡ ([], 1) → d.1 ≤ 2 ^ 62
first_number d e = omega (arith, ap (λ (x : IteratorList). x.1) e)

module _ (others : List NameChange → Type 0) where
  noted_so : (s u : Stage) (m : Raw) (reply : List ℕ) (head : Request) (body : At) → IsMessage m → m.kind ≡ 0
      → request_at m.minor (behind_header m.order m.bytes.now) ≡ Ok (head, body)
      → NotesHead others (reply_to m.order m.minor head) head.key head.operation body s reply u
      → ServesMessage others s m.bytes.now reply u
  noted_so s u m reply head body is kind read notes =
      let n : NotesHead others (reply_to (order_of m.bytes.now) (minor_of m.bytes.now) head) head.key head.operation body
      s reply u =
      subst
      (λ (v : ℕ). NotesHead others (reply_to (order_of m.bytes.now) v head) head.key head.operation body s reply u)
      is.minor
      (subst (λ (o : Order). NotesHead others (reply_to o m.minor head) head.key head.operation body s reply u) is.order
      notes) in
      let serves : ServesRequest others s.scene (turn_of m.bytes.now (Some n.serves.noted) (Some n.point) reply u.scene) =
      record {
        head = head;
        body = body;
        kind = sym is.kind ∙ kind;
        read =
            subst (λ (n : ℕ). request_at n (behind m.bytes.now) ≡ Ok (head, body)) is.minor
            (subst (λ (o : Order). request_at m.minor (behind_header o m.bytes.now) ≡ Ok (head, body)) is.order read);
        point = n.point;
        serves = n.serves;
        request = refl;
        point_is = refl;
      } in
      record {
        noted = Some n.serves.noted;
        point = Some n.point;
        leads = record { run = (request_turn serves, refl); noted = n.journal };
      }

  -- a Request that is served and noted is answered so, where room was found to note it
  pub request_served : {E : Type 0} (result : Result (Unit {0}) E) (s u : Stage) (m : Raw) (reply : List ℕ)
      (head : Request) (body : At) → IsMessage m → m.kind ≡ 0
      → request_at m.minor (behind_header m.order m.bytes.now) ≡ Ok (head, body)
      → OnOk result (NotesHead others (reply_to m.order m.minor head) head.key head.operation body s reply u)
      → OnOk result (ServesMessage others s m.bytes.now reply u)
  request_served (Ok v) s u m reply head body is kind read notes = noted_so s u m reply head body is kind read notes
  request_served (Err f) s u m reply head body is kind read notes = tt

  located_so : (s u : Stage) (m : Raw) (reply : List ℕ) (id : ℕ) (key : List ℕ) → IsMessage m → m.kind ≡ 3
      → locate_at (behind_header m.order m.bytes.now) ≡ Ok (id, key)
      → NotesLocate others m.order m.minor id key s reply u → ServesMessage others s m.bytes.now reply u
  located_so s u m reply id key is kind read notes =
      let n : NotesLocate others (order_of m.bytes.now) (minor_of m.bytes.now) id key s reply u =
      subst (λ (v : ℕ). NotesLocate others (order_of m.bytes.now) v id key s reply u) is.minor
      (subst (λ (o : Order). NotesLocate others o m.minor id key s reply u) is.order notes) in
      let serves : ServesLocate others s.scene (turn_of m.bytes.now None (Some (seen_in u.scene)) reply u.scene) = record {
        id = id;
        key = key;
        kind = sym is.kind ∙ kind;
        read = subst (λ (o : Order). locate_at (behind_header o m.bytes.now) ≡ Ok (id, key)) is.order read;
        request = refl;
        live = n.live;
        finds = n.finds;
        content = n.content;
        point = refl;
        desk = n.desk;
      } in
      record {
        noted = None;
        point = Some (seen_in u.scene);
        leads = record { run = (locate_turn serves, refl); noted = n.journal };
      }

  pub locate_served : {E : Type 0} (result : Result (Unit {0}) E) (s u : Stage) (m : Raw) (reply : List ℕ) (id : ℕ)
      (key : List ℕ) → IsMessage m → m.kind ≡ 3 → locate_at (behind_header m.order m.bytes.now) ≡ Ok (id, key)
      → OnOk result (NotesLocate others m.order m.minor id key s reply u)
      → OnOk result (ServesMessage others s m.bytes.now reply u)
  locate_served (Ok v) s u m reply id key is kind read notes = located_so s u m reply id key is kind read notes
  locate_served (Err f) s u m reply id key is kind read notes = tt

  pub cancel_served : (s : Stage) (m : Raw) (id : ℕ) (reply : List ℕ) → IsMessage m → m.kind ≡ 2
      → cancel_at (behind_header m.order m.bytes.now) ≡ Ok id → reply ≡ []
      → ServesMessage others s m.bytes.now reply s
  cancel_served s m id reply is kind read content =
      let serves : ServesCancel others s.scene (turn_of m.bytes.now None None reply s.scene) = record {
        id = id;
        kind = sym is.kind ∙ kind;
        read = subst (λ (o : Order). cancel_at (behind_header o m.bytes.now) ≡ Ok id) is.order read;
        request = refl;
        point = refl;
        content = content;
        kept = refl;
      } in
      record {
        noted = None;
        point = None;
        leads = record { run = (cancel_turn serves, refl); noted = sym (append-nil s.journal) };
      }
