-- What is moved over the wire on the way to an answer.
use Rattle.std.proofs.Common.{◌≡◌, ◌∙◌, inl, inr, ℕ, List, [], ◌++◌, take, drop, Option, Some, None, option_map}
use Rattle.std.proofs.Common.{Ok, Err, refl, sym, ap, subst, append_assoc}
use Rattle.std.proofs.lemmas.List.{take-append-drop}
use Rattle.td_typecode.specs.declared.reference.Ior.{Ior}
use Rattle.td_giop.specs.Stream.{Stream}
use Rattle.td_ior.specs.declared.profile.Iiop.{Iiop}
use Rattle.td_walk.specs.declared.fault.PeerFault.{PeerFault}
use Rattle.td_walk.specs.declared.fault.PeerFault.TheVariants as fault
use Rattle.td_wire.specs.Connections.{Connection, Traffic, GivesFront, end_connection, open_connection, written_on}
use Rattle.td_wire.specs.Connections.{wrote}
use Rattle.td_wire.proofs.Steps.{gives_more, gives_none, nothing_written}
use Rattle.td_call.specs.Calling.{ConnectsTo}
use Rattle.td_call.specs.Moving.{ReadsUnasked, LeavesTraffic, LeavesAt, MovesTraffic, SendsFront, sent, heard, over}
use Rattle.td_call.specs.Moving.{unopened, untouched}
use Rattle.td_call.specs.Moving.{IsDisconnected, StaysDisconnected, ConnectsNone}
use Rattle.td_call.proofs.Holding.{Held}

-- ---- bytes that are written

pub sends_none : (request : List ℕ) (t : Option Traffic) → (s : SendsFront request t t) × (s.unwritten ≡ request)
sends_none request t =
    (record { written = []; unwritten = request; front = refl; wire = sym (nothing_written t) }, refl)

wrote_both : (a b : List ℕ) (t : Option Traffic)
    → option_map (wrote b) (option_map (wrote a) t) ≡ option_map (wrote (a ++ b)) t
wrote_both a b None = refl
wrote_both a b (Some t) = go t.current
  where
    go : (c : Option Connection)
        → Some (record t { current = option_map (written_on b) (option_map (written_on a) c) })
        ≡ Some (record t { current = option_map (written_on (a ++ b)) c })
    go None = refl
    go (Some c) =
        ap (λ (w : List ℕ). Some (record t { current = Some (record c { written = w }) }))
        (append_assoc c.written a b)

-- the first bytes of what was unwritten
pub sends_more : (request rest left : List ℕ) (n : ℕ) (before mid after : Option Traffic)
    → (s : SendsFront request before mid) × (s.unwritten ≡ rest) → left ≡ drop n rest
    → after ≡ option_map (wrote (take n rest)) mid
    → (s : SendsFront request before after) × (s.unwritten ≡ left)
sends_more request rest left n before mid after s is written =
    let parts : take n rest ++ left ≡ s.0.unwritten =
    ap (λ (x : List ℕ). take n rest ++ x) is ∙ take-append-drop n rest ∙ sym s.1 in (
      record {
        written = s.0.written ++ take n rest;
        unwritten = left;
        front =
            s.0.front ∙ ap (λ (x : List ℕ). s.0.written ++ x) (sym parts)
            ∙ sym (append_assoc s.0.written (take n rest) left);
        wire =
            written ∙ ap (option_map (wrote (take n rest))) s.0.wire
            ∙ wrote_both s.0.written (take n rest) before;
      },
      refl,
    )

-- a write failed
pub sends_kept : (request : List ℕ) (before mid after : Option Traffic) → SendsFront request before mid → after ≡ mid
    → SendsFront request before after
sends_kept request before mid after s is =
    record { written = s.written; unwritten = s.unwritten; front = s.front; wire = is ∙ s.wire }

-- ---- bytes that are given

pub draws_none : (t : Option Traffic) → ReadsUnasked t t
draws_none t = record { piece = []; gives = gives_none t }

pub draws_kept : (before after : Option Traffic) → after ≡ before → ReadsUnasked before after
draws_kept before after is = subst (λ (x : Option Traffic). ReadsUnasked before x) (sym is) (draws_none before)

pub draws_piece : (piece : List ℕ) (before after : Option Traffic) → GivesFront piece before after → ReadsUnasked before after
draws_piece piece before after g = record { piece = piece; gives = g }

-- what came so far
pub draws_held : (old now : Stream) (before after : Option Traffic) (f0 f1 : ℕ) → Held old now before after f0 f1
    → ReadsUnasked before after
draws_held old now before after f0 f1 held = draws_piece held.brought.piece before after held.brought.gives

pub draws_last : (old now : Stream) (before mid after : Option Traffic) (f0 f1 : ℕ) → Held old now before mid f0 f1
    → ReadsUnasked mid after → ReadsUnasked before after
draws_last old now before mid after f0 f1 held d =
    record {
      piece = held.brought.piece ++ d.piece;
      gives = gives_more held.brought.piece d.piece before mid after held.brought.gives d.gives;
    }

-- ---- a request, and what is fetched behind it

pub moves_none : (request : List ℕ) (t : Option Traffic) → MovesTraffic request t t
moves_none request t = sent (sends_none request t).0

pub moves_sent : (request : List ℕ) (before after : Option Traffic) → SendsFront request before after
    → MovesTraffic request before after
moves_sent request before after s = sent s

pub moves_heard : (request : List ℕ) (before mid after : Option Traffic) → mid ≡ option_map (wrote request) before
    → ReadsUnasked mid after → MovesTraffic request before after
moves_heard request before mid after written d =
    heard (subst (λ (x : Option Traffic). ReadsUnasked x after) written d)

-- ---- a call

pub leaves_unconnected : (request : List ℕ) (p : Iiop) (before after : Option Traffic) (f0 f1 : ℕ) (e : PeerFault)
    → ConnectsTo p before after f0 f1 (Err e) → LeavesAt request p before after
leaves_unconnected request p before after f0 f1 fault.Wire made = unopened made.1
leaves_unconnected request p before after f0 f1 fault.Grammar no_way = absurd no_way
leaves_unconnected request p before after f0 f1 fault.Exception no_way = absurd no_way
leaves_unconnected request p before after f0 f1 fault.Memory made =
    over (option_map (open_connection p.host p.port) before) (moves_none request (option_map (open_connection p.host p.port) before)) made

pub leaves_uncalled : (request : List ℕ) (p : Iiop) (t : Option Traffic) → LeavesAt request p t t
leaves_uncalled request p t = unopened (inl refl)

pub leaves_over : (request : List ℕ) (p : Iiop) (s : Stream) (before mid last after : Option Traffic) (f0 f1 : ℕ)
    → ConnectsTo p before mid f0 f1 (Ok s) → MovesTraffic request mid last → after ≡ option_map end_connection last
    → LeavesAt request p before after
leaves_over request p s before mid last after f0 f1 made m over_now =
    over last (subst (λ (x : Option Traffic). MovesTraffic request x last) made.1 m) over_now

-- an object that isn't called
pub left_untouched : (request : Iiop → List ℕ) (target : Ior) (t : Option Traffic) → LeavesTraffic request target t t
left_untouched request target t = untouched refl

-- ---- whether a connection stands

ended_disconnects : (last : Option Traffic) → IsDisconnected (option_map end_connection last)
ended_disconnects None = tt
ended_disconnects (Some t) = refl

pub disconnected_ended : (before last after : Option Traffic) → after ≡ option_map end_connection last
    → StaysDisconnected before after
disconnected_ended before last after is = λ none. subst IsDisconnected (sym is) (ended_disconnects last)

disconnected_same : (before after : Option Traffic) → after ≡ before → StaysDisconnected before after
disconnected_same before after is = λ none. subst IsDisconnected (sym is) none

disconnected_unopened : (before after : Option Traffic) → ConnectsNone before after → StaysDisconnected before after
disconnected_unopened before after u = elim u [
  | inl is ↦ disconnected_same before after is
  | inr is ↦ disconnected_ended before before after is
]

pub disconnected_unconnected : (p : Iiop) (before after : Option Traffic) (f0 f1 : ℕ) (e : PeerFault)
    → ConnectsTo p before after f0 f1 (Err e) → StaysDisconnected before after
disconnected_unconnected p before after f0 f1 fault.Wire made = disconnected_unopened before after made.1
disconnected_unconnected p before after f0 f1 fault.Grammar no_way = absurd no_way
disconnected_unconnected p before after f0 f1 fault.Exception no_way = absurd no_way
disconnected_unconnected p before after f0 f1 fault.Memory made =
    disconnected_ended before (option_map (open_connection p.host p.port) before) after made

-- a call leaves none
pub disconnected_at : (request : List ℕ) (p : Iiop) (before after : Option Traffic) → LeavesAt request p before after
    → StaysDisconnected before after
disconnected_at request p before after (unopened u) = disconnected_unopened before after u
disconnected_at request p before after (over last m is) = disconnected_ended before last after is
