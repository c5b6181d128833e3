-- What a query has written, request by request.
use Rattle.std.proofs.Common.{◌≡◌, ◌∙◌, ℕ, zero, suc, ◌+◌, ◌≤◌, Bool, true, false, true≢false, cond, List, []}
use Rattle.std.proofs.Common.{◌++◌, length, Option, Some, None, option_map, Result, Ok, Err, refl, sym, ap, subst}
use Rattle.std.proofs.Common.{append-nil, append_assoc, arith}
use Rattle.std.specs.Prelude.{IfSome, IsTrue}
use Rattle.td_typecode.specs.declared.reference.Ior.{Ior}
use Rattle.td_giop.specs.Stream.{Stream}
use Rattle.td_ior.specs.declared.profile.Iiop.{Iiop}
use Rattle.td_ior.specs.Nil.{is_nil}
use Rattle.td_ior.specs.Profiles.{iiop_of}
use Rattle.td_ops.specs.declared.call.Call.{Call}
use Rattle.td_ops.specs.declared.outcome.Answered.{Answered}
use Rattle.td_ops.specs.declared.outcome.Answered.TheVariants.{Done}
use Rattle.td_ops.specs.declared.outcome.Reply.{Reply}
use Rattle.td_value.specs.declared.structures.Offer.{Offer}
use Rattle.td_walk.specs.declared.answer.SubAnswer.{SubAnswer}
use Rattle.td_walk.specs.declared.fault.PeerFault.{PeerFault}
use Rattle.td_walk.specs.declared.fault.PeerFault.TheVariants as fault
use Rattle.td_wire.specs.Connections.{Connection, Traffic, end_connection, having_left, left_in, left_of}
use Rattle.td_wire.specs.Connections.{open_connection, with_left}
use Rattle.td_wire.specs.Connections.{written_on, wrote}
use Rattle.td_wire.proofs.Steps.{moved_none, moved_twice}
use Rattle.td_call.specs.Calling.{ConnectsTo, first_id, next_given}
use Rattle.td_call.specs.Fetching.{Exchanges}
use Rattle.td_call.specs.Moving.{MovesTraffic, StaysDisconnected, heard, sent}
use Rattle.td_call.specs.Readings.{outcome_in_reply}
use Rattle.td_call.specs.Replies.{ReplyResult, reply_value}
use Rattle.td_call.specs.Requests.{request_of}
use Rattle.td_remote_query.specs.Querying.{FindsSo, HasQueried, asked_first, asked_requests, found_requests, is_at}
use Rattle.td_remote_query.specs.Querying.{iterator_requests, left_requests, most_batches, reply_requests}
use Rattle.td_remote_query.specs.Querying.{requests_behind}
use Rattle.td_remote_query.specs.Querying.{requests_here, second_id}
use Rattle.td_remote_query.specs.Draining.{batch_requests, batches_asked, batches_behind, destroy, drain_requests}
use Rattle.td_remote_query.specs.Draining.{may_join}
use Rattle.td_remote_query.specs.Draining.{most_offers, next_batch}
use Rattle.td_remote_query.specs.Turns.{DestroysRemote, DrainsInTurn}
use Rattle.td_remote_query.specs.Writing.{AskLeavesAt, AskLeavesBy, IsElsewhere, LeavesFront, WritesRequests, WritesBy}
use Rattle.td_remote_query.specs.Writing.{WritesFront}
use Rattle.td_remote_query.specs.Writing.{drains_all, over, reached, twice, unopened, untouched}
use Rattle.td_remote_query.specs.declared.draining.Turn.TheVariants.{Last}
use Rattle.td_remote_query.specs.declared.gathered.ConnectionResult.TheVariants.{Elsewhere}
use Rattle.td_remote_query.proofs.Gathering.{Came, Stands, finish_here, one_left, one_more}

-- ---- a front of the requests

-- a write changes nothing of what is left
left_kept : (written : List ℕ) (t : Traffic) → wrote written t ≡ with_left (left_of t) (wrote written t)
left_kept written t = go t.current
  where
    go : (c : Option Connection)
        → record t { current = option_map (written_on written) c }
        ≡ record t { current = option_map (having_left (left_in c)) (option_map (written_on written) c) }
    go None = refl
    go (Some c) = refl

-- nothing was written
front_none : (requests : List ℕ) (t : Traffic) → (f : WritesFront requests t (Some t)) × (f.unwritten ≡ requests)
front_none requests t = (
  record {
    written = [];
    unwritten = requests;
    front = refl;
    rest = left_of t;
    wire = ap (λ (x : Traffic). Some x) (sym (moved_none t));
  },
  refl,
)

-- the first request was written, in part or whole
front_moved : (request more all : List ℕ) (t : Traffic) (after : Option Traffic) → all ≡ request ++ more
    → MovesTraffic request (Some t) after → WritesFront all t after
front_moved request more all t after is (sent s) = record {
  written = s.written;
  unwritten = s.unwritten ++ more;
  front = is ∙ ap (λ (x : List ℕ). x ++ more) s.front ∙ append_assoc s.written s.unwritten more;
  rest = left_of t;
  wire = s.wire ∙ ap (λ (x : Traffic). Some x) (left_kept s.written t);
}
front_moved request more all t after is (heard d) =
    record { written = request; unwritten = more; front = is; rest = d.gives.0; wire = d.gives.2 }

-- some requests were written, and then a front of those behind them
behind_first : (first requests all left : List ℕ) (t : Traffic) (after : Option Traffic) (b : Bool)
    → all ≡ first ++ requests → WritesRequests b requests (with_left left (wrote first t)) after → WritesRequests b all t after
behind_first first requests all left t after b is w = (
  record {
    written = first ++ w.0.written;
    unwritten = w.0.unwritten;
    front =
        is ∙ ap (λ (x : List ℕ). first ++ x) w.0.front ∙ sym (append_assoc first w.0.written w.0.unwritten);
    rest = w.0.rest;
    wire = w.0.wire ∙ ap (λ (u : Traffic). Some u) (moved_twice first w.0.written left w.0.rest t);
  },
  w.1,
)

in_part : (requests : List ℕ) (t : Traffic) (after : Option Traffic) → WritesFront requests t after
    → WritesRequests false requests t after
in_part requests t after f = (f, λ e. absurd (true≢false (sym e)))

-- nothing was written, where not all had to be
pub writes_none : (requests : (left : List ℕ) → List ℕ) (held : List ℕ) (t : Option Traffic)
    → WritesBy false requests held t t
writes_none requests held None = tt
writes_none requests held (Some t) =
    in_part (requests (held ++ left_of t)) t (Some t) (front_none (requests (held ++ left_of t)) t).0

-- ---- an iterator's requests

-- those of some batches, and those of the batches behind them
requests_split : (profile : Iiop) (id a b n : ℕ) → n ≡ a + b
    → batch_requests profile id n ≡ batch_requests profile id a ++ batch_requests profile (id + a) b
requests_split profile id zero b n is =
    let count : n ≡ b = omega (arith, is) in
    let place : id ≡ id + 0 = omega arith in (λ i. batch_requests profile (place i) (count i))
requests_split profile id (suc a) b n is =
    let count : n ≡ suc (a + b) = omega (arith, is) in
    let place : id + 1 + a ≡ id + suc a = omega arith in
    ap (batch_requests profile id) count
    ∙ ap (λ (x : List ℕ). request_of id profile next_batch ++ x) (requests_split profile (id + 1) a b (a + b) refl)
    ∙ ap (λ (i : ℕ). request_of id profile next_batch ++ (batch_requests profile (id + 1) a ++ batch_requests profile i b)) place
    ∙ sym (append_assoc (request_of id profile next_batch) (batch_requests profile (id + 1) a)
    (batch_requests profile (id + suc a) b))

-- behind some batches another one is asked for, and then the rest
one_ahead : (profile : Iiop) (id turns k n : ℕ) → n ≡ turns + suc k
    → drain_requests profile id n
    ≡ batch_requests profile id turns ++ (request_of (id + turns) profile next_batch
    ++ (batch_requests profile (id + turns + 1) k ++ request_of (id + n) profile destroy))
one_ahead profile id turns k n is =
    let last : List ℕ = request_of (id + n) profile destroy in
    ap (λ (x : List ℕ). x ++ last) (requests_split profile id turns (suc k) n is)
    ∙ append_assoc (batch_requests profile id turns) (batch_requests profile (id + turns) (suc k)) last
    ∙ ap (λ (x : List ℕ). batch_requests profile id turns ++ x)
    (append_assoc (request_of (id + turns) profile next_batch) (batch_requests profile (id + turns + 1) k) last)

asks_one : (batches id count : ℕ) (given : List ℕ) → (k : ℕ) × (batches_asked (suc batches) id count given ≡ suc k)
unfolding batches_asked
asks_one batches id count given =
    (batches_behind (batches_asked batches (id + 1)) count given (reply_value (outcome_in_reply next_batch) id given), refl)

-- how many batches are asked for in all
asked_in_all : (profile : Iiop) (held0 held : List ℕ) (t : Traffic) (now : Option Traffic) (old mid : List Offer) (id : ℕ)
    (n : (batches : ℕ) → ℕ) → length mid ≤ most_offers → id + length old ≤ second_id + length mid
    → (s : Stands profile held0 held t now old mid id)
    → ((batches : ℕ) → batches_asked (suc batches) id (length mid) (held ++ s.rest) ≡ n batches)
    → (batches : ℕ)
    × (batches_asked most_batches second_id (length old) (held0 ++ left_of t) ≡ s.turns + n batches)
asked_in_all profile held0 held t now old mid id n most few s next =
    let one = one_left s.turns id (length old) (length mid) s.id_is few most in (
      one.0,
      ap (λ (m : ℕ). batches_asked m second_id (length old) (held0 ++ left_of t)) (sym one.1) ∙ s.asks (suc one.0)
          ∙ ap (λ (m : ℕ). s.turns + m) (next one.0),
    )

-- a batch was asked for, and it isn't known what came
pub writes_turn : (profile : Iiop) (held0 held : List ℕ) (before now after : Option Traffic) (f0 f1 : ℕ) (old mid : List Offer)
    (id : ℕ) → Came profile held0 held before now f0 f1 old mid id → MovesTraffic (request_of id profile next_batch) now after
    → WritesBy false
    (λ left. drain_requests profile second_id (batches_asked most_batches second_id (length old) left)) held0 before after
writes_turn profile held0 held None now after f0 f1 old mid id came m = tt
writes_turn profile held0 held (Some t) now after f0 f1 old mid id came m =
    let s = came.stands in
    let first : List ℕ = batch_requests profile second_id s.turns in
    let asked : ℕ = batches_asked most_batches second_id (length old) (held0 ++ left_of t) in
    let all =
    asked_in_all profile held0 held t now old mid id
    (λ batches. suc (asks_one batches id (length mid) (held ++ s.rest)).0) came.most came.few s
    (λ batches. (asks_one batches id (length mid) (held ++ s.rest)).1) in
    let k : ℕ = (asks_one all.0 id (length mid) (held ++ s.rest)).0 in
    let tail : List ℕ =
    batch_requests profile (second_id + s.turns + 1) k ++ request_of (second_id + asked) profile destroy in
    let is : drain_requests profile second_id asked ≡ first ++ (request_of id profile next_batch ++ tail) =
    one_ahead profile second_id s.turns k asked all.1
    ∙ ap (λ (i : ℕ). first ++ (request_of i profile next_batch ++ tail)) (sym s.id_is) in
    let u : Traffic = with_left s.rest (wrote first t) in
    let here : MovesTraffic (request_of id profile next_batch) (Some u) after =
    subst (λ (x : Option Traffic). MovesTraffic (request_of id profile next_batch) x after) s.wire m in
    behind_first first (request_of id profile next_batch ++ tail) (drain_requests profile second_id asked) s.rest t after false
    is (in_part (request_of id profile next_batch ++ tail) u after
    (front_moved (request_of id profile next_batch) tail (request_of id profile next_batch ++ tail) u after refl here))

-- the iterator was asked to end
destroy_writes : (profile : Iiop) (id : ℕ) (held : List ℕ) (v : Traffic) (after : Option Traffic) (f0 f1 : ℕ)
    (r : Result (Option Answered) PeerFault) → DestroysRemote profile id held (Some v) after f0 f1 r
    → MovesTraffic (request_of id profile destroy) (Some v) after → WritesRequests (drains_all r) (request_of id profile destroy) v after
destroy_writes profile id held v after f0 f1 (Ok None) d m = (
  record {
    written = request_of id profile destroy;
    unwritten = [];
    front = sym (append-nil (request_of id profile destroy));
    rest = d.0;
    wire = d.1;
  },
  λ e. refl,
)
destroy_writes profile id held v after f0 f1 (Ok (Some answer)) d m =
    in_part (request_of id profile destroy) v after
    (front_moved (request_of id profile destroy) [] (request_of id profile destroy) v after
    (sym (append-nil (request_of id profile destroy))) m)
destroy_writes profile id held v after f0 f1 (Err e) d m =
    in_part (request_of id profile destroy) v after
    (front_moved (request_of id profile destroy) [] (request_of id profile destroy) v after
    (sym (append-nil (request_of id profile destroy))) m)

one_later : (m n : ℕ) → m ≡ n + 1 → m ≡ suc n
one_later m n is = omega (arith, is)

next_id : (asked turns id : ℕ) → id ≡ second_id + turns → asked ≡ suc turns → second_id + asked ≡ id + 1
next_id asked turns id place count = omega (arith, place, count)

-- the last batch came, and the iterator was asked to end
pub writes_last : (profile : Iiop) (held0 held held_after : List ℕ) (before now then after : Option Traffic) (f0 f1 f2 f3 : ℕ)
    (old mid new : List Offer) (id : ℕ) (r : Result (Option Answered) PeerFault)
    → Came profile held0 held before now f0 f1 old mid id
    → DrainsInTurn profile id held held_after now then f1 f2 mid new (Ok Last)
    → DestroysRemote profile (id + 1) held_after then after f2 f3 r → MovesTraffic (request_of (id + 1) profile destroy) then after
    → WritesBy (drains_all r)
    (λ left. drain_requests profile second_id (batches_asked most_batches second_id (length old) left)) held0 before after
writes_last profile held0 held held_after None now then after f0 f1 f2 f3 old mid new id r came turned d m = tt
writes_last profile held0 held held_after (Some t) now then after f0 f1 f2 f3 old mid new id r came turned d m =
    let s = came.stands in
    let f = finish_here profile held0 held held_after t now then old mid id turned.0 s turned.2 in
    let first : List ℕ = batch_requests profile second_id s.turns in
    let one : List ℕ = request_of id profile next_batch in
    let last : List ℕ = request_of (id + 1) profile destroy in
    let asked : ℕ = batches_asked most_batches second_id (length old) (held0 ++ left_of t) in
    let all =
    asked_in_all profile held0 held t now old mid id (λ batches. 1) came.most came.few s
    (λ batches. ap (λ (x : List ℕ). batches_asked (suc batches) id (length mid) (held ++ x)) (sym s.left)
    ∙ f.asks batches) in
    let count : asked ≡ suc s.turns = one_later asked s.turns all.1 in
    let batches : first ++ one ≡ batch_requests profile second_id (suc s.turns) =
    ap (λ (i : ℕ). first ++ request_of i profile next_batch) s.id_is ∙ one_more profile second_id s.turns in
    let place : second_id + asked ≡ id + 1 = next_id asked s.turns id s.id_is count in
    let is : drain_requests profile second_id asked ≡ first ++ one ++ last =
    (λ i. batch_requests profile second_id (count i) ++ request_of (place i) profile destroy)
    ∙ ap (λ (x : List ℕ). x ++ last) (sym batches) in
    let v : Traffic = with_left f.rest (wrote one (with_left s.rest (wrote first t))) in
    let w : WritesRequests (drains_all r) last v after =
    destroy_writes profile (id + 1) held_after v after f2 f3 r
    (subst (λ (x : Option Traffic). DestroysRemote profile (id + 1) held_after x after f2 f3 r) f.wire d)
    (subst (λ (x : Option Traffic). MovesTraffic last x after) f.wire m) in
    behind_first (first ++ one) last (drain_requests profile second_id asked) f.rest t after (drains_all r) is
    (subst (λ (x : Traffic). WritesRequests (drains_all r) last x after) (moved_twice first one s.rest f.rest t) w)

-- ---- requests by other words

-- the same by other words for the requests
writes_same : (all : Bool) (x y : List ℕ) (t : Traffic) (after : Option Traffic) → x ≡ y → WritesRequests all y t after
    → WritesRequests all x t after
writes_same all x y t after is w = subst (λ (z : List ℕ). WritesRequests all z t after) (sym is) w

pub writes_as : (requests more : (left : List ℕ) → List ℕ) (held : List ℕ) (before after : Option Traffic) (all : Bool)
    → ((left : List ℕ) → requests left ≡ more left) → WritesBy all more held before after
    → WritesBy all requests held before after
writes_as requests more held None after all is w = tt
writes_as requests more held (Some t) after all is w =
    writes_same all (requests (held ++ left_of t)) (more (held ++ left_of t)) t after (is (held ++ left_of t)) w

-- there were none to write
pub writes_nothing : (requests : (left : List ℕ) → List ℕ) (held : List ℕ) (t : Option Traffic)
    → ((left : List ℕ) → requests left ≡ []) → WritesBy true requests held t t
writes_nothing requests held None is = tt
writes_nothing requests held (Some t) is =
    let f = front_none (requests (held ++ left_of t)) t in (f.0, λ e. f.1 ∙ is (held ++ left_of t))

-- ---- an iterator, by its reference and its profile

pub place_requests : (trader p : Iiop) (count : ℕ) → is_at trader p ≡ true
    → (left : List ℕ) → requests_here trader (Some p) count left ≡ iterator_requests p count left
place_requests trader p count here left =
    ap (λ (b : Bool). cond b (iterator_requests p count left) []) here

pub other_requests : (trader p : Iiop) (count : ℕ) → is_at trader p ≡ false
    → (left : List ℕ) → requests_here trader (Some p) count left ≡ []
other_requests trader p count there left = ap (λ (b : Bool). cond b (iterator_requests p count left) []) there

pub nil_requests : (trader : Iiop) (iterator : Ior) (count : ℕ) → is_nil iterator ≡ true
    → (left : List ℕ) → left_requests trader iterator count left ≡ []
nil_requests trader iterator count nil left =
    ap (λ (b : Bool). cond b [] (requests_here trader (iiop_of iterator) count left)) nil

pub profile_requests : (trader : Iiop) (iterator : Ior) (o : Option Iiop) (count : ℕ) → is_nil iterator ≡ false
    → iiop_of iterator ≡ o
    → (left : List ℕ) → left_requests trader iterator count left ≡ requests_here trader o count left
profile_requests trader iterator o count some is left =
    ap (λ (b : Bool). cond b [] (requests_here trader (iiop_of iterator) count left)) some
    ∙ ap (λ (x : Option Iiop). requests_here trader x count left) is

pub joined_requests : (trader : Iiop) (iterator : Ior) (offers : List Offer) → may_join 0 offers ≡ true
    → (left : List ℕ) → found_requests trader iterator offers left
    ≡ left_requests trader iterator (length offers) left
joined_requests trader iterator offers joins left =
    ap (λ (b : Bool). cond b (left_requests trader iterator (length offers) left) []) joins

-- an iterator is drained behind what was found
pub writes_behind : (p : Iiop) (old offers : List Offer) (held : List ℕ) (before after : Option Traffic) (all : Bool)
    → old ≡ offers
    → WritesBy all (λ left. drain_requests p second_id (batches_asked most_batches second_id (length old) left)) held
    before after
    → WritesBy all (iterator_requests p (length offers)) held before after
writes_behind p old offers held before after all is w =
    writes_as (iterator_requests p (length offers)) (iterator_requests p (length old)) held before after all
    (λ left. ap (λ (x : List Offer). iterator_requests p (length x) left) (sym is)) w

-- ---- a query

-- its request was written, in part or whole, and its reply asks for no more
pub writes_query : (trader : Iiop) (c : Call) (before after : Option Traffic)
    → MovesTraffic (request_of first_id trader c) before after
    → WritesBy false (asked_requests trader c) [] before after
writes_query trader c None after m = tt
writes_query trader c (Some t) after m =
    in_part (asked_requests trader c (left_of t)) t after
    (front_moved (request_of first_id trader c)
    (requests_behind trader (left_of t) (reply_value (outcome_in_reply c) first_id (left_of t)))
    (asked_requests trader c (left_of t)) t after refl m)

-- its reply came, and what that asks for was written
pub writes_asked : (trader : Iiop) (c : Call) (held : List ℕ) (before now after : Option Traffic) (f0 f1 : ℕ)
    (reply : Reply) (all : Bool)
    → Exchanges (outcome_in_reply c) first_id (request_of first_id trader c) [] held before now f0 f1 (Ok (Done reply))
    → WritesBy all (reply_requests trader reply) held now after
    → WritesBy all (asked_requests trader c) [] before after
writes_asked trader c held None now after f0 f1 reply all x w = tt
writes_asked trader c held (Some t) now after f0 f1 reply all x w =
    let first : List ℕ = request_of first_id trader c in
    let u : Traffic = with_left x.rest (wrote first t) in
    let more : List ℕ = reply_requests trader reply (held ++ left_of u) in
    let here : WritesRequests all more u after =
    subst (λ (y : Option Traffic). WritesBy all (reply_requests trader reply) held y after) x.wire w in
    let is : asked_requests trader c (left_of t) ≡ first ++ more =
    ap (λ (y : ReplyResult Answered). first ++ requests_behind trader (left_of t) y) x.is
    ∙ ap (λ (left : List ℕ). first ++ reply_requests trader reply left) (sym x.behind)
    ∙ ap (λ (left : List ℕ). first ++ reply_requests trader reply (held ++ left)) (sym x.left) in
    behind_first first more (asked_requests trader c (left_of t)) x.rest t after all is here

-- ---- over a connection of its own

pub leaves_unconnected : (requests : (given : List ℕ) → List ℕ) (p : Iiop) (before after : Option Traffic) (f0 f1 : ℕ)
    (e : PeerFault) → ConnectsTo p before after f0 f1 (Err e) → LeavesFront requests p before after
leaves_unconnected requests p before after f0 f1 fault.Wire made = unopened made.1
leaves_unconnected requests p before after f0 f1 fault.Grammar no_way = absurd no_way
leaves_unconnected requests p before after f0 f1 fault.Exception no_way = absurd no_way
leaves_unconnected requests p None after f0 f1 fault.Memory made = over None tt made
leaves_unconnected requests p (Some t) after f0 f1 fault.Memory made =
    over (Some (open_connection p.host p.port t)) (front_none (requests (next_given t)) (open_connection p.host p.port t)).0 made

pub leaves_front : (requests : (given : List ℕ) → List ℕ) (p : Iiop) (s : Stream) (before mid last after : Option Traffic)
    (f0 f1 : ℕ) (all : Bool) → ConnectsTo p before mid f0 f1 (Ok s) → WritesBy all requests [] mid last
    → after ≡ option_map end_connection last → LeavesFront requests p before after
leaves_front requests p s before mid last after f0 f1 all made w is =
    over last (go before (subst (λ (x : Option Traffic). WritesBy all requests [] x last) made.1 w)) is
  where
    go : (t : Option Traffic) → WritesBy all requests [] (option_map (open_connection p.host p.port) t) last
        → IfSome t (λ u. WritesFront (requests (next_given u)) (open_connection p.host p.port u) last)
    go None w = tt
    go (Some u) w = w.0

pub leaves_there : (p : Iiop) (c : Call) (before between after : Option Traffic) (q : Iiop) (found : SubAnswer) (f0 f1 : ℕ)
    → FindsSo (asked_first p c) [] (option_map (open_connection p.host p.port) before) f0 f1 (Ok (Elsewhere q found))
    → (IsTrue true → HasQueried p c before between)
    → LeavesFront (iterator_requests q (length found.offers)) q between after → AskLeavesAt p c before after
leaves_there p c before between after q found f0 f1 x h left =
    twice q found between (go before x (h refl)) left
  where
    go : (t : Option Traffic)
        → FindsSo (asked_first p c) [] (option_map (open_connection p.host p.port) t) f0 f1 (Ok (Elsewhere q found))
        → HasQueried p c t between → IfSome t (λ u. IsElsewhere p c u between q found)
    go None y w = tt
    go (Some u) y w = record { part = y; rest = w.0; wire = w.1 }

pub leaves_untouched : (target : Ior) (c : Call) (t : Option Traffic) → AskLeavesBy target c t t
leaves_untouched target c t = untouched refl

pub leaves_reached : (target : Ior) (p : Iiop) (c : Call) (before after : Option Traffic) → iiop_of target ≡ Some p
    → AskLeavesAt p c before after → AskLeavesBy target c before after
leaves_reached target p c before after found left = reached p found left

-- ---- no connection stands

pub disconnected_twice : (before between after : Option Traffic) → StaysDisconnected before between
    → StaysDisconnected between after → StaysDisconnected before after
disconnected_twice before between after first second = λ none. second (first none)
