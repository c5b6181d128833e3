-- From a query's reply to what asking answers.
use Rattle.std.proofs.Common.{◌≡◌, ◌∙◌, inl, inr, ℕ, ◌≤◌, List, [], ◌++◌, length, drop, Option, Some, None}
use Rattle.std.proofs.Common.{option_map, Result, Ok, Err, refl, sym, ap, subst, true, Bool, append-nil}
use Rattle.std.specs.Prelude.{IfSome, IsTrue}
use Rattle.td_giop.specs.Stream.{Stream}
use Rattle.td_ior.specs.declared.profile.Iiop.{Iiop}
use Rattle.td_ops.specs.declared.call.Call.{Call}
use Rattle.td_ops.specs.declared.outcome.Answered.{Answered}
use Rattle.td_ops.specs.declared.outcome.Answered.TheVariants.{Done}
use Rattle.td_ops.specs.declared.outcome.Reply.{Reply}
use Rattle.td_out.proofs.Steps.{Rose-later}
use Rattle.td_walk.specs.declared.answer.SubAnswer.{SubAnswer}
use Rattle.td_walk.specs.declared.fault.PeerFault.{PeerFault}
use Rattle.td_walk.specs.declared.fault.PeerFault.TheVariants as fault
use Rattle.td_wire.specs.Connections.{Traffic, end_connection, left_of, open_connection, with_left, wrote}
use Rattle.td_call.specs.Calling.{ConnectsTo, first_id, fresh_stream, next_given}
use Rattle.td_call.specs.Fetching.{Exchanges, IsReadOrFault, RepliesTo}
use Rattle.td_call.specs.Readings.{outcome_in_reply}
use Rattle.td_call.specs.Requests.{request_of}
use Rattle.td_remote_query.specs.Querying.{AsksAt, AsksBy, DrainEndsSo, FindsSo, FirstPart, HasDrained, HasQueried}
use Rattle.td_remote_query.specs.Querying.{HasWritten}
use Rattle.td_remote_query.specs.Querying.{after_query, asked_first, drain_rest, drain_over, drained_behind, elsewhere}
use Rattle.td_remote_query.specs.Querying.{ends}
use Rattle.td_remote_query.specs.Querying.{query_ends, query_over, reply_ends, second_given}
use Rattle.td_remote_query.specs.Draining.{DrainEnd, raised}
use Rattle.td_remote_query.specs.Writing.{WritesRequests, WritesBy, gives_all}
use Rattle.td_remote_query.specs.declared.gathered.ConnectionResult.{ConnectionResult as Part}
use Rattle.td_remote_query.specs.declared.gathered.ConnectionResult.TheVariants.{All, Elsewhere}
use Rattle.td_remote_query.specs.declared.gathered.Gathered.{Gathered}
use Rattle.td_remote_query.specs.declared.gathered.Gathered.TheVariants.{Offers, Refused}
use Rattle.td_remote_query.proofs.Leftover.{all_of, finds_as, finds_behind, finds_no_content}

-- ---- over a connection of which nothing came yet

-- the request for the query, as a part of what was written
abbrev query_request : (trader : Iiop) → Call → List ℕ
query_request trader c = request_of first_id trader c

pub from_fresh : (trader : Iiop) (c : Call) (s : Stream) (held : List ℕ) (before now : Option Traffic) (f0 f1 : ℕ)
    (r : Result Answered PeerFault) → s ≡ fresh_stream
    → Exchanges (outcome_in_reply c) first_id (query_request trader c) s.rest held before now f0 f1 r
    → Exchanges (outcome_in_reply c) first_id (query_request trader c) [] held before now f0 f1 r
from_fresh trader c s held before now f0 f1 r is x =
    subst (λ (h : List ℕ). Exchanges (outcome_in_reply c) first_id (query_request trader c) h held before now f0 f1 r)
    (ap (λ (u : Stream). u.rest) is) x

-- what the query comes to, by what is held and left behind its reply
asked_is : (trader : Iiop) (c : Call) (held : List ℕ) (t : Traffic) (now : Option Traffic) (reply : Reply)
    (x : RepliesTo (outcome_in_reply c) first_id (query_request trader c) [] held t now (Done reply))
    → asked_first trader c (left_of t)
    ≡ reply_ends trader reply (held ++ left_of (with_left x.rest (wrote (query_request trader c) t)))
asked_is trader c held t now reply x =
    ap (after_query trader (left_of t)) x.is ∙ ap (reply_ends trader reply) (sym x.behind)
    ∙ ap (λ (left : List ℕ). reply_ends trader reply (held ++ left)) (sym x.left)

-- a part where the connection stands, as the wire tells it
finds_here : (trader : Iiop) (held : List ℕ) (u : Traffic) (now : Option Traffic) (reply : Reply) (f0 f1 : ℕ)
    (r : Result Part PeerFault) → now ≡ Some u → FindsSo (reply_ends trader reply) held now f0 f1 r
    → FindsSo (reply_ends trader reply) held (Some u) f0 f1 r
finds_here trader held u now reply f0 f1 r is e =
    subst (λ (x : Option Traffic). FindsSo (reply_ends trader reply) held x f0 f1 r) is e

pub through_done : (trader : Iiop) (c : Call) (held : List ℕ) (before now : Option Traffic) (f0 f1 f2 : ℕ)
    (reply : Reply) (r : Result Part PeerFault) → f0 ≤ f1
    → Exchanges (outcome_in_reply c) first_id (query_request trader c) [] held before now f0 f1 (Ok (Done reply))
    → FindsSo (reply_ends trader reply) held now f1 f2 r → FindsSo (asked_first trader c) [] before f0 f2 r
through_done trader c held None now f0 f1 f2 reply r later x e =
    finds_no_content (asked_first trader c) (reply_ends trader reply) [] held now f0 f1 f2 r later e
through_done trader c held (Some t) now f0 f1 f2 reply r later x e =
    let u : Traffic = with_left x.rest (wrote (query_request trader c) t) in
    finds_behind (asked_first trader c) (reply_ends trader reply) [] held t u f0 f1 f2 r later
    (asked_is trader c held t now reply x) (finds_here trader held u now reply f1 f2 r x.wire e)

-- an exception
pub through_refused : (trader : Iiop) (c : Call) (held : List ℕ) (before now : Option Traffic) (f0 f1 : ℕ)
    (answer : Answered) → ((left : List ℕ) → query_ends trader answer left ≡ ends (raised answer))
    → Exchanges (outcome_in_reply c) first_id (query_request trader c) [] held before now f0 f1 (Ok answer)
    → FindsSo (asked_first trader c) [] before f0 f1 (Ok (All (Refused answer)))
through_refused trader c held None now f0 f1 answer is x = tt
through_refused trader c held (Some t) now f0 f1 answer is x =
    ap (after_query trader (left_of t)) x.is ∙ is (drop x.size (left_of t))

pub through_fault : (trader : Iiop) (c : Call) (held : List ℕ) (before now : Option Traffic) (f0 f1 : ℕ)
    (e : PeerFault) → Exchanges (outcome_in_reply c) first_id (query_request trader c) [] held before now f0 f1 (Err e)
    → FindsSo (asked_first trader c) [] before f0 f1 (Err e)
through_fault trader c held None now f0 f1 fault.Wire x = elim x [ inl rose ↦ inl rose | inr end_connection ↦ inr tt ]
through_fault trader c held (Some t) now f0 f1 fault.Wire x =
    elim x [ inl rose ↦ inl rose | inr end_connection ↦ inr (ap (after_query trader (left_of t)) end_connection) ]
through_fault trader c held None now f0 f1 fault.Grammar x = tt
through_fault trader c held (Some t) now f0 f1 fault.Grammar x = ap (after_query trader (left_of t)) x
through_fault trader c held before now f0 f1 fault.Exception x = absurd x
through_fault trader c held before now f0 f1 fault.Memory x = tt

-- ---- over a new connection

-- all requests are those that were written
all_written : (requests : List ℕ) (t : Traffic) (after : Option Traffic) (w : WritesRequests true requests t after)
    → w.0.written ≡ requests
all_written requests t after w =
    sym (w.0.front ∙ ap (λ (x : List ℕ). w.0.written ++ x) (w.1 refl) ∙ append-nil w.0.written)

pub all_over : (requests : (given : List ℕ) → List ℕ) (p : Iiop) (s : Stream) (before mid last after : Option Traffic)
    (f0 f1 : ℕ) (b : Bool) → ConnectsTo p before mid f0 f1 (Ok s) → WritesBy b requests [] mid last
    → after ≡ option_map end_connection last → IsTrue b
    → IfSome before (λ t. (rest : List ℕ)
    × (after ≡ Some (end_connection (with_left rest (wrote (requests (next_given t)) (open_connection p.host p.port t))))))
all_over requests p s before mid last after f0 f1 b made w over all =
    go before (subst (λ (x : Option Traffic). WritesBy true requests [] x last) made.1
    (subst (λ (x : Bool). WritesBy x requests [] mid last) all w))
  where
    go : (t : Option Traffic) → WritesBy true requests [] (option_map (open_connection p.host p.port) t) last
        → IfSome t (λ u. (rest : List ℕ)
        × (after ≡ Some (end_connection (with_left rest (wrote (requests (next_given u)) (open_connection p.host p.port u))))))
    go None v = tt
    go (Some u) v = (
      v.0.rest,
      over ∙ ap (option_map end_connection) v.0.wire
          ∙ ap (λ (x : List ℕ). Some (end_connection (with_left v.0.rest (wrote x (open_connection p.host p.port u)))))
          (all_written (requests (next_given u)) (open_connection p.host p.port u) last v),
    )

pub finds_connected : (part : (left : List ℕ) → FirstPart) (p : Iiop) (s : Stream) (before mid : Option Traffic)
    (f0 f1 f2 : ℕ) (r : Result Part PeerFault) → ConnectsTo p before mid f0 f1 (Ok s) → f0 ≤ f1
    → FindsSo part [] mid f1 f2 r → FindsSo part [] (option_map (open_connection p.host p.port) before) f0 f2 r
finds_connected part p s before mid f0 f1 f2 r made later x =
    finds_as part part [] (option_map (open_connection p.host p.port) before) f0 f1 f2 r later (λ left. refl)
    (subst (λ (u : Option Traffic). FindsSo part [] u f1 f2 r) made.1 x)

pub finds_unconnected : (part : (left : List ℕ) → FirstPart) (p : Iiop) (before after : Option Traffic) (f0 f1 : ℕ)
    (e : PeerFault) → ConnectsTo p before after f0 f1 (Err e)
    → FindsSo part [] (option_map (open_connection p.host p.port) before) f0 f1 (Err e)
finds_unconnected part p before after f0 f1 fault.Wire failed = inl failed.0
finds_unconnected part p before after f0 f1 fault.Grammar no_way = absurd no_way
finds_unconnected part p before after f0 f1 fault.Exception no_way = absurd no_way
finds_unconnected part p before after f0 f1 fault.Memory wanted = tt

-- the same of an ending
ends_later : (ending : (left : List ℕ) → DrainEnd SubAnswer) (before : Option Traffic) (f0 f1 f2 : ℕ)
    (r : Result Gathered PeerFault) → f0 ≤ f1 → DrainEndsSo ending [] before f1 f2 r → DrainEndsSo ending [] before f0 f2 r
ends_later ending before f0 f1 f2 (Ok (Offers a)) later e = e
ends_later ending before f0 f1 f2 (Ok (Refused answer)) later e = e
ends_later ending before f0 f1 f2 (Err fault.Wire) later e =
    elim e [ inl rose ↦ inl (Rose-later f0 f1 f2 later rose) | inr end_connection ↦ inr end_connection ]
ends_later ending before f0 f1 f2 (Err fault.Grammar) later e = e
ends_later ending before f0 f1 f2 (Err fault.Exception) later e = absurd e
ends_later ending before f0 f1 f2 (Err fault.Memory) later e = tt

pub ends_connected : (ending : (left : List ℕ) → DrainEnd SubAnswer) (p : Iiop) (s : Stream)
    (before mid : Option Traffic) (f0 f1 f2 : ℕ) (r : Result Gathered PeerFault)
    → ConnectsTo p before mid f0 f1 (Ok s) → f0 ≤ f1 → DrainEndsSo ending [] mid f1 f2 r
    → DrainEndsSo ending [] (option_map (open_connection p.host p.port) before) f0 f2 r
ends_connected ending p s before mid f0 f1 f2 r made later e =
    ends_later ending (option_map (open_connection p.host p.port) before) f0 f1 f2 r later
    (subst (λ (u : Option Traffic). DrainEndsSo ending [] u f1 f2 r) made.1 e)

pub ends_unconnected : (ending : (left : List ℕ) → DrainEnd SubAnswer) (p : Iiop) (before after : Option Traffic)
    (f0 f1 : ℕ) (e : PeerFault) → ConnectsTo p before after f0 f1 (Err e)
    → DrainEndsSo ending [] (option_map (open_connection p.host p.port) before) f0 f1 (Err e)
ends_unconnected ending p before after f0 f1 fault.Wire failed = inl failed.0
ends_unconnected ending p before after f0 f1 fault.Grammar no_way = absurd no_way
ends_unconnected ending p before after f0 f1 fault.Exception no_way = absurd no_way
ends_unconnected ending p before after f0 f1 fault.Memory wanted = tt

-- ---- what is answered where the query's connection gave all

-- with what the next connection gives, which isn't made
whole_is : (c : Call) (p : Iiop) (t : Traffic) (e : DrainEnd SubAnswer) → asked_first p c (next_given t) ≡ ends e
    → drain_rest (asked_first p c (next_given t)) (second_given t) ≡ e
whole_is c p t e is = ap (λ (x : FirstPart). drain_rest x (second_given t)) is

pub asks_all : (p : Iiop) (c : Call) (before after : Option Traffic) (f0 f1 : ℕ) (r : Result Gathered PeerFault)
    → FindsSo (asked_first p c) [] (option_map (open_connection p.host p.port) before) f0 f1 (all_of r)
    → (IsTrue (gives_all r) → HasQueried p c before after) → AsksAt p c before after f0 f1 r
asks_all p c None after f0 f1 (Ok (Offers a)) x w = tt
asks_all p c (Some t) after f0 f1 (Ok (Offers a)) x w =
    record {
      is = whole_is c p t _ x;
      wire = subst (λ (part : FirstPart). HasWritten part p c t after) (sym x) (w refl);
    }
asks_all p c None after f0 f1 (Ok (Refused answer)) x w = tt
asks_all p c (Some t) after f0 f1 (Ok (Refused answer)) x w = whole_is c p t (raised answer) x
asks_all p c None after f0 f1 (Err fault.Wire) x w = elim x [ inl rose ↦ inl rose | inr end_connection ↦ inr tt ]
asks_all p c (Some t) after f0 f1 (Err fault.Wire) x w =
    elim x [ inl rose ↦ inl rose | inr end_connection ↦ inr (whole_is c p t _ end_connection) ]
asks_all p c None after f0 f1 (Err fault.Grammar) x w = tt
asks_all p c (Some t) after f0 f1 (Err fault.Grammar) x w = whole_is c p t _ x
asks_all p c before after f0 f1 (Err fault.Exception) x w = absurd x
asks_all p c before after f0 f1 (Err fault.Memory) x w = tt

-- ---- what is answered where the iterator is elsewhere

-- the next connection gives what is drained
elsewhere_is : (c : Call) (p q : Iiop) (found : SubAnswer) (t : Traffic) (e : DrainEnd SubAnswer)
    → asked_first p c (next_given t) ≡ elsewhere q found → drained_behind found (second_given t) ≡ e
    → drain_rest (asked_first p c (next_given t)) (second_given t) ≡ e
elsewhere_is c p q found t e is d = ap (λ (x : FirstPart). drain_rest x (second_given t)) is ∙ d

-- the connection to there as the wire tells it
ends_there : (ending : (left : List ℕ) → DrainEnd SubAnswer) (q : Iiop) (u : Traffic) (between : Option Traffic)
    (f0 f1 : ℕ) (r : Result Gathered PeerFault) → between ≡ Some u
    → DrainEndsSo ending [] (option_map (open_connection q.host q.port) between) f0 f1 r
    → DrainEndsSo ending [] (Some (open_connection q.host q.port u)) f0 f1 r
ends_there ending q u between f0 f1 r is e =
    subst (λ (x : Option Traffic). DrainEndsSo ending [] (option_map (open_connection q.host q.port) x) f0 f1 r) is e

drained_there : (q : Iiop) (count : ℕ) (u : Traffic) (between after : Option Traffic) → between ≡ Some u
    → HasDrained q count between after → (more : List ℕ) × (after ≡ Some (drain_over q count more u))
drained_there q count u between after is w =
    subst (λ (x : Option Traffic). HasDrained q count x after) is w

asks_content : (p : Iiop) (c : Call) (t : Traffic) (between after : Option Traffic) (q : Iiop) (found : SubAnswer)
    (f0 f1 f2 : ℕ) (r : Result Gathered PeerFault) → f0 ≤ f1
    → asked_first p c (next_given t) ≡ elsewhere q found → (rest : List ℕ)
    → between ≡ Some (query_over p c rest t)
    → DrainEndsSo (drained_behind found) [] (Some (open_connection q.host q.port (query_over p c rest t))) f1 f2 r
    → (IsTrue (gives_all r) → HasDrained q (length found.offers) between after)
    → AsksAt p c (Some t) after f0 f2 r
asks_content p c t between after q found f0 f1 f2 (Ok (Offers a)) later is rest over e w =
    let more = drained_there q (length found.offers) (query_over p c rest t) between after over (w refl) in
    record {
      is = elsewhere_is c p q found t _ is e;
      wire = subst (λ (part : FirstPart). HasWritten part p c t after) (sym is) (rest, more.0, more.1);
    }
asks_content p c t between after q found f0 f1 f2 (Ok (Refused answer)) later is rest over e w =
    elsewhere_is c p q found t (raised answer) is e
asks_content p c t between after q found f0 f1 f2 (Err fault.Wire) later is rest over e w =
    elim e [
      | inl rose ↦ inl (Rose-later f0 f1 f2 later rose)
      | inr end_connection ↦ inr (elsewhere_is c p q found t _ is end_connection)
    ]
asks_content p c t between after q found f0 f1 f2 (Err fault.Grammar) later is rest over e w =
    elsewhere_is c p q found t _ is e
asks_content p c t between after q found f0 f1 f2 (Err fault.Exception) later is rest over e w = absurd e
asks_content p c t between after q found f0 f1 f2 (Err fault.Memory) later is rest over e w = tt

asks_no_content : (p : Iiop) (c : Call) (between after : Option Traffic) (q : Iiop) (found : SubAnswer) (f0 f1 f2 : ℕ)
    (r : Result Gathered PeerFault) → f0 ≤ f1
    → DrainEndsSo (drained_behind found) [] (option_map (open_connection q.host q.port) between) f1 f2 r
    → AsksAt p c None after f0 f2 r
asks_no_content p c between after q found f0 f1 f2 (Ok (Offers a)) later e = tt
asks_no_content p c between after q found f0 f1 f2 (Ok (Refused answer)) later e = tt
asks_no_content p c between after q found f0 f1 f2 (Err fault.Wire) later e =
    elim e [ inl rose ↦ inl (Rose-later f0 f1 f2 later rose) | inr end_connection ↦ inr tt ]
asks_no_content p c between after q found f0 f1 f2 (Err fault.Grammar) later e = tt
asks_no_content p c between after q found f0 f1 f2 (Err fault.Exception) later e = absurd e
asks_no_content p c between after q found f0 f1 f2 (Err fault.Memory) later e = tt

pub asks_there : (p : Iiop) (c : Call) (before between after : Option Traffic) (q : Iiop) (found : SubAnswer)
    (f0 f1 f2 : ℕ) (r : Result Gathered PeerFault) → f0 ≤ f1
    → FindsSo (asked_first p c) [] (option_map (open_connection p.host p.port) before) f0 f1 (Ok (Elsewhere q found))
    → (IsTrue true → HasQueried p c before between)
    → DrainEndsSo (drained_behind found) [] (option_map (open_connection q.host q.port) between) f1 f2 r
    → (IsTrue (gives_all r) → HasDrained q (length found.offers) between after) → AsksAt p c before after f0 f2 r
asks_there p c None between after q found f0 f1 f2 r later x h e w =
    asks_no_content p c between after q found f0 f1 f2 r later e
asks_there p c (Some t) between after q found f0 f1 f2 r later x h e w =
    let there = h refl in
    asks_content p c t between after q found f0 f1 f2 r later x there.0 there.1
    (ends_there (drained_behind found) q (query_over p c there.0 t) between f1 f2 r there.1 e) w

-- ---- by the trader's reference

pub asks_of : (o : Option Iiop) (p : Iiop) (c : Call) (before after : Option Traffic) (f0 f1 : ℕ)
    (r : Result Gathered PeerFault) → o ≡ Some p → AsksAt p c before after f0 f1 r
    → AsksBy o c before after f0 f1 r
asks_of o p c before after f0 f1 r found x =
    subst (λ (y : Option Iiop). AsksBy y c before after f0 f1 r) (sym found) x

pub unasked_memory : (o : Option Iiop) (c : Call) (before after : Option Traffic) (f0 f1 : ℕ)
    → AsksBy o c before after f0 f1 (Err fault.Memory)
unasked_memory (Some p) c before after f0 f1 = tt
unasked_memory None c before after f0 f1 = tt

pub unasked : (o : Option Iiop) (c : Call) (before after : Option Traffic) (f0 f1 : ℕ) (e : PeerFault)
    → IsReadOrFault o (Err e) → AsksBy o c before after f0 f1 (Err e)
unasked o c before after f0 f1 fault.Wire no_way = absurd no_way
unasked o c before after f0 f1 fault.Grammar none =
    subst (λ (y : Option Iiop). AsksBy y c before after f0 f1 (Err fault.Grammar)) (sym none) tt
unasked o c before after f0 f1 fault.Exception no_way = absurd no_way
unasked o c before after f0 f1 fault.Memory wanted = unasked_memory o c before after f0 f1
