-- From what was fetched to what a call answers.
use Rattle.std.proofs.Common.{◌≡◌, ◌∙◌, inl, inr, ℕ, ◌≤◌, List, [], ◌++◌, drop, Option, Some, None}
use Rattle.std.proofs.Common.{option_map, Result, Ok, Err, sym, ap, subst, append-nil}
use Rattle.std.proofs.lemmas.List.{drop-append-le}
use Rattle.td_typecode.specs.declared.reference.Ior.{Ior}
use Rattle.td_giop.specs.Stream.{Stream, without_first, first_at}
use Rattle.td_giop.proofs.Framing.{whole}
use Rattle.td_ior.specs.declared.profile.Iiop.{Iiop}
use Rattle.td_ior.specs.Profiles.{iiop_of}
use Rattle.td_out.proofs.Steps.{Rose-later}
use Rattle.td_walk.specs.declared.fault.PeerFault.{PeerFault}
use Rattle.td_walk.specs.declared.fault.PeerFault.TheVariants as fault
use Rattle.td_wire.specs.Connections.{Traffic, end_connection, left_of, open_connection, wrote}
use Rattle.td_wire.proofs.Steps.{left_with, left_wrote}
use Rattle.td_call.specs.Replies.{Reading, reply_value, reply_limit}
use Rattle.td_call.specs.Fetching.{FetchesBytes, Exchanges, Fetches, IsReadOrFault, IsWhole, ReadsFront}
use Rattle.td_call.specs.Calling.{CallsObject, CalledAt, ConnectsTo, first_id}
use Rattle.td_call.proofs.Holding.{all_given}
use Rattle.td_call.proofs.Judging.{bad_front, short_front}

-- ---- a request, and what is fetched behind it

-- a count that was lower before
pub fetches_later : (old new : Stream) (before after : Option Traffic) (f0 f1 f2 : ℕ) (r : Result (Unit {0}) PeerFault)
    → f0 ≤ f1 → Fetches old new before after f1 f2 r → Fetches old new before after f0 f2 r
fetches_later old new before after f0 f1 f2 (Ok u) later f = f
fetches_later old new before after f0 f1 f2 (Err fault.Wire) later f =
    elim f [ inl rose ↦ inl (Rose-later f0 f1 f2 later rose) | inr end_connection ↦ inr end_connection ]
fetches_later old new before after f0 f1 f2 (Err fault.Grammar) later f = f
fetches_later old new before after f0 f1 f2 (Err fault.Exception) later f = f
fetches_later old new before after f0 f1 f2 (Err fault.Memory) later f = f

-- a request was written whole, and then its reply fetched
pub fetched_behind : (old new : Stream) (before mid after : Option Traffic) (request : List ℕ) (f0 f1 f2 : ℕ)
    (r : Result (Unit {0}) PeerFault) → mid ≡ option_map (wrote request) before → f0 ≤ f1
    → Fetches old new mid after f1 f2 r → Fetches old new (option_map (wrote request) before) after f0 f2 r
fetched_behind old new before mid after request f0 f1 f2 r written later f =
    fetches_later old new (option_map (wrote request) before) after f0 f1 f2 r later
    (subst (λ (x : Option Traffic). Fetches old new x after f1 f2 r) written f)

-- ---- a request and its reply

-- what is held and left of the connection, once the request was written
all_ahead : (old mid : Stream) (request : List ℕ) (t : Traffic) (after : Option Traffic)
    (b : FetchesBytes old mid (Some (wrote request t)) after) → old.rest ++ left_of t ≡ mid.rest ++ b.gives.0
all_ahead old mid request t after b =
    ap (λ (x : List ℕ). old.rest ++ x) (sym (left_wrote request t)) ∙ all_given old mid (wrote request t) after b

-- what is left of a stream without its first message
rest_dropped : (mid new : Stream) (size : ℕ) → mid.limit ≡ reply_limit
    → first_at reply_limit mid.rest ≡ Ok (Some size) → new ≡ without_first mid (first_at mid.limit mid.rest)
    → new.rest ≡ drop size mid.rest
rest_dropped mid new size limited first is =
    let here : first_at mid.limit mid.rest ≡ Ok (Some size) =
    subst (λ (n : ℕ). first_at n mid.rest ≡ Ok (Some size)) (sym limited) first in
    ap (λ (s : Stream). s.rest) (is ∙ ap (without_first mid) here)

pub exchanged : {A : Type 0} (reads : Reading A) (id : ℕ) (request : List ℕ) (old mid new : Stream)
    (before after : Option Traffic) (f0 f1 : ℕ) (result : Result A PeerFault)
    → FetchesBytes old mid (option_map (wrote request) before) after → IsWhole mid.rest → mid.limit ≡ reply_limit
    → ReadsFront reads id mid.rest result → new ≡ without_first mid (first_at mid.limit mid.rest)
    → Exchanges reads id request old.rest new.rest before after f0 f1 result
exchanged reads id request old mid new None after f0 f1 (Ok a) b held limited front is = tt
exchanged reads id request old mid new (Some t) after f0 f1 (Ok a) b held limited front is =
    let all = all_ahead old mid request t after b in
    let within = (whole reply_limit mid.rest front.0 front.1).within in
    record {
      size = front.0;
      rest = b.gives.0;
      is = ap (reply_value reads id) all ∙ front.2 b.gives.0;
      behind =
          ap (λ (x : List ℕ). x ++ b.gives.0) (rest_dropped mid new front.0 limited front.1 is)
          ∙ sym (drop-append-le front.0 mid.rest b.gives.0 within) ∙ ap (drop front.0) (sym all);
      left = left_with (wrote request t) b.piece b.gives.0 b.gives.1;
      wire = b.gives.2;
    }
exchanged reads id request old mid new before after f0 f1 (Err fault.Wire) b held limited front is =
    absurd (cc (held.1, front))
exchanged reads id request old mid new None after f0 f1 (Err fault.Grammar) b held limited front is = tt
exchanged reads id request old mid new (Some t) after f0 f1 (Err fault.Grammar) b held limited front is =
    ap (reply_value reads id) (all_ahead old mid request t after b) ∙ front b.gives.0
exchanged reads id request old mid new before after f0 f1 (Err fault.Exception) b held limited front is = absurd front
exchanged reads id request old mid new before after f0 f1 (Err fault.Memory) b held limited front is = tt

-- nothing was fetched
pub unfetched : {A : Type 0} (reads : Reading A) (id : ℕ) (request held_after : List ℕ) (old mid : Stream)
    (before after : Option Traffic) (f0 f1 : ℕ) (e : PeerFault)
    → Fetches old mid (option_map (wrote request) before) after f0 f1 (Err e)
    → Exchanges {A = A} reads id request old.rest held_after before after f0 f1 (Err e)
unfetched reads id request held_after old mid None after f0 f1 fault.Wire f =
    elim f [ inl rose ↦ inl rose | inr end_connection ↦ inr tt ]
unfetched reads id request held_after old mid (Some t) after f0 f1 fault.Wire f =
    elim f [
      | inl rose ↦ inl rose
      | inr end_connection ↦ inr (short_front reads id (old.rest ++ left_of t)
          (ap (λ (x : List ℕ). first_at reply_limit (old.rest ++ x)) (sym (left_wrote request t)) ∙ end_connection))
    ]
unfetched reads id request held_after old mid None after f0 f1 fault.Grammar f = tt
unfetched reads id request held_after old mid (Some t) after f0 f1 fault.Grammar f =
    let bad : first_at reply_limit (old.rest ++ left_of t) ≡ Err f.0 =
    ap (λ (x : List ℕ). first_at reply_limit (old.rest ++ x)) (sym (left_wrote request t)) ∙ f.1 in
    ap (reply_value reads id) (sym (append-nil (old.rest ++ left_of t)))
    ∙ bad_front reads id (old.rest ++ left_of t) [] f.0 bad
unfetched reads id request held_after old mid before after f0 f1 fault.Exception f = absurd f
unfetched reads id request held_after old mid before after f0 f1 fault.Memory f = tt

-- ---- a call

called_fresh : {A : Type 0} (reads : Reading A) (request : List ℕ) (p : Iiop)
    (before last after : Option Traffic) (held_after : List ℕ) (f0 f1 f2 : ℕ) (r : Result A PeerFault) → f0 ≤ f1
    → Exchanges reads first_id request [] held_after (option_map (open_connection p.host p.port) before) last f1 f2 r
    → after ≡ option_map end_connection last → CalledAt reads request p before after f0 f2 r
called_fresh reads request p None last after held_after f0 f1 f2 (Ok a) later x over = tt
called_fresh reads request p (Some t) last after held_after f0 f1 f2 (Ok a) later x over =
    record { size = x.size; rest = x.rest; is = x.is; wire = over ∙ ap (option_map end_connection) x.wire }
called_fresh reads request p None last after held_after f0 f1 f2 (Err fault.Wire) later x over =
    elim x [ inl rose ↦ inl (Rose-later f0 f1 f2 later rose) | inr end_connection ↦ inr tt ]
called_fresh reads request p (Some t) last after held_after f0 f1 f2 (Err fault.Wire) later x over =
    elim x [ inl rose ↦ inl (Rose-later f0 f1 f2 later rose) | inr end_connection ↦ inr end_connection ]
called_fresh reads request p None last after held_after f0 f1 f2 (Err fault.Grammar) later x over = tt
called_fresh reads request p (Some t) last after held_after f0 f1 f2 (Err fault.Grammar) later x over = x
called_fresh reads request p before last after held_after f0 f1 f2 (Err fault.Exception) later x over = absurd x
called_fresh reads request p before last after held_after f0 f1 f2 (Err fault.Memory) later x over = tt

-- a connection was made, and then a request sent over it
pub called_then : {A : Type 0} (reads : Reading A) (request : List ℕ) (p : Iiop) (s : Stream)
    (before mid last after : Option Traffic) (held_after : List ℕ) (f0 f1 f2 : ℕ) (r : Result A PeerFault)
    → ConnectsTo p before mid f0 f1 (Ok s) → f0 ≤ f1
    → Exchanges reads first_id request s.rest held_after mid last f1 f2 r → after ≡ option_map end_connection last
    → CalledAt reads request p before after f0 f2 r
called_then reads request p s before mid last after held_after f0 f1 f2 r made later x over =
    let none : s.rest ≡ [] = ap (λ (u : Stream). u.rest) made.0 in
    let y : Exchanges reads first_id request [] held_after mid last f1 f2 r =
    subst (λ (held : List ℕ). Exchanges reads first_id request held held_after mid last f1 f2 r) none x in
    called_fresh reads request p before last after held_after f0 f1 f2 r later
    (subst (λ (u : Option Traffic). Exchanges reads first_id request [] held_after u last f1 f2 r) made.1 y) over

pub unconnected : {A : Type 0} (reads : Reading A) (request : List ℕ) (p : Iiop)
    (before after : Option Traffic) (f0 f1 : ℕ) (e : PeerFault) → ConnectsTo p before after f0 f1 (Err e)
    → CalledAt {A = A} reads request p before after f0 f1 (Err e)
unconnected reads request p before after f0 f1 fault.Wire failed = inl failed.0
unconnected reads request p before after f0 f1 fault.Grammar no_way = absurd no_way
unconnected reads request p before after f0 f1 fault.Exception no_way = absurd no_way
unconnected reads request p before after f0 f1 fault.Memory wanted = tt

pub called_of : {A : Type 0} (reads : Reading A) (request : Iiop → List ℕ) (target : Ior) (p : Iiop)
    (before after : Option Traffic) (f0 f1 : ℕ) (r : Result A PeerFault) → iiop_of target ≡ Some p
    → CalledAt reads (request p) p before after f0 f1 r → CallsObject reads request target before after f0 f1 r
called_of reads request target p before after f0 f1 (Ok a) found x = (p, found, x)
called_of reads request target p before after f0 f1 (Err fault.Wire) found x = x
called_of reads request target p before after f0 f1 (Err fault.Grammar) found x = inr x
called_of reads request target p before after f0 f1 (Err fault.Exception) found x = x
called_of reads request target p before after f0 f1 (Err fault.Memory) found x = tt

pub uncalled : {A : Type 0} (reads : Reading A) (request : Iiop → List ℕ) (target : Ior)
    (before after : Option Traffic) (f0 f1 : ℕ) (e : PeerFault) → IsReadOrFault (iiop_of target) (Err e)
    → CallsObject {A = A} reads request target before after f0 f1 (Err e)
uncalled reads request target before after f0 f1 fault.Wire no_way = absurd no_way
uncalled reads request target before after f0 f1 fault.Grammar none = inl none
uncalled reads request target before after f0 f1 fault.Exception no_way = absurd no_way
uncalled reads request target before after f0 f1 fault.Memory wanted = tt
