-- A draining, batch by batch.
use Rattle.std.proofs.Common.{◌≡◌, ◌∙◌, inl, inr, ℕ, zero, suc, ◌+◌, ◌-◌, ◌≤◌, List, [], ◌++◌}
use Rattle.std.proofs.Common.{length, Option, Some, None, IfSome, Result, Ok, Err, refl, sym, ap, subst, arith}
use Rattle.std.proofs.Common.{append-nil, append_assoc}
use Rattle.td_ior.specs.declared.profile.Iiop.{Iiop}
use Rattle.td_ops.specs.declared.outcome.Answered.{Answered}
use Rattle.td_out.proofs.Steps.{Rose-later}
use Rattle.td_value.specs.declared.structures.Offer.{Offer}
use Rattle.td_walk.specs.declared.fault.PeerFault.{PeerFault}
use Rattle.td_walk.specs.declared.fault.PeerFault.TheVariants as fault
use Rattle.td_wire.specs.Connections.{Traffic, left_of, with_left, wrote}
use Rattle.td_wire.proofs.Steps.{moved_none, moved_twice}
use Rattle.td_call.specs.Readings.{outcome_in_reply}
use Rattle.td_call.specs.Replies.{reply_value}
use Rattle.td_call.specs.Requests.{request_of}
use Rattle.td_remote_query.specs.Querying.{most_batches, second_id}
use Rattle.td_remote_query.specs.Draining.{DrainEnd, gave, raised, unclear, cut, after_destroy, batch_requests}
use Rattle.td_remote_query.specs.Draining.{batches_asked}
use Rattle.td_remote_query.specs.Draining.{behind, destroy, drain_batches, most_offers, next_batch}
use Rattle.td_remote_query.specs.Turns.{DestroysRemote, Drains, DrainFinishes, DrainsBatch, Grew, DrainsInTurn}
use Rattle.td_remote_query.specs.declared.draining.Turn.TheVariants.{More, Last, Refused}

-- ---- offers in front of others

behind_twice : (a b : List Offer) (e : DrainEnd (List Offer)) → behind a (behind b e) ≡ behind (a ++ b) e
behind_twice a b (gave more) = ap (λ (x : List Offer). gave x) (sym (append_assoc a b more))
behind_twice a b (raised answer) = refl
behind_twice a b unclear = refl
behind_twice a b cut = refl

behind_none : (e : DrainEnd (List Offer)) → behind [] e ≡ e
behind_none (gave more) = refl
behind_none (raised answer) = refl
behind_none unclear = refl
behind_none cut = refl

-- ---- requests one after the other

pub one_more : (profile : Iiop) (id n : ℕ)
    → batch_requests profile id n ++ request_of (id + n) profile next_batch ≡ batch_requests profile id (suc n)
one_more profile id zero =
    let same : id + 0 ≡ id = omega arith in
    ap (λ (i : ℕ). request_of i profile next_batch) same ∙ sym (append-nil (request_of id profile next_batch))
one_more profile id (suc n) =
    let same : id + suc n ≡ id + 1 + n = omega arith in
    ap (λ (i : ℕ). batch_requests profile id (suc n) ++ request_of i profile next_batch) same
    ∙ append_assoc (request_of id profile next_batch) (batch_requests profile (id + 1) n)
    (request_of (id + 1 + n) profile next_batch)
    ∙ ap (λ (x : List ℕ). request_of id profile next_batch ++ x) (one_more profile (id + 1) n)

-- ---- how far a draining has come

-- so many batches came, and what is left makes of these offers what all makes of the first ones
pub record Stands (profile : Iiop) (held0 held : List ℕ) (t : Traffic) (now : Option Traffic) (old new : List Offer) (id : ℕ)
    : Type 0 where
  pub turns : ℕ
  pub id_is : id ≡ second_id + turns
  pub offers : List Offer
  pub joined : new ≡ old ++ offers
  pub rest : List ℕ
  pub left : left_of (with_left rest (wrote (batch_requests profile second_id turns) t)) ≡ rest
  pub wire : now ≡ Some (with_left rest (wrote (batch_requests profile second_id turns) t))
  pub is : (batches : ℕ) → drain_batches (turns + batches) second_id (length old) (held0 ++ left_of t)
      ≡ behind offers (drain_batches batches id (length new) (held ++ rest))
  pub asks : (batches : ℕ) → batches_asked (turns + batches) second_id (length old) (held0 ++ left_of t)
      ≡ turns + batches_asked batches id (length new) (held ++ rest)

pub record Came (profile : Iiop) (held0 held : List ℕ) (before now : Option Traffic) (f0 f1 : ℕ) (old new : List Offer) (id : ℕ)
    : Type 0 where
  pub later : f0 ≤ f1
  pub most : length new ≤ most_offers
  pub few : id + length old ≤ second_id + length new
  pub stands : IfSome before (λ t. Stands profile held0 held t now old new id)

zero_more : (n : ℕ) → 0 + n ≡ n
zero_more n = omega arith

one_later : (m n : ℕ) → m + suc n ≡ suc m + n
one_later m n = omega arith

begins : (profile : Iiop) (held : List ℕ) (t : Traffic) (old : List Offer) → Stands profile held held t (Some t) old old second_id
begins profile held t old =
    let own : with_left (left_of t) (wrote [] t) ≡ t = moved_none t in
    record {
      turns = 0;
      id_is = omega arith;
      offers = [];
      joined = sym (append-nil old);
      rest = left_of t;
      left = ap left_of own;
      wire = ap (λ (x : Traffic). Some x) (sym own);
      is = λ batches.
          ap (λ (n : ℕ). drain_batches n second_id (length old) (held ++ left_of t)) (zero_more batches)
          ∙ sym (behind_none (drain_batches batches second_id (length old) (held ++ left_of t)));
      asks = λ batches.
          ap (λ (n : ℕ). batches_asked n second_id (length old) (held ++ left_of t)) (zero_more batches)
          ∙ sym (zero_more (batches_asked batches second_id (length old) (held ++ left_of t)));
    }

pub came_none : (profile : Iiop) (held : List ℕ) (before : Option Traffic) (f : ℕ) (old : List Offer) → length old ≤ most_offers
    → Came profile held held before before f f old old second_id
came_none profile held None f old most =
    record { later = omega arith; most = most; few = omega arith; stands = tt }
came_none profile held (Some t) f old most =
    record { later = omega arith; most = most; few = omega arith; stands = begins profile held t old }

-- ---- one batch more

goes_on : (profile : Iiop) (held0 held held_after : List ℕ) (t : Traffic) (now after : Option Traffic) (old mid new : List Offer)
    (id : ℕ) (offers : List Offer) → Stands profile held0 held t now old mid id → Grew mid new offers
    → IfSome now (λ u. DrainsBatch profile id held held_after u after mid new offers)
    → Stands profile held0 held_after t after old new (id + 1)
goes_on profile held0 held held_after t now after old mid new id offers s grew more =
    let u : Traffic = with_left s.rest (wrote (batch_requests profile second_id s.turns) t) in
    let g : DrainsBatch profile id held held_after u after mid new offers =
    subst (λ (x : Option Traffic). IfSome x (λ (v : Traffic). DrainsBatch profile id held held_after v after mid new offers))
    s.wire more in
    let requests : batch_requests profile second_id s.turns ++ request_of id profile next_batch
    ≡ batch_requests profile second_id (suc s.turns) =
    ap (λ (i : ℕ). batch_requests profile second_id s.turns ++ request_of i profile next_batch) s.id_is
    ∙ one_more profile second_id s.turns in
    let moved : with_left g.rest (wrote (request_of id profile next_batch) u)
    ≡ with_left g.rest (wrote (batch_requests profile second_id (suc s.turns)) t) =
    moved_twice (batch_requests profile second_id s.turns) (request_of id profile next_batch) s.rest g.rest t
    ∙ ap (λ (x : List ℕ). with_left g.rest (wrote x t)) requests in
    record {
      turns = suc s.turns;
      id_is = let e = s.id_is in omega (arith, e);
      offers = s.offers ++ offers;
      joined =
          grew.is ∙ ap (λ (x : List Offer). x ++ offers) s.joined ∙ append_assoc old s.offers offers;
      rest = g.rest;
      left = ap left_of (sym moved) ∙ g.left;
      wire = g.wire ∙ ap (λ (x : Traffic). Some x) moved;
      is = λ batches.
          ap (λ (n : ℕ). drain_batches n second_id (length old) (held0 ++ left_of t)) (sym (one_later s.turns batches))
          ∙ s.is (suc batches)
          ∙ ap (λ (x : List ℕ). behind s.offers (drain_batches (suc batches) id (length mid) (held ++ x))) (sym s.left)
          ∙ ap (behind s.offers) (g.is batches)
          ∙ behind_twice s.offers offers (drain_batches batches (id + 1) (length new) (held_after ++ g.rest));
      asks = λ batches.
          ap (λ (n : ℕ). batches_asked n second_id (length old) (held0 ++ left_of t)) (sym (one_later s.turns batches))
          ∙ s.asks (suc batches)
          ∙ ap (λ (x : List ℕ). s.turns + batches_asked (suc batches) id (length mid) (held ++ x)) (sym s.left)
          ∙ ap (λ (n : ℕ). s.turns + n) (g.asks batches)
          ∙ one_later s.turns (batches_asked batches (id + 1) (length new) (held_after ++ g.rest));
    }

pub came_more : (profile : Iiop) (held0 held held_after : List ℕ) (before now after : Option Traffic) (f0 f1 f2 : ℕ)
    (old mid new : List Offer) (id : ℕ) → Came profile held0 held before now f0 f1 old mid id → f1 ≤ f2
    → DrainsInTurn profile id held held_after now after f1 f2 mid new (Ok More)
    → Came profile held0 held_after before after f0 f2 old new (id + 1)
came_more profile held0 held held_after None now after f0 f1 f2 old mid new id came later turned = record {
  later = let first = came.later in omega (arith, first, later);
  most = turned.1.most;
  few = let few = came.few in let some = turned.1.some in omega (arith, few, some);
  stands = tt;
}
came_more profile held0 held held_after (Some t) now after f0 f1 f2 old mid new id came later turned = record {
  later = let first = came.later in omega (arith, first, later);
  most = turned.1.most;
  few = let few = came.few in let some = turned.1.some in omega (arith, few, some);
  stands = goes_on profile held0 held held_after t now after old mid new id turned.0 came.stands turned.1 turned.2;
}

-- ---- how it ends

-- there is one batch more than offers, so that one more may come
pub one_left : (turns id old new : ℕ) → id ≡ second_id + turns → id + old ≤ second_id + new → new ≤ most_offers
    → (batches : ℕ) × (turns + suc batches ≡ most_batches)
one_left turns id old new e few most = (most_offers - turns, omega (arith, e, few, most))

-- what the whole draining comes to, where it ends behind a batch
ends_with : (profile : Iiop) (held0 held : List ℕ) (t : Traffic) (now : Option Traffic) (old mid : List Offer) (id : ℕ)
    (ending : DrainEnd (List Offer)) → length mid ≤ most_offers → id + length old ≤ second_id + length mid
    → (s : Stands profile held0 held t now old mid id)
    → ((batches : ℕ) → drain_batches (suc batches) id (length mid) (held ++ s.rest) ≡ ending)
    → drain_batches most_batches second_id (length old) (held0 ++ left_of t) ≡ behind s.offers ending
ends_with profile held0 held t now old mid id ending most few s last =
    let one = one_left s.turns id (length old) (length mid) s.id_is few most in
    ap (λ (n : ℕ). drain_batches n second_id (length old) (held0 ++ left_of t)) (sym one.1) ∙ s.is (suc one.0)
    ∙ ap (behind s.offers) (last one.0)

-- the same by what the connection has left now
here : (profile : Iiop) (held0 held : List ℕ) (t : Traffic) (now : Option Traffic) (old mid : List Offer) (id : ℕ)
    (ending : DrainEnd (List Offer)) (s : Stands profile held0 held t now old mid id)
    → IfSome now (λ u. (batches : ℕ) → drain_batches (suc batches) id (length mid) (held ++ left_of u) ≡ ending)
    → (batches : ℕ) → drain_batches (suc batches) id (length mid) (held ++ s.rest) ≡ ending
here profile held0 held t now old mid id ending s content = λ batches.
    let u : Traffic = with_left s.rest (wrote (batch_requests profile second_id s.turns) t) in
    let there : (b : ℕ) → drain_batches (suc b) id (length mid) (held ++ left_of u) ≡ ending =
    subst (λ (x : Option Traffic). IfSome x (λ (v : Traffic).
    (b : ℕ) → drain_batches (suc b) id (length mid) (held ++ left_of v) ≡ ending)) s.wire content in
    ap (λ (x : List ℕ). drain_batches (suc batches) id (length mid) (held ++ x)) (sym s.left) ∙ there batches

pub ends_refused : (profile : Iiop) (held0 held held_after : List ℕ) (before now after : Option Traffic) (f0 f1 f2 : ℕ)
    (old mid new : List Offer) (id : ℕ) (answer : Answered) → Came profile held0 held before now f0 f1 old mid id
    → DrainsInTurn profile id held held_after now after f1 f2 mid new (Ok (Refused answer))
    → Drains second_id most_batches held0 before f0 f2 old new (Ok (Some answer))
ends_refused profile held0 held held_after None now after f0 f1 f2 old mid new id answer came turned = tt
ends_refused profile held0 held held_after (Some t) now after f0 f1 f2 old mid new id answer came turned =
    ends_with profile held0 held t now old mid id (raised answer) came.most came.few came.stands
    (here profile held0 held t now old mid id (raised answer) came.stands turned)

pub ends_fault : (profile : Iiop) (held0 held held_after : List ℕ) (before now after : Option Traffic) (f0 f1 f2 : ℕ)
    (old mid new : List Offer) (id : ℕ) (e : PeerFault) → Came profile held0 held before now f0 f1 old mid id
    → DrainsInTurn profile id held held_after now after f1 f2 mid new (Err e)
    → Drains second_id most_batches held0 before f0 f2 old new (Err e)
ends_fault profile held0 held held_after None now after f0 f1 f2 old mid new id fault.Wire came turned =
    let later = came.later in
    elim turned [ inl rose ↦ inl (Rose-later f0 f1 f2 later rose) | inr ended ↦ inr tt ]
ends_fault profile held0 held held_after (Some t) now after f0 f1 f2 old mid new id fault.Wire came turned =
    let later = came.later in
    elim turned [
      | inl rose ↦ inl (Rose-later f0 f1 f2 later rose)
      | inr ended ↦ inr (ends_with profile held0 held t now old mid id cut came.most came.few came.stands
          (here profile held0 held t now old mid id cut came.stands ended))
    ]
ends_fault profile held0 held held_after None now after f0 f1 f2 old mid new id fault.Grammar came turned = tt
ends_fault profile held0 held held_after (Some t) now after f0 f1 f2 old mid new id fault.Grammar came turned =
    ends_with profile held0 held t now old mid id unclear came.most came.few came.stands
    (here profile held0 held t now old mid id unclear came.stands turned)
ends_fault profile held0 held held_after before now after f0 f1 f2 old mid new id fault.Exception came turned =
    absurd turned
ends_fault profile held0 held held_after before now after f0 f1 f2 old mid new id fault.Memory came turned = tt

-- ---- the last batch, and the iterator's end

-- what destroy comes to
abbrev destroyed : (id : ℕ) → (left : List ℕ) → DrainEnd (List Offer)
destroyed id left = after_destroy (reply_value (outcome_in_reply destroy) id left)

-- what the whole draining comes to behind its last batch
last_with : (profile : Iiop) (held0 held held_after : List ℕ) (t : Traffic) (now then : Option Traffic) (old mid : List Offer)
    (id : ℕ) (offers : List Offer) (ending : DrainEnd (List Offer)) → length mid ≤ most_offers
    → id + length old ≤ second_id + length mid → (s : Stands profile held0 held t now old mid id)
    → (f : DrainFinishes profile id held held_after (with_left s.rest (wrote (batch_requests profile second_id s.turns) t)) then mid
    offers)
    → IfSome then (λ v. destroyed (id + 1) (held_after ++ left_of v) ≡ ending)
    → drain_batches most_batches second_id (length old) (held0 ++ left_of t) ≡ behind (s.offers ++ offers) ending
last_with profile held0 held held_after t now then old mid id offers ending most few s f content =
    let u : Traffic = with_left s.rest (wrote (batch_requests profile second_id s.turns) t) in
    let there : destroyed (id + 1) (held_after ++ left_of (with_left f.rest (wrote (request_of id profile next_batch) u)))
    ≡ ending =
    subst (λ (x : Option Traffic). IfSome x (λ (v : Traffic). destroyed (id + 1) (held_after ++ left_of v) ≡ ending))
    f.wire content in
    let end : destroyed (id + 1) (held_after ++ f.rest) ≡ ending =
    ap (λ (x : List ℕ). destroyed (id + 1) (held_after ++ x)) (sym f.left) ∙ there in
    ends_with profile held0 held t now old mid id (behind offers ending) most few s
    (λ batches.
    ap (λ (x : List ℕ). drain_batches (suc batches) id (length mid) (held ++ x)) (sym s.left) ∙ f.is batches
    ∙ ap (behind offers) end)
    ∙ behind_twice s.offers offers ending

last_whole : (profile : Iiop) (held0 held held_after : List ℕ) (t : Traffic) (now then : Option Traffic) (old mid new : List Offer)
    (id : ℕ) (offers : List Offer) → length mid ≤ most_offers → id + length old ≤ second_id + length mid
    → (s : Stands profile held0 held t now old mid id) → new ≡ mid ++ offers
    → (f : DrainFinishes profile id held held_after (with_left s.rest (wrote (batch_requests profile second_id s.turns) t)) then mid
    offers)
    → IfSome then (λ v. destroyed (id + 1) (held_after ++ left_of v) ≡ gave [])
    → (all : List Offer) × (new ≡ old ++ all)
    × (drain_batches most_batches second_id (length old) (held0 ++ left_of t) ≡ gave all)
last_whole profile held0 held held_after t now then old mid new id offers most few s is f content = (
  s.offers ++ offers,
  is ∙ ap (λ (x : List Offer). x ++ offers) s.joined ∙ append_assoc old s.offers offers,
  last_with profile held0 held held_after t now then old mid id offers (gave []) most few s f content
      ∙ ap (λ (x : List Offer). gave x) (append-nil (s.offers ++ offers)),
)

-- the traffic in which the last batch came, as the draining tells it
pub finish_here : (profile : Iiop) (held0 held held_after : List ℕ) (t : Traffic) (now then : Option Traffic) (old mid : List Offer)
    (id : ℕ) (offers : List Offer) (s : Stands profile held0 held t now old mid id)
    → IfSome now (λ u. DrainFinishes profile id held held_after u then mid offers)
    → DrainFinishes profile id held held_after (with_left s.rest (wrote (batch_requests profile second_id s.turns) t)) then mid
    offers
finish_here profile held0 held held_after t now then old mid id offers s f =
    subst (λ (x : Option Traffic). IfSome x (λ (v : Traffic). DrainFinishes profile id held held_after v then mid offers))
    s.wire f

content_part : (profile : Iiop) (id : ℕ) (held : List ℕ) (then after : Option Traffic) (f0 f1 : ℕ)
    → DestroysRemote profile id held then after f0 f1 (Ok None)
    → IfSome then (λ v. destroyed id (held ++ left_of v) ≡ gave [])
content_part profile id held None after f0 f1 d = tt
content_part profile id held (Some v) after f0 f1 d = d.2

pub ends_last : (profile : Iiop) (held0 held held_after : List ℕ) (before now then after : Option Traffic) (f0 f1 f2 f3 : ℕ)
    (old mid new : List Offer) (id : ℕ) (r : Result (Option Answered) PeerFault)
    → Came profile held0 held before now f0 f1 old mid id → f1 ≤ f2
    → DrainsInTurn profile id held held_after now then f1 f2 mid new (Ok Last)
    → DestroysRemote profile (id + 1) held_after then after f2 f3 r
    → Drains second_id most_batches held0 before f0 f3 old new r
ends_last profile held0 held held_after None now then after f0 f1 f2 f3 old mid new id (Ok None) c l tn d = tt
ends_last profile held0 held held_after (Some t) now then after f0 f1 f2 f3 old mid new id (Ok None) c l tn d =
    last_whole profile held0 held held_after t now then old mid new id tn.0 c.most c.few c.stands
    tn.1 (finish_here profile held0 held held_after t now then old mid id tn.0 c.stands tn.2)
    (content_part profile (id + 1) held_after then after f2 f3 d)
ends_last profile held0 held held_after None now then after f0 f1 f2 f3 old mid new id (Ok (Some a)) c l tn d =
    tt
ends_last profile held0 held held_after (Some t) now then after f0 f1 f2 f3 old mid new id (Ok (Some a)) c l tn d =
    last_with profile held0 held held_after t now then old mid id tn.0 (raised a) c.most c.few c.stands
    (finish_here profile held0 held held_after t now then old mid id tn.0 c.stands tn.2) d
ends_last profile held0 held held_after None now then after f0 f1 f2 f3 old mid new id (Err fault.Wire) c l tn d =
    let first = c.later in
    elim d [ inl rose ↦ inl (Rose-later f0 f2 f3 (omega (arith, first, l)) rose) | inr ended ↦ inr tt ]
ends_last profile held0 held held_after (Some t) now then after f0 f1 f2 f3 old mid new id (Err fault.Wire) c l tn d =
    let first = c.later in
    elim d [
      | inl rose ↦ inl (Rose-later f0 f2 f3 (omega (arith, first, l)) rose)
      | inr ended ↦ inr (last_with profile held0 held held_after t now then old mid id tn.0 cut c.most c.few c.stands
          (finish_here profile held0 held held_after t now then old mid id tn.0 c.stands tn.2) ended)
    ]
ends_last profile held0 held held_after None now then after f0 f1 f2 f3 old mid new id (Err fault.Grammar) c l tn d =
    tt
ends_last profile held0 held held_after (Some t) now then after f0 f1 f2 f3 old mid new id (Err fault.Grammar) c l tn d =
    last_with profile held0 held held_after t now then old mid id tn.0 unclear c.most c.few c.stands
    (finish_here profile held0 held held_after t now then old mid id tn.0 c.stands tn.2) d
ends_last profile held0 held held_after before now then after f0 f1 f2 f3 old mid new id (Err fault.Exception) c l tn d =
    absurd d
ends_last profile held0 held held_after before now then after f0 f1 f2 f3 old mid new id (Err fault.Memory) c l tn d =
    tt
