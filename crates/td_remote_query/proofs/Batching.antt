-- One batch of an iterator.
use Rattle.std.proofs.Common.{◌≡◌, ◌∙◌, inl, inr, ℕ, suc, ◌+◌, ◌<◌, ◌≤◌, ◌&&◌, Bool, true, false, cond}
use Rattle.std.proofs.Common.{List, [], ◌∷◌, ◌++◌, drop, length, Option, Some, None, Result, Ok, Err, refl, sym}
use Rattle.std.proofs.Common.{ap, arith, leb-true, length-append, nat_le}
use Rattle.td_giop.proofs.Cond.{both_true}
use Rattle.std.specs.List.{list_all}
use Rattle.std.specs.Prelude.{◌↔◌, IsTrue}
use Rattle.td_ior.specs.declared.profile.Iiop.{Iiop}
use Rattle.td_ops.specs.declared.outcome.Answered.{Answered}
use Rattle.td_ops.specs.declared.outcome.Answered.TheVariants.{Done}
use Rattle.td_ops.specs.declared.outcome.Reply.TheVariants.{Batch}
use Rattle.td_value.specs.declared.structures.Offer.{Offer}
use Rattle.td_walk.specs.declared.fault.PeerFault.{PeerFault}
use Rattle.td_walk.specs.declared.fault.PeerFault.TheVariants as fault
use Rattle.td_wire.specs.Connections.{Traffic, left_of}
use Rattle.td_call.specs.Fetching.{Exchanges}
use Rattle.td_call.specs.Readings.{outcome_in_reply}
use Rattle.td_call.specs.Replies.{ReplyResult, content, reply_value}
use Rattle.td_call.specs.Requests.{request_of}
use Rattle.td_remote_query.specs.Draining.{DrainEnd, unclear, behind, behind_batch, batch_ends}
use Rattle.td_remote_query.specs.Draining.{after_batch, after_destroy, batch_length, batches_asked, batches_behind}
use Rattle.td_remote_query.specs.Draining.{destroy, destroy_ends, drain_batches, goes_on, has_next, is_small, may_join}
use Rattle.td_remote_query.specs.Draining.{most_offers, next_batch}
use Rattle.td_remote_query.specs.Turns.{AfterDestroy, DestroysRemote, Grew, Joins, TakesBatch, DrainsInTurn}
use Rattle.td_remote_query.specs.declared.draining.Turn.{Turn}
use Rattle.td_remote_query.specs.declared.draining.Turn.TheVariants.{More, Last, Refused}

-- ---- offers that join

pub few_join : (count : ℕ) (offers : List Offer) → may_join count offers ≡ true → count + length offers ≤ most_offers
unfolding may_join
few_join count offers e =
    leb-true (count + length offers) most_offers
    (both_true (nat_le (count + length offers) most_offers) (list_all is_small offers) e).0

choice : (b : Bool) (x : DrainEnd (List Offer)) → b ≡ true → cond b x unclear ≡ x
choice b x e = ap (λ (v : Bool). cond v x unclear) e

pub last_batch : (count : ℕ) (offers : List Offer) (last next : DrainEnd (List Offer)) → may_join count offers ≡ true
    → batch_ends count false offers last next ≡ behind offers last
last_batch count offers last next e = choice (may_join count offers) (behind offers last) e

pub empty_batch : (count : ℕ) (offers : List Offer) (last next : DrainEnd (List Offer)) → may_join count offers ≡ true
    → offers ≡ [] → batch_ends count true offers last next ≡ unclear
empty_batch count offers last next e none =
    choice (may_join count offers) (behind offers (behind_batch true offers last next)) e
    ∙ ap (λ (os : List Offer). behind os (behind_batch true os last next)) none

pub next_batch_joins : (count : ℕ) (offers : List Offer) (last next : DrainEnd (List Offer)) → may_join count offers ≡ true
    → (offers ≡ [] → ⊥) → batch_ends count true offers last next ≡ behind offers next
next_batch_joins count [] last next e some = absurd (some refl)
next_batch_joins count (o ∷ offers) last next e some =
    choice (may_join count (o ∷ offers)) (behind (o ∷ offers) next) e

-- another batch follows one that joins and isn't empty
pub next_follows : (count : ℕ) (offers : List Offer) → may_join count offers ≡ true → (offers ≡ [] → ⊥)
    → has_next true offers && may_join count offers ≡ true
next_follows count [] e some = absurd (some refl)
next_follows count (o ∷ offers) e some = e

some_offers : (offers : List Offer) → (offers ≡ [] → ⊥) → 0 < length offers
some_offers [] some = absurd (some refl)
some_offers (o ∷ offers) some = omega arith

pub grew : (old new offers : List Offer) → may_join (length old) offers ≡ true → (offers ≡ [] → ⊥)
    → new ≡ old ++ offers → Grew old new offers
grew old new offers e some is =
    let size : length new ≡ length old + length offers = ap (length {A = Offer}) is ∙ length-append old offers in
    let one = some_offers offers some in
    let few = few_join (length old) offers e in
    record { is = is; some = omega (arith, size, one); most = omega (arith, size, few) }

pub none_there : (b : Bool) (offers : List Offer) → (IsTrue b ↔ (offers ≡ [])) → b ≡ true → offers ≡ []
none_there true offers h e = h.0 refl
none_there false offers h e = absurd cc

pub some_there : (b : Bool) (offers : List Offer) → (IsTrue b ↔ (offers ≡ [])) → b ≡ false → offers ≡ [] → ⊥
some_there true offers h e none = cc
some_there false offers h e none = let t : false ≡ true = h.1 none in cc

pub takes_batch : (more : Bool) (offers old new : List Offer) (r : Result Turn PeerFault)
    → Joins more offers old new r → TakesBatch (Done (Batch more offers)) old new r
takes_batch more offers old new (Ok More) j = (offers, j.2, refl, j.1, j.0)
takes_batch more offers old new (Ok Last) j = (offers, j.2, j.1, j.0)
takes_batch more offers old new (Ok (Refused answer)) j = absurd j
takes_batch more offers old new (Err fault.Wire) j = absurd j
takes_batch more offers old new (Err fault.Grammar) j = j
takes_batch more offers old new (Err fault.Exception) j = absurd j
takes_batch more offers old new (Err fault.Memory) j = tt

-- ---- an exchange with the iterator

-- how many batches are asked for, where this reply came
pub asked_behind : (next : (count : ℕ) → (given : List ℕ) → ℕ) (count size : ℕ) (given : List ℕ) (answer : Answered)
    (goes : Bool) (comes : ReplyResult Answered) → comes ≡ content answer size → goes_on count answer ≡ goes
    → suc (batches_behind next count given comes)
    ≡ suc (cond goes (next (count + batch_length answer) (drop size given)) 0)
asked_behind next count size given answer goes comes is follows =
    ap (λ (x : ReplyResult Answered). suc (batches_behind next count given x)) is
    ∙ ap (λ (b : Bool). suc (cond b (next (count + batch_length answer) (drop size given)) 0)) follows

pub turned : (profile : Iiop) (id : ℕ) (held held_after : List ℕ) (before after : Option Traffic) (f0 f1 : ℕ)
    (old new : List Offer) (answer : Answered) (r : Result Turn PeerFault)
    → Exchanges (outcome_in_reply next_batch) id (request_of id profile next_batch) held held_after before after f0 f1
    (Ok answer)
    → TakesBatch answer old new r → DrainsInTurn profile id held held_after before after f0 f1 old new r
unfolding drain_batches batches_asked
turned profile id held held_after None after f0 f1 old new answer (Ok More) x taken = (taken.0, taken.1, tt)
turned profile id held held_after (Some t) after f0 f1 old new answer (Ok More) x taken =
    let grows : length new ≡ length old + batch_length answer =
    ap (length {A = Offer}) taken.1.is ∙ length-append old taken.0
    ∙ ap (λ (n : ℕ). length old + n) (sym taken.2) in (
      taken.0,
      taken.1,
      record {
        rest = x.rest;
        wire = x.wire;
        left = x.left;
        is = λ batches.
            ap (after_batch (drain_batches batches (id + 1)) id (length old) (held ++ left_of t)) x.is
            ∙ taken.4 _ _
            ∙ (λ i. behind taken.0 (drain_batches batches (id + 1) (sym grows i) (sym x.behind i)));
        asks = λ batches.
            asked_behind (batches_asked batches (id + 1)) (length old) x.size (held ++ left_of t) answer true _ x.is
            taken.3
            ∙ (λ i. suc (batches_asked batches (id + 1) (sym grows i) (sym x.behind i)));
      },
    )
turned profile id held held_after None after f0 f1 old new answer (Ok Last) x taken = (taken.0, taken.1, tt)
turned profile id held held_after (Some t) after f0 f1 old new answer (Ok Last) x taken = (
  taken.0,
  taken.1,
  record {
    rest = x.rest;
    wire = x.wire;
    left = x.left;
    is = λ batches.
        ap (after_batch (drain_batches batches (id + 1)) id (length old) (held ++ left_of t)) x.is
        ∙ taken.3 _ _
        ∙ ap (λ (left : List ℕ). behind taken.0 (after_destroy (reply_value (outcome_in_reply destroy) (id + 1) left)))
        (sym x.behind);
    asks = λ batches.
        asked_behind (batches_asked batches (id + 1)) (length old) x.size (held ++ left_of t) answer false _ x.is
        taken.2;
  },
)
turned profile id held held_after None after f0 f1 old new answer (Ok (Refused other)) x taken = tt
turned profile id held held_after (Some t) after f0 f1 old new answer (Ok (Refused other)) x taken =
    λ batches. ap (after_batch (drain_batches batches (id + 1)) id (length old) (held ++ left_of t)) x.is ∙ taken _ _
turned profile id held held_after before after f0 f1 old new answer (Err fault.Wire) x taken = absurd taken
turned profile id held held_after None after f0 f1 old new answer (Err fault.Grammar) x taken = tt
turned profile id held held_after (Some t) after f0 f1 old new answer (Err fault.Grammar) x taken =
    λ batches. ap (after_batch (drain_batches batches (id + 1)) id (length old) (held ++ left_of t)) x.is ∙ taken _ _
turned profile id held held_after before after f0 f1 old new answer (Err fault.Exception) x taken = absurd taken
turned profile id held held_after before after f0 f1 old new answer (Err fault.Memory) x taken = tt

pub unturned : (profile : Iiop) (id : ℕ) (held held_after : List ℕ) (before after : Option Traffic) (f0 f1 : ℕ)
    (old new : List Offer) (e : PeerFault)
    → Exchanges (outcome_in_reply next_batch) id (request_of id profile next_batch) held held_after before after f0 f1
    (Err e)
    → DrainsInTurn profile id held held_after before after f0 f1 old new (Err e)
unfolding drain_batches
unturned profile id held held_after None after f0 f1 old new fault.Wire x =
    elim x [ inl rose ↦ inl rose | inr ended ↦ inr tt ]
unturned profile id held held_after (Some t) after f0 f1 old new fault.Wire x =
    elim x [
      | inl rose ↦ inl rose
      | inr ended ↦ inr (λ batches.
          ap (after_batch (drain_batches batches (id + 1)) id (length old) (held ++ left_of t)) ended)
    ]
unturned profile id held held_after None after f0 f1 old new fault.Grammar x = tt
unturned profile id held held_after (Some t) after f0 f1 old new fault.Grammar x =
    λ batches. ap (after_batch (drain_batches batches (id + 1)) id (length old) (held ++ left_of t)) x
unturned profile id held held_after before after f0 f1 old new fault.Exception x = absurd x
unturned profile id held held_after before after f0 f1 old new fault.Memory x = tt

-- ---- the iterator is destroyed

pub destroyed_so : (profile : Iiop) (id : ℕ) (held held_after : List ℕ) (before after : Option Traffic) (f0 f1 : ℕ)
    (answer : Answered) (r : Result (Option Answered) PeerFault)
    → Exchanges (outcome_in_reply destroy) id (request_of id profile destroy) held held_after before after f0 f1 (Ok answer)
    → AfterDestroy (destroy_ends answer) r → DestroysRemote profile id held before after f0 f1 r
destroyed_so profile id held held_after None after f0 f1 answer (Ok None) x d = tt
destroyed_so profile id held held_after (Some t) after f0 f1 answer (Ok None) x d =
    (x.rest, x.wire, ap after_destroy x.is ∙ d)
destroyed_so profile id held held_after None after f0 f1 answer (Ok (Some other)) x d = tt
destroyed_so profile id held held_after (Some t) after f0 f1 answer (Ok (Some other)) x d = ap after_destroy x.is ∙ d
destroyed_so profile id held held_after before after f0 f1 answer (Err fault.Wire) x d = absurd d
destroyed_so profile id held held_after None after f0 f1 answer (Err fault.Grammar) x d = tt
destroyed_so profile id held held_after (Some t) after f0 f1 answer (Err fault.Grammar) x d = ap after_destroy x.is ∙ d
destroyed_so profile id held held_after before after f0 f1 answer (Err fault.Exception) x d = absurd d
destroyed_so profile id held held_after before after f0 f1 answer (Err fault.Memory) x d = absurd d

pub undestroyed : (profile : Iiop) (id : ℕ) (held held_after : List ℕ) (before after : Option Traffic) (f0 f1 : ℕ)
    (e : PeerFault)
    → Exchanges (outcome_in_reply destroy) id (request_of id profile destroy) held held_after before after f0 f1 (Err e)
    → DestroysRemote profile id held before after f0 f1 (Err e)
undestroyed profile id held held_after None after f0 f1 fault.Wire x =
    elim x [ inl rose ↦ inl rose | inr ended ↦ inr tt ]
undestroyed profile id held held_after (Some t) after f0 f1 fault.Wire x =
    elim x [ inl rose ↦ inl rose | inr ended ↦ inr (ap after_destroy ended) ]
undestroyed profile id held held_after None after f0 f1 fault.Grammar x = tt
undestroyed profile id held held_after (Some t) after f0 f1 fault.Grammar x = ap after_destroy x
undestroyed profile id held held_after before after f0 f1 fault.Exception x = absurd x
undestroyed profile id held held_after before after f0 f1 fault.Memory x = tt
