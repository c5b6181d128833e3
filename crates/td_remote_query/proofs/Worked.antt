-- Worked examples.
use Rattle.std.proofs.Common.{◌≡◌, ◌∙◌, ℕ, suc, true, false, Bool, cond, List, [], ◌∷◌, ◌++◌, drop, Option}
use Rattle.std.proofs.Common.{◌+◌, ap, append-nil, append_assoc, arith, refl}
use Rattle.td_typecode.specs.declared.reference.Ior.{Ior}
use Rattle.td_ior.specs.declared.profile.Iiop.{Iiop}
use Rattle.td_ior.specs.Profiles.{iiop_of}
use Rattle.td_ops.specs.declared.call.Call.{Call}
use Rattle.td_ops.specs.declared.outcome.Answered.{Answered}
use Rattle.td_ops.specs.declared.outcome.Answered.TheVariants.{Done}
use Rattle.td_ops.specs.declared.outcome.Reply.TheVariants.{Batch, Nothing}
use Rattle.td_value.specs.declared.structures.Offer.{Offer}
use Rattle.td_walk.specs.declared.answer.SubAnswer.{SubAnswer}
use Rattle.td_call.specs.Calling.{first_id}
use Rattle.td_call.specs.Replies.{ReplyResult, content, reply_value}
use Rattle.td_call.specs.Readings.{outcome_in_reply}
use Rattle.td_call.specs.Requests.{request_of}
use Rattle.td_remote_query.specs.Querying.{FirstPart, after_query, asked_first, asked_requests, drain_rest}
use Rattle.td_remote_query.specs.Querying.{drained_behind}
use Rattle.td_remote_query.specs.Querying.{elsewhere, ends, drain_iterator, iterator_requests, left_ends, left_requests}
use Rattle.td_remote_query.specs.Querying.{most_batches}
use Rattle.td_remote_query.specs.Querying.{requests_behind, requests_here, second_id, with_limits}
use Rattle.td_remote_query.specs.Draining.{DrainEnd, after_batch, after_destroy, batch_length, batches_asked, behind}
use Rattle.td_remote_query.specs.Draining.{destroy}
use Rattle.td_remote_query.specs.Draining.{drain_requests, drain_batches, gave, goes_on, may_join, next_batch, unclear}
use Rattle.td_remote_query.specs.Examples.{FindsElsewhere, GivesBatches, GivesLast, WorkedBatches, WorkedElsewhere}
use Rattle.td_remote_query.specs.Examples.{WorkedException, WorkedNil, WorkedPlaces}
use Rattle.td_remote_query.proofs.Batching.{asked_behind}

pub no_iterator : (trader : Iiop) (c : Call) (given : List ℕ) (size : ℕ) → WorkedNil trader c given size
unfolding may_join
no_iterator trader c given size is =
    ap (λ (x : ReplyResult Answered). request_of first_id trader c ++ requests_behind trader given x) is
    ∙ append-nil (request_of first_id trader c)

pub exception : (trader : Iiop) (c : Call) (given : List ℕ) (size : ℕ) (id : List ℕ)
    → WorkedException trader c given size id
exception trader c given size id is =
    ap (λ (x : ReplyResult Answered). request_of first_id trader c ++ requests_behind trader given x) is
    ∙ append-nil (request_of first_id trader c)

-- how many batches are asked for: one, and those behind its reply
step : (batches id count size : ℕ) (given : List ℕ) (answer : Answered) (goes : Bool)
    → reply_value (outcome_in_reply next_batch) id given ≡ content answer size → goes_on count answer ≡ goes
    → batches_asked (suc batches) id count given
    ≡ suc (cond goes (batches_asked batches (id + 1) (count + batch_length answer) (drop size given)) 0)
unfolding batches_asked
step batches id count size given answer goes is follows =
    asked_behind (batches_asked batches (id + 1)) count size given answer goes
    (reply_value (outcome_in_reply next_batch) id given) is follows

two : (most : ℕ) (trader : Iiop) (c : Call) (given : List ℕ) (p : Iiop) (iterator : Ior) (o : Offer)
    (g : GivesBatches trader c given p iterator o)
    → batches_asked (suc (suc most)) second_id 0 (drop g.reply given) ≡ 2
two most trader c given p iterator o g =
    step (suc most) second_id 0 g.batch (drop g.reply given) (Done (Batch true (o ∷ []))) true g.first g.small
    ∙ ap (λ (n : ℕ). suc n)
    (step most 3 1 g.end (drop g.batch (drop g.reply given)) (Done (Batch false [])) false g.last refl)

two_in_all : (trader : Iiop) (c : Call) (given : List ℕ) (p : Iiop) (iterator : Ior) (o : Offer)
    (g : GivesBatches trader c given p iterator o)
    → batches_asked most_batches second_id 0 (drop g.reply given) ≡ 2
two_in_all trader c given p iterator o g =
    let most : most_batches ≡ suc (suc 999999) = omega arith in
    ap (λ (n : ℕ). batches_asked n second_id 0 (drop g.reply given)) most ∙ two 999999 trader c given p iterator o g

pub batches : (trader : Iiop) (c : Call) (given : List ℕ) (p : Iiop) (iterator : Ior) (o : Offer)
    → WorkedBatches trader c given p iterator o
unfolding may_join
batches trader c given p iterator o g =
    let first : List ℕ = request_of first_id trader c in
    ap (λ (x : ReplyResult Answered). first ++ requests_behind trader given x) g.found
    ∙ ap (λ (b : Bool). first ++ cond b [] (requests_here trader (iiop_of iterator) 0 (drop g.reply given))) g.some
    ∙ ap (λ (o : Option Iiop). first ++ requests_here trader o 0 (drop g.reply given)) g.profile
    ∙ ap (λ (b : Bool). first ++ cond b (iterator_requests p 0 (drop g.reply given)) []) g.here
    ∙ ap (λ (n : ℕ). first ++ drain_requests p second_id n) (two_in_all trader c given p iterator o g)
    ∙ ap (λ (x : List ℕ). first ++ x)
    (append_assoc (request_of 2 p next_batch) (request_of 3 p next_batch ++ []) (request_of 4 p destroy)
    ∙ ap (λ (x : List ℕ). request_of 2 p next_batch ++ (x ++ request_of 4 p destroy))
    (append-nil (request_of 3 p next_batch)))

-- ---- profiles

pub places : WorkedPlaces
places = record { key = refl; port = refl; host = refl; bytes = refl }

-- ---- an iterator elsewhere

-- the first part
first_there : (trader : Iiop) (c : Call) (given : List ℕ) (p : Iiop) (iterator : Ior) (a : Offer)
    → FindsElsewhere trader c given p iterator a
    → asked_first trader c given ≡ elsewhere p (record { offers = a ∷ []; limits = [] })
first_there trader c given p iterator a f =
    let found : SubAnswer = record { offers = a ∷ []; limits = [] } in
    let left : List ℕ = drop f.reply given in
    ap (after_query trader given) f.found
    ∙ ap (λ (b : Bool). cond b (left_ends trader iterator found left) (ends unclear)) f.small
    ∙ ap (λ (b : Bool). cond b (ends (gave found)) (drain_iterator trader (iiop_of iterator) found left)) f.some
    ∙ ap (λ (o : Option Iiop). drain_iterator trader o found left) f.profile
    ∙ ap (λ (b : Bool). cond b (ends (drained_behind found left)) (elsewhere p found)) f.other

-- what the query's connection carries
query_alone : (trader : Iiop) (c : Call) (given : List ℕ) (p : Iiop) (iterator : Ior) (a : Offer)
    → FindsElsewhere trader c given p iterator a → asked_requests trader c given ≡ request_of 1 trader c
query_alone trader c given p iterator a f =
    let first : List ℕ = request_of first_id trader c in
    let left : List ℕ = drop f.reply given in
    ap (λ (x : ReplyResult Answered). first ++ requests_behind trader given x) f.found
    ∙ ap (λ (b : Bool). first ++ cond b (left_requests trader iterator 1 left) []) f.small
    ∙ ap (λ (b : Bool). first ++ cond b [] (requests_here trader (iiop_of iterator) 1 left)) f.some
    ∙ ap (λ (o : Option Iiop). first ++ requests_here trader o 1 left) f.profile
    ∙ ap (λ (b : Bool). first ++ cond b (iterator_requests p 1 left) []) f.other ∙ append-nil first

-- one batch, and what it comes to
one_batch : (batches id count size end : ℕ) (given : List ℕ) (b : Offer)
    → reply_value (outcome_in_reply next_batch) id given ≡ content (Done (Batch false (b ∷ []))) size
    → may_join count (b ∷ []) ≡ true
    → reply_value (outcome_in_reply destroy) (id + 1) (drop size given) ≡ content (Done Nothing) end
    → drain_batches (suc batches) id count given ≡ gave (b ∷ [])
unfolding drain_batches
one_batch batches id count size end given b is joins destroyed =
    let next = drain_batches batches (id + 1) (count + 1) (drop size given) in
    let last = after_destroy (reply_value (outcome_in_reply destroy) (id + 1) (drop size given)) in
    ap (after_batch (drain_batches batches (id + 1)) id count given) is
    ∙ ap (λ (x : Bool). cond x (behind (b ∷ []) last) unclear) joins
    ∙ ap (λ (x : ReplyResult Answered). behind (b ∷ []) (after_destroy x)) destroyed

drained_one : (next : List ℕ) (b : Offer) → GivesLast next b → drain_batches most_batches second_id 1 next ≡ gave (b ∷ [])
drained_one next b l =
    let most : most_batches ≡ suc 1000000 = omega arith in
    ap (λ (n : ℕ). drain_batches n second_id 1 next) most
    ∙ one_batch 1000000 second_id 1 l.batch l.end next b l.last l.small l.destroyed

asked_one : (next : List ℕ) (b : Offer) → GivesLast next b → batches_asked most_batches second_id 1 next ≡ 1
asked_one next b l =
    let most : most_batches ≡ suc 1000000 = omega arith in
    ap (λ (n : ℕ). batches_asked n second_id 1 next) most
    ∙ step 1000000 second_id 1 l.batch next (Done (Batch false (b ∷ []))) false l.last refl

pub another_place : (trader : Iiop) (c : Call) (given next : List ℕ) (p : Iiop) (iterator : Ior) (a b : Offer)
    → WorkedElsewhere trader c given next p iterator a b
another_place trader c given next p iterator a b f l =
    let first = first_there trader c given p iterator a f in (
      first,
      ap (λ (x : FirstPart). drain_rest x next) first
          ∙ ap (λ (x : DrainEnd (List Offer)). with_limits [] (behind (a ∷ []) x)) (drained_one next b l),
      query_alone trader c given p iterator a f,
      ap (λ (n : ℕ). drain_requests p second_id n) (asked_one next b l)
          ∙ ap (λ (x : List ℕ). x ++ request_of 3 p destroy) (append-nil (request_of 2 p next_batch)),
    )
