-- How a query ends: an exception that ends it is one.
use Rattle.std.proofs.Common.{◌≡◌, ℕ, zero, suc, ◌+◌, Bool, true, false, cond, refl, List, [], ◌∷◌, length, drop}
use Rattle.std.proofs.Common.{Option, Some, None, subst}
use Rattle.std.specs.Prelude.{⊤}
use Rattle.td_typecode.specs.declared.reference.Ior.{Ior}
use Rattle.td_ior.specs.Profiles.{iiop_of}
use Rattle.td_ior.specs.declared.profile.Iiop.{Iiop}
use Rattle.td_ior.specs.Nil.{is_nil}
use Rattle.td_ops.specs.declared.call.Call.{Call}
use Rattle.td_ops.specs.declared.outcome.Answered.{Answered}
use Rattle.td_ops.specs.declared.outcome.Answered.TheVariants.{Done, User, System}
use Rattle.td_ops.specs.declared.outcome.Reply.TheVariants as reply
use Rattle.td_value.specs.declared.structures.Offer.{Offer}
use Rattle.td_call.specs.Calling.{first_id}
use Rattle.td_call.specs.Readings.{outcome_in_reply}
use Rattle.td_call.specs.Replies.{ReplyResult, content, strange, short, reply_value}
use Rattle.td_remote_query.specs.Querying.{FirstPart, after_query, query_answer, asked_first, drain_rest}
use Rattle.td_remote_query.specs.Querying.{drained_behind, elsewhere}
use Rattle.td_remote_query.specs.Querying.{ends, found_ends, is_at, drain_iterator, left_ends, most_batches, query_ends}
use Rattle.td_remote_query.specs.Querying.{second_id}
use Rattle.td_remote_query.specs.Querying.{with_limits}
use Rattle.td_remote_query.specs.Draining.{DrainEnd, gave, raised, unclear, cut, after_batch, after_destroy}
use Rattle.td_remote_query.specs.Draining.{answer_ends}
use Rattle.td_remote_query.specs.Draining.{batch_length, behind, behind_batch, destroy, destroy_ends, drain_batches}
use Rattle.td_remote_query.specs.Draining.{may_join, next_batch}
use Rattle.td_walk.specs.declared.answer.SubAnswer.{SubAnswer}
use Rattle.td_cli_program.proofs.Results.{HasLines}

abbrev pub EndsLined : {A : Type 0} → DrainEnd A → Type 0
EndsLined (gave a) = ⊤
EndsLined (raised answer) = HasLines answer
EndsLined unclear = ⊤
EndsLined cut = ⊤

chosen : {A : Type 0} (b : Bool) (x : DrainEnd A) → EndsLined x → EndsLined (cond b x unclear)
chosen true x p = p
chosen false x p = tt

behind_lined : (offers : List Offer) (e : DrainEnd (List Offer)) → EndsLined e → EndsLined (behind offers e)
behind_lined offers (gave more) p = tt
behind_lined offers (raised answer) p = p
behind_lined offers unclear p = tt
behind_lined offers cut p = tt

limits_lined : (limits : List (List ℕ)) (e : DrainEnd (List Offer)) → EndsLined e → EndsLined (with_limits limits e)
limits_lined limits (gave offers) p = tt
limits_lined limits (raised answer) p = p
limits_lined limits unclear p = tt
limits_lined limits cut p = tt

-- ---- the iterator

destroy_lined : (a : Answered) → EndsLined (destroy_ends a)
destroy_lined (Done reply.Nothing) = tt
destroy_lined (Done (reply.Id x)) = tt
destroy_lined (Done (reply.Number x)) = tt
destroy_lined (Done (reply.Truth x)) = tt
destroy_lined (Done (reply.Reference x)) = tt
destroy_lined (Done (reply.Follow x)) = tt
destroy_lined (Done (reply.Stem x)) = tt
destroy_lined (Done (reply.Incarnation x)) = tt
destroy_lined (Done (reply.Names x)) = tt
destroy_lined (Done (reply.Offer x)) = tt
destroy_lined (Done (reply.Link x)) = tt
destroy_lined (Done (reply.Proxy x)) = tt
destroy_lined (Done (reply.Typed x)) = tt
destroy_lined (Done (reply.Found x y z)) = tt
destroy_lined (Done (reply.Ids x y)) = tt
destroy_lined (Done (reply.Batch x y)) = tt
destroy_lined (Done (reply.IdBatch x y)) = tt
destroy_lined (User id) = refl
destroy_lined (System id minor completion) = refl

destroyed_lined : (x : ReplyResult Answered) → EndsLined (after_destroy x)
destroyed_lined (content a size) = destroy_lined a
destroyed_lined strange = tt
destroyed_lined short = tt

next_lined : (more : Bool) (offers : List Offer) (last next : DrainEnd (List Offer)) → EndsLined last → EndsLined next
    → EndsLined (behind_batch more offers last next)
next_lined false offers last next p q = p
next_lined true [] last next p q = tt
next_lined true (o ∷ offers) last next p q = q

batch_lined : (count : ℕ) (a : Answered) (last next : DrainEnd (List Offer)) → EndsLined last → EndsLined next
    → EndsLined (answer_ends count a last next)
batch_lined count (Done (reply.Batch more offers)) last next p q =
    chosen (may_join count offers) (behind offers (behind_batch more offers last next))
    (behind_lined offers (behind_batch more offers last next) (next_lined more offers last next p q))
batch_lined count (Done reply.Nothing) last next p q = tt
batch_lined count (Done (reply.Id x)) last next p q = tt
batch_lined count (Done (reply.Number x)) last next p q = tt
batch_lined count (Done (reply.Truth x)) last next p q = tt
batch_lined count (Done (reply.Reference x)) last next p q = tt
batch_lined count (Done (reply.Follow x)) last next p q = tt
batch_lined count (Done (reply.Stem x)) last next p q = tt
batch_lined count (Done (reply.Incarnation x)) last next p q = tt
batch_lined count (Done (reply.Names x)) last next p q = tt
batch_lined count (Done (reply.Offer x)) last next p q = tt
batch_lined count (Done (reply.Link x)) last next p q = tt
batch_lined count (Done (reply.Proxy x)) last next p q = tt
batch_lined count (Done (reply.Typed x)) last next p q = tt
batch_lined count (Done (reply.Found x y z)) last next p q = tt
batch_lined count (Done (reply.Ids x y)) last next p q = tt
batch_lined count (Done (reply.IdBatch x y)) last next p q = tt
batch_lined count (User id) last next p q = refl
batch_lined count (System id minor completion) last next p q = refl

turn_lined : (next : (count : ℕ) → (given : List ℕ) → DrainEnd (List Offer)) (id count : ℕ) (given : List ℕ)
    → ((count : ℕ) (given : List ℕ) → EndsLined (next count given)) → (x : ReplyResult Answered)
    → EndsLined (after_batch next id count given x)
turn_lined next id count given h (content a size) =
    batch_lined count a _ _ (destroyed_lined (reply_value (outcome_in_reply destroy) (id + 1) (drop size given)))
    (h (count + batch_length a) (drop size given))
turn_lined next id count given h strange = tt
turn_lined next id count given h short = tt

drained_lined : (batches id count : ℕ) (given : List ℕ) → EndsLined (drain_batches batches id count given)
unfolding drain_batches
drained_lined zero id count given = tt
drained_lined (suc batches) id count given =
    turn_lined (drain_batches batches (id + 1)) id count given (drained_lined batches (id + 1))
    (reply_value (outcome_in_reply next_batch) id given)

-- ---- the query

-- a part that is the end is one
abbrev pub PartLined : FirstPart → Type 0
PartLined (ends e) = EndsLined e
PartLined (elsewhere p found) = ⊤

chosen_part : (b : Bool) (x : FirstPart) → PartLined x → PartLined (cond b x (ends unclear))
chosen_part true x p = p
chosen_part false x p = tt

drained_behind_lined : (found : SubAnswer) (given : List ℕ) → EndsLined (drained_behind found given)
drained_behind_lined found given =
    let more = drain_batches most_batches second_id (length found.offers) given in
    limits_lined found.limits (behind found.offers more)
    (behind_lined found.offers more (drained_lined most_batches second_id (length found.offers) given))

at_lined : (b : Bool) (p : Iiop) (found : SubAnswer) (left : List ℕ)
    → PartLined (cond b (ends (drained_behind found left)) (elsewhere p found))
at_lined true p found left = drained_behind_lined found left
at_lined false p found left = tt

iterated_lined : (trader : Iiop) (o : Option Iiop) (found : SubAnswer) (left : List ℕ)
    → PartLined (drain_iterator trader o found left)
iterated_lined trader (Some p) found left = at_lined (is_at trader p) p found left
iterated_lined trader None found left = tt

left_lined : (b : Bool) (trader : Iiop) (o : Option Iiop) (found : SubAnswer) (left : List ℕ)
    → PartLined (cond b (ends (gave found)) (drain_iterator trader o found left))
left_lined true trader o found left = tt
left_lined false trader o found left = iterated_lined trader o found left

found_lined : (trader : Iiop) (iterator : Ior) (found : SubAnswer) (left : List ℕ)
    → PartLined (found_ends trader iterator found left)
found_lined trader iterator found left =
    chosen_part (may_join 0 found.offers) (left_ends trader iterator found left)
    (left_lined (is_nil iterator) trader (iiop_of iterator) found left)

query_lined : (trader : Iiop) (a : Answered) (left : List ℕ) → PartLined (query_ends trader a left)
query_lined trader (Done (reply.Found offers iterator limits)) left =
    found_lined trader iterator (record { offers = offers; limits = limits }) left
query_lined trader (Done reply.Nothing) left = tt
query_lined trader (Done (reply.Id x)) left = tt
query_lined trader (Done (reply.Number x)) left = tt
query_lined trader (Done (reply.Truth x)) left = tt
query_lined trader (Done (reply.Reference x)) left = tt
query_lined trader (Done (reply.Follow x)) left = tt
query_lined trader (Done (reply.Stem x)) left = tt
query_lined trader (Done (reply.Incarnation x)) left = tt
query_lined trader (Done (reply.Names x)) left = tt
query_lined trader (Done (reply.Offer x)) left = tt
query_lined trader (Done (reply.Link x)) left = tt
query_lined trader (Done (reply.Proxy x)) left = tt
query_lined trader (Done (reply.Typed x)) left = tt
query_lined trader (Done (reply.Ids x y)) left = tt
query_lined trader (Done (reply.Batch x y)) left = tt
query_lined trader (Done (reply.IdBatch x y)) left = tt
query_lined trader (User id) left = refl
query_lined trader (System id minor completion) left = refl

after_lined : (trader : Iiop) (given : List ℕ) (x : ReplyResult Answered) → PartLined (after_query trader given x)
after_lined trader given (content a size) = query_lined trader a (drop size given)
after_lined trader given strange = tt
after_lined trader given short = tt

completed_lined : (x : FirstPart) (next : List ℕ) → PartLined x → EndsLined (drain_rest x next)
completed_lined (ends e) next p = p
completed_lined (elsewhere q found) next p = drained_behind_lined found next

-- the exception that a query ends with
pub raised_lined : (trader : Iiop) (c : Call) (given next : List ℕ) (a : Answered)
    → query_answer trader c given next ≡ raised a → HasLines a
raised_lined trader c given next a e =
    subst (λ (x : DrainEnd SubAnswer). EndsLined x) e
    (completed_lined (asked_first trader c given) next
    (after_lined trader given (reply_value (outcome_in_reply c) first_id given)))
