-- What the body of a reply tells: an exception, or a result of the operation's shape.
use Rattle.std.proofs.Common.{◌≡◌, ℕ, nat_eq, Bool, true, false, true≢false, refl, sym}
use Rattle.std.specs.Prelude.{IfOk, IfSome, is_some, ⊤, Result, Ok, Err}
use Rattle.td_cdr.specs.Place.{At}
use Rattle.td_cdr.specs.Reading.{◌>>=◌}
use Rattle.td_cdr.specs.Sound.{Sound, ◌&◌, either, sequence, text, ulong}
use Rattle.td_cdr.specs.declared.value_fault.ValueFault.{ValueFault}
use Rattle.td_value.specs.Structures.{incarnation_number, offer_info}
use Rattle.td_ops.specs.Answers.{answer_of, done_answer, no_answer, system_answer, user_answer}
use Rattle.td_ops.specs.Called.{operation_in}
use Rattle.td_ops.specs.Operations.{row}
use Rattle.td_ops.specs.Refusals.{reading_of}
use Rattle.td_ops.specs.Shapes.{results}
use Rattle.td_ops.specs.declared.call.Call.{Call}
use Rattle.td_ops.specs.declared.operation.Operation.{Operation}
use Rattle.td_ops.specs.declared.outcome.Answered.{Answered}
use Rattle.td_ops.specs.declared.outcome.Answered.TheVariants.{Done, User, System}
use Rattle.td_ops.specs.declared.outcome.Reply.TheVariants as reply
use Rattle.td_ops.specs.declared.shape.Shape.{Shape}
use Rattle.td_ops.specs.declared.shape.Shape.TheVariants as shape
use Rattle.td_call.specs.Readings.{outcome_in_reply, without_fault}
use Rattle.td_cli_printing.specs.Answers.{answer_lines}

abbrev pub HasLines : Answered → Type 0
HasLines a = is_some (answer_lines a) ≡ true

-- the shapes of the results that have lines
abbrev pub is_lined : Shape → Bool
is_lined shape.Nothing = true
is_lined shape.Id = true
is_lined shape.Incarnation = true
is_lined shape.Names = true
is_lined shape.Offer = true
is_lined other = false

-- ---- what holds of every value that is read

any_read : {F X : Type 0} (r : Result (X × At) F) → IfOk r (λ x. ⊤)
any_read (Ok x) = tt
any_read (Err e) = tt

made : {F X Y : Type 0} (P : Y → Type 0) (Q : X → Type 0) (to : X → Y) → ((x : X) → Q x → P (to x))
    → (r : Result (X × At) F) → IfOk r (λ x. Q x.0) → IfOk {T = Y × At} (r >>= λ x. Ok (to x.0, x.1)) (λ y. P y.0)
made P Q to h (Ok x) q = h x.0 q
made P Q to h (Err e) q = tt

one_of : (b : Bool) (g k : Sound ValueFault Answered) (a : At) → IfOk (g.format.reads a) (λ x. HasLines x.0)
    → IfOk (k.format.reads a) (λ x. HasLines x.0) → IfOk ((either b g k).format.reads a) (λ x. HasLines x.0)
one_of true g k a p q = p
one_of false g k a p q = q

-- ---- results

result_read : (s : Shape) (a : At) → is_lined s ≡ true → IfOk ((results s).format.reads a) (λ x. HasLines (Done x.0))
result_read shape.Nothing a e = refl
result_read shape.Id a e =
    made (λ r. HasLines (Done r)) (λ x. ⊤) (λ x. reply.Id x) (λ x q. refl) (text.format.reads a)
    (any_read (text.format.reads a))
result_read shape.Number a e = absurd (true≢false (sym e))
result_read shape.Truth a e = absurd (true≢false (sym e))
result_read shape.Reference a e = absurd (true≢false (sym e))
result_read shape.Follow a e = absurd (true≢false (sym e))
result_read shape.Stem a e = absurd (true≢false (sym e))
result_read shape.Incarnation a e =
    made (λ r. HasLines (Done r)) (λ x. ⊤) (λ x. reply.Incarnation x) (λ x q. refl) (incarnation_number.format.reads a)
    (any_read (incarnation_number.format.reads a))
result_read shape.Names a e =
    made (λ r. HasLines (Done r)) (λ x. ⊤) (λ x. reply.Names x) (λ x q. refl) ((sequence text).format.reads a)
    (any_read ((sequence text).format.reads a))
result_read shape.Offer a e =
    made (λ r. HasLines (Done r)) (λ x. ⊤) (λ x. reply.Offer x) (λ x q. refl) (offer_info.format.reads a)
    (any_read (offer_info.format.reads a))
result_read shape.Link a e = absurd (true≢false (sym e))
result_read shape.Proxy a e = absurd (true≢false (sym e))
result_read shape.Typed a e = absurd (true≢false (sym e))
result_read shape.Found a e = absurd (true≢false (sym e))
result_read shape.Ids a e = absurd (true≢false (sym e))
result_read shape.Batch a e = absurd (true≢false (sym e))
result_read shape.IdBatch a e = absurd (true≢false (sym e))

done_read : (s : Shape) (a : At) → is_lined s ≡ true → IfOk ((done_answer s).format.reads a) (λ x. HasLines x.0)
done_read s a e =
    made HasLines (λ r. HasLines (Done r)) (λ r. Done r) (λ r q. q) ((results s).format.reads a) (result_read s a e)

-- ---- exceptions

user_read : (a : At) → IfOk (user_answer.format.reads a) (λ x. HasLines x.0)
user_read a =
    made HasLines (λ x. ⊤) (λ id. User id) (λ id q. refl) (text.format.reads a) (any_read (text.format.reads a))

system_read : (a : At) → IfOk (system_answer.format.reads a) (λ x. HasLines x.0)
system_read a =
    made HasLines (λ x. ⊤) (λ p. System p.0 p.1.0 p.1.1) (λ p q. refl) ((text & ulong & ulong).format.reads a)
    (any_read ((text & ulong & ulong).format.reads a))

-- ---- both

answer_read : (o : Operation) (status : ℕ) (a : At) → is_lined (row o).result ≡ true
    → IfOk ((answer_of o status).format.reads a) (λ x. HasLines x.0)
answer_read o status a e =
    one_of (nat_eq status 0) (done_answer (row o).result) _ a (done_read (row o).result a e)
    (one_of (nat_eq status 1) user_answer _ a (user_read a)
    (one_of (nat_eq status 2) system_answer no_answer a (system_read a) tt))

content_read : (r : Result (Answered × At) ValueFault) → IfOk r (λ x. HasLines x.0)
    → IfSome (without_fault (reading_of r)) HasLines
content_read (Ok x) p = p
content_read (Err e) p = tt

-- what a reply to a call tells
pub outcome_lined : (c : Call) (status : ℕ) (a : At) → is_lined (row (operation_in c)).result ≡ true
    → IfSome (outcome_in_reply c status a) HasLines
outcome_lined c status a e =
    content_read ((answer_of (operation_in c) status).format.reads a) (answer_read (operation_in c) status a e)
