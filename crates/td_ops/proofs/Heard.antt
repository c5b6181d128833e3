-- What is written for an outcome is read as what a client is told of it.
use Rattle.std.proofs.Common.{◌≡◌, ℕ, ◌+◌, ◌-◌, ◌^◌, ◌<◌, ◌≤◌, List, ◌++◌, length, Ok, refl, sym, ap, ◌∙◌, arith}
use Rattle.std.proofs.Common.{length-append, append_assoc}
use Rattle.td_cdr.specs.Place.{At}
use Rattle.td_cdr.specs.Text.{HasNoNul}
use Rattle.td_cdr.specs.Reading.{after}
use Rattle.td_cdr.specs.Sound.{text}
use Rattle.td_cdr.specs.Lawful.{AreOctets}
use Rattle.td_cdr.specs.LawfulFormats.{read-admitted}
use Rattle.td_exceptions.specs.Exceptions.{row_of, user_id}
use Rattle.td_exceptions.proofs.NoNul.{user_id-clean}
use Rattle.td_ops.specs.declared.call.Call.{Call}
use Rattle.td_ops.specs.declared.operation.Operation.{Operation}
use Rattle.td_ops.specs.declared.outcome.SystemKind.{SystemKind}
use Rattle.td_ops.specs.declared.outcome.SystemKind.TheVariants as system
use Rattle.td_ops.specs.declared.outcome.Outcome.{Outcome}
use Rattle.td_ops.specs.declared.outcome.Outcome.TheVariants as outcome
use Rattle.td_ops.specs.declared.outcome.Answered.{Answered}
use Rattle.td_ops.specs.Called.{operation_in}
use Rattle.td_ops.specs.Refusals.{reading_of, ReadsWritable}
use Rattle.td_ops.specs.Outcomes.{system_id, outcome_piece, outcome_status}
use Rattle.td_ops.specs.Shapes.{shape_of}
use Rattle.td_ops.specs.Answers.{AdmitsOutcome, answer_of, client_answer, done_answer, outcome_read, system_answer}
use Rattle.td_ops.specs.Answers.{answer_piece}
use Rattle.td_ops.specs.Answers.{user_answer}

-- what was read of a reply is the answer
pub outcome-answered : (c : Call) (status : ℕ) (old new : At) (x : Answered) → old.origin ≤ old.place
    → AreOctets old.rest → (answer_of (operation_in c) status).format.reads old ≡ Ok (x, new)
    → ReadsWritable ((answer_of (operation_in c) status).format.admits) (outcome_read c status old) old new (Ok x)
outcome-answered c status old new x h octets is = record {
  gives = ap reading_of is;
  unchanged = tt;
  admitted =
      read-admitted (answer_of (operation_in c) status).format (answer_of (operation_in c) status).lawful old x new h
      octets is;
}

system_id-clean : (kind : SystemKind) → HasNoNul (system_id kind)
system_id-clean system.Marshal = refl
system_id-clean system.NoImplement = refl
system_id-clean system.BadOperation = refl
system_id-clean system.ObjectNotExist = refl
system_id-clean system.ImpLimit = refl
system_id-clean system.NoMemory = refl

-- what tells an outcome stands in front of it
telling-front : (o : Outcome) (a : At) (rest : List ℕ) → a.rest ≡ outcome_piece o a.order (a.place - a.origin) ++ rest
    → (behind : List ℕ) × (a.rest ≡ answer_piece o a.order (a.place - a.origin) ++ behind)
    × (length (answer_piece o a.order (a.place - a.origin)) ≤ length (outcome_piece o a.order (a.place - a.origin)))
telling-front (outcome.Done r) a rest e = (rest, e, omega arith)
telling-front (outcome.User x) a rest e =
    let at = a.place - a.origin in
    let front = text.format.writes (user_id x) a.order at in
    let back = (row_of x).members.format.writes x a.order (at + length front) in
    (back ++ rest, e ∙ append_assoc front back rest, omega (arith, length-append front back))
telling-front (outcome.System kind minor completion) a rest e = (rest, e, omega arith)

content-spelled : (operation : Operation) (o : Outcome) (a : At) → AdmitsOutcome operation o
    → length (answer_piece o a.order (a.place - a.origin)) < 2 ^ 32
    → (answer_of operation (outcome_status o)).format.spells a.order (a.place - a.origin) (client_answer o)
    (answer_piece o a.order (a.place - a.origin))
content-spelled operation (outcome.Done r) a ok short =
    rw (sym ok.0) ((done_answer (shape_of r)).lawful.written a.order (a.place - a.origin) (client_answer (outcome.Done r))
    (r, refl, ok.1) short)
content-spelled operation (outcome.User e) a ok short =
    user_answer.lawful.written a.order (a.place - a.origin) (client_answer (outcome.User e))
    (user_id e, refl, user_id-clean e) short
content-spelled operation (outcome.System kind minor completion) a ok short =
    system_answer.lawful.written a.order (a.place - a.origin) (client_answer (outcome.System kind minor completion))
    ((system_id kind, (minor, completion)), refl, (system_id-clean kind, ok)) short

pub outcome-back : (c : Call) (o : Outcome) (a : At) (rest : List ℕ) → AdmitsOutcome (operation_in c) o
    → a.origin ≤ a.place → length (outcome_piece o a.order (a.place - a.origin)) < 2 ^ 32
    → a.rest ≡ outcome_piece o a.order (a.place - a.origin) ++ rest
    → outcome_read c (outcome_status o) a ≡ Ok (client_answer o, after (length (answer_piece o a.order (a.place - a.origin))) a)
outcome-back c o a rest ok h short e =
    let f = telling-front o a rest e in
    let s = content-spelled (operation_in c) o a ok (omega (arith, short, f.2)) in
    ap reading_of ((answer_of (operation_in c) (outcome_status o)).lawful.only a (client_answer o) _ f.0 h s f.1)
