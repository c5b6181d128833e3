-- What is written for an outcome that can be written spells it.
use Rattle.std.proofs.Common.{ℕ, ◌^◌, ◌<◌, length, refl, subst}
use Rattle.td_cdr.specs.Sound.{◌&◌, text, ulong}
use Rattle.td_cdr.specs.Text.{HasNoNul}
use Rattle.td_cdr.specs.declared.order.Order.{Order}
use Rattle.td_exceptions.proofs.NoNul.{user_id-clean}
use Rattle.td_exceptions.specs.Exceptions.{row_of, user_id}
use Rattle.td_ops.specs.Outcomes.{outcome_piece, system_id}
use Rattle.td_ops.specs.Shapes.{results, shape_of}
use Rattle.td_ops.specs.declared.outcome.Outcome.TheVariants.{Done, System, User}
use Rattle.td_ops.specs.declared.outcome.Outcome.{Outcome}
use Rattle.td_ops.specs.declared.outcome.SystemKind.TheVariants as kind
use Rattle.td_ops.specs.declared.outcome.SystemKind.{SystemKind}
use Rattle.td_ops.specs.declared.shape.Shape.{Shape}
use Rattle.td_servant.specs.declared.judging.Judged.TheVariants.{Call, Refused}
use Rattle.td_servant.specs.declared.judging.Judged.{Judged}
use Rattle.td_session_runs_laws.specs.Spelled.{AdmitsAnswer, AdmitsShaped, AdmitsSystem, SpellsAnswer, SpellsOutcome}
use Rattle.td_session_runs_laws.specs.Spelled.{SpellsSystem, shape_asked}

system_id-clean : (kind : SystemKind) → HasNoNul (system_id kind)
system_id-clean kind.Marshal = refl
system_id-clean kind.NoImplement = refl
system_id-clean kind.BadOperation = refl
system_id-clean kind.ObjectNotExist = refl
system_id-clean kind.ImpLimit = refl
system_id-clean kind.NoMemory = refl

-- of outcomes of so few bytes that a u32 can number them
system-spells : (o : Outcome) (order : Order) (place : ℕ) → AdmitsSystem o
    → length (outcome_piece o order place) < 2 ^ 32 → SpellsSystem o order place (outcome_piece o order place)
system-spells (System kind minor completion) order place ok short =
    (text & ulong & ulong).lawful.written order place (system_id kind, (minor, completion)) (system_id-clean kind, ok)
    short
system-spells (Done r) order place ok short = absurd ok
system-spells (User e) order place ok short = absurd ok

pub outcome-spells : (which : Shape) (o : Outcome) (order : Order) (place : ℕ) → AdmitsShaped which o
    → length (outcome_piece o order place) < 2 ^ 32 → SpellsOutcome which o order place (outcome_piece o order place)
outcome-spells which (Done r) order place ok short =
    subst (λ (s : Shape). (results s).format.spells order place r (outcome_piece (Done r) order place)) ok.0
    ((results (shape_of r)).lawful.written order place r ok.1 short)
outcome-spells which (User e) order place ok short =
    (text & (row_of e).members).lawful.written order place (user_id e, e) (user_id-clean e, ok) short
outcome-spells which (System kind minor completion) order place ok short =
    system-spells (System kind minor completion) order place ok short

pub answer-spells : (j : Judged) (o : Outcome) (order : Order) (place : ℕ) → AdmitsAnswer j o
    → length (outcome_piece o order place) < 2 ^ 32 → SpellsAnswer j o order place (outcome_piece o order place)
answer-spells (Call x c) o order place ok short = outcome-spells (shape_asked x c) o order place ok short
answer-spells (Refused r) o order place ok short = system-spells o order place ok short
