-- Worked examples.
use Rattle.std.proofs.Common.{◌≡◌, ℕ, ◌^◌, ◌<◌, Bool, true, List, [], ◌∷◌, drop, Ok, Err, refl, subst, sym, ap, ◌∙◌}
use Rattle.std.proofs.Common.{arith}
use Rattle.td_cdr.specs.Format.{Read}
use Rattle.td_cdr.specs.Place.{At}
use Rattle.td_cdr.specs.Reading.{cell_at, number_at, octets_at, string_at}
use Rattle.td_cdr.specs.Sound.{Sound, ◌&◌, text, ulong}
use Rattle.td_cdr.specs.Spelling.{IsFlag}
use Rattle.td_cdr.specs.declared.order.Order.TheVariants.{Big}
use Rattle.td_cdr.specs.declared.value_fault.ValueFault.{ValueFault}
use Rattle.td_giop.specs.Written.{reply_start}
use Rattle.td_ops.specs.Outcomes.{system_id}
use Rattle.td_ops.specs.declared.outcome.Outcome.TheVariants.{Done}
use Rattle.td_ops.specs.declared.outcome.Reply.TheVariants.{Number, Truth}
use Rattle.td_ops.specs.declared.outcome.Reply.{Reply}
use Rattle.td_ops.specs.declared.outcome.SystemKind.TheVariants.{BadOperation}
use Rattle.td_ops.specs.declared.shape.Shape.TheVariants as shape
use Rattle.td_servant.specs.declared.objects.Object.{Object}
use Rattle.td_session_runs_laws.proofs.SpellingOutcomes.{outcome-spells}
use Rattle.td_session_runs_laws.specs.Examples.{WorkedSpelling, bad_operation, bad_operation_reply, is_one, is_a_reply}
use Rattle.td_session_runs_laws.specs.Examples.{to_five}
use Rattle.td_session_runs_laws.specs.Spelled.{SpellsReply, SpellsOutcome}

truth : SpellsOutcome shape.Truth (Done (Truth true)) Big 24 (1 ∷ [])
truth =
    let short : 1 < 2 ^ 32 = omega arith in
    outcome-spells shape.Truth (Done (Truth true)) Big 24 (refl, (true, refl, tt)) short

no-falsehood : SpellsOutcome shape.Truth (Done (Truth true)) Big 24 (0 ∷ []) → ⊥
no-falsehood s =
    let is : s.0 ≡ true = let same = s.1 in cc in
    let flag : ℕ = s.2.flag in
    let content : IsFlag true flag = subst (λ (v : Bool). IsFlag v flag) is s.2.content in
    let value : 0 ≡ flag = s.2.octet.value in
    let one : flag ≡ 1 = content in
    omega arith

no-number : (b : List ℕ) → SpellsOutcome shape.Truth (Done (Number 1)) Big 24 b → ⊥
no-number b s = let bad : ◌≡◌ {A = Reply} (Truth s.0) (Number 1) = s.1 in absurd (let never : ⊥ = cc in never)

refusal : SpellsOutcome shape.Truth bad_operation Big 24 (bad_operation_reply 1)
refusal =
    let short : 48 < 2 ^ 32 = omega arith in
    outcome-spells shape.Truth bad_operation Big 24 (omega arith, omega arith) short

abbrev behind_head : List ℕ → At
behind_head bytes = record { rest = bytes; place = 24; origin = 0; order = Big }

abbrev exception : Sound ValueFault (List ℕ × (ℕ × ℕ))
exception = text & ulong & ulong

abbrev completion_in : Read ValueFault (List ℕ × (ℕ × ℕ)) → ℕ
completion_in (Ok x) = x.0.1.1
completion_in (Err e) = 0

completion-read : completion_in (exception.format.reads (behind_head (bad_operation_reply 2))) ≡ 2
unfolding string_at octets_at number_at cell_at
completion-read = refl

no-other-completion : SpellsOutcome shape.Truth bad_operation Big 24 (bad_operation_reply 2) → ⊥
no-other-completion s =
    let content : List ℕ = bad_operation_reply 2 in
    let read = exception.lawful.only (behind_head content) (system_id BadOperation, (0, 1)) content [] (omega arith) s refl in
    let same : ◌≡◌ {A = ℕ} 2 1 = sym completion-read ∙ ap completion_in read in
    absurd (let never : ⊥ = omega arith in never)

reply : (x : Object) → SpellsReply to_five (is_one x) (is_a_reply 1)
unfolding reply_start
reply x = record { body = 1 ∷ []; reply = refl; spells = truth }

-- what stands behind the head
no-other-reply : (x : Object) → SpellsReply to_five (is_one x) (is_a_reply 0) → ⊥
unfolding reply_start
no-other-reply x s =
    let body : 0 ∷ [] ≡ s.body = ap (drop {A = ℕ} 24) s.reply in
    no-falsehood (subst (λ (b : List ℕ). SpellsOutcome shape.Truth (Done (Truth true)) Big 24 b) (sym body) s.spells)

-- a Reply has more bytes than none
no-reply : (x : Object) → SpellsReply to_five (is_one x) [] → ⊥
unfolding reply_start
no-reply x s = absurd (let bad : ⊥ = let is = s.reply in cc in bad)

pub spelling : WorkedSpelling
spelling = record {
  truth = truth;
  no_falsehood = no-falsehood;
  no_number = no-number;
  refusal = refusal;
  no_other_completion = no-other-completion;
  no_call = refusal;
  no_result = λ b s. s;
  last_code = omega arith;
  no_code = λ h. omega (arith, h);
  reply = reply;
  no_other_reply = no-other-reply;
  no_reply = no-reply;
}
