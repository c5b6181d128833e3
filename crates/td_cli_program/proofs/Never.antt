-- Documented words whose values are in their forms are never refused.
use Rattle.std.proofs.Common.{◌≡◌, ◌∙◌, ℕ, List, sym, true, false, true≢false, Some, arith, Option}
use Rattle.std.proofs.Common.{is_some, ap}
use Rattle.std.specs.Prelude.{◌≢◌}
use Rattle.std.specs.List.{list_any}
use Rattle.clap.specs.Words.{Text}
use Rattle.td_cli_request.specs.Askings.{asking_of}
use Rattle.td_cli_request.specs.declared.making.Asking.{Asking}
use Rattle.td_cdr.specs.Text.{has_nul}
use Rattle.td_remote_query.specs.declared.gathered.Gathered.TheVariants.{Offers, Refused}
use Rattle.td_ops.specs.declared.outcome.Answered.{Answered as Told}
use Rattle.td_ops.specs.declared.outcome.Answered.TheVariants.{Done, User, System}
use Rattle.td_cli_args.specs.Answers.{asked_of, is_taken}
use Rattle.td_cli_args.specs.Wishes.{CommandWords}
use Rattle.td_cli_args.specs.declared.parsing.Refusal.{Refusal}
use Rattle.td_walk.specs.declared.fault.PeerFault.{PeerFault}
use Rattle.td_walk.specs.declared.fault.PeerFault.TheVariants as fault
use Rattle.td_cli_program.specs.Outcomes.{answer_status, fault_status, outcome_status}
use Rattle.td_cli_program.specs.Printing.{PrintsWithStatus, PrintsOutcome, Sunk, all_printed, sink_failed, shown}
use Rattle.td_cli_program.specs.Printing.{unshown, no_lines}
use Rattle.td_cli_program.specs.Runs.{SendsAndPrints, PrintsRefusal, RunsClient, answered, failed, by_clap, by_form}
use Rattle.td_cli_program.specs.Runs.{no_memory, obeyed}
use Rattle.td_cli_program.specs.Runs.{refused}
use Rattle.td_cli_program.specs.Sending.{Line}
use Rattle.td_cli_program.specs.Words.{IsRefusedWords, asking_in}
use Rattle.td_cli_program.specs.declared.outcome.Outcome.{Outcome}
use Rattle.td_cli_program.specs.declared.outcome.Outcome.TheVariants.{Gathered, Answered}
use Rattle.td_cli_program.proofs.Judging.{read}

-- ---- a use of an object never ends with 2

answer_not_two : (a : Told) → answer_status a ≢ 2
answer_not_two (Done r) two = absurd (omega (arith, two))
answer_not_two (User id) two = absurd (omega (arith, two))
answer_not_two (System id minor completion) two = absurd (omega (arith, two))

outcome_not_two : (o : Outcome) → outcome_status o ≢ 2
outcome_not_two (Gathered (Offers found)) two = absurd (omega (arith, two))
outcome_not_two (Gathered (Refused a)) two = answer_not_two a two
outcome_not_two (Answered a) two = answer_not_two a two

fault_not_two : (f : PeerFault) → fault_status f ≢ 2
fault_not_two fault.Wire two = absurd (omega (arith, two))
fault_not_two fault.Grammar two = absurd (omega (arith, two))
fault_not_two fault.Exception two = absurd (omega (arith, two))
fault_not_two fault.Memory two = absurd (omega (arith, two))

prints_not_two : (text : List ℕ) (status : ℕ) (a b : Sunk) (n : ℕ) → status ≢ 2 → PrintsWithStatus text status a b n → n ≢ 2
prints_not_two text status a b n other (all_printed a' b' gave later) two = other two
prints_not_two text status a b n other (sink_failed a' b' tells rose) two = absurd (omega (arith, two))

shows_not_two : (o : Outcome) (a b : Sunk) (n : ℕ) → PrintsOutcome o a b n → n ≢ 2
shows_not_two o a b n (shown text a' b' m lines prints) two =
    prints_not_two text (outcome_status o) a' b' m (outcome_not_two o) prints two
shows_not_two o a b n (unshown a' none) two = absurd (omega (arith, two))
shows_not_two o a b n (no_lines a') two = absurd (omega (arith, two))

performs_not_two : (asking : Asking) (v w : Line) (a b : Sunk) (n : ℕ) → SendsAndPrints asking v w a b n → n ≢ 2
performs_not_two asking v w a b n (answered o v' w' a' b' m sends shows) two = shows_not_two o a' b' m shows two
performs_not_two asking v w a b n (failed f v' w' a' sends) two = fault_not_two f two

-- ---- a refusal of words that ask for something

refusal_not_two : (words : List Text) (asking : Asking) (r : Refusal) (f g : Sunk) (n : ℕ) → is_taken words ≡ true
    → asking_in words ≡ Some asking → PrintsRefusal r f g n → IsRefusedWords words r → n ≢ 2
refusal_not_two words asking r f g n taken is (by_clap e text f' g' tells) why two =
    absurd (true≢false (sym taken ∙ why.0))
refusal_not_two words asking r f g n taken is (by_form f' g' tells) why two =
    absurd (true≢false (ap (λ (o : Option Asking). is_some o) (sym is ∙ why.0)))
refusal_not_two words asking r f g n taken is (no_memory r' f') why two = absurd (omega (arith, two))

runs_not_two : (words : List Text) (asking : Asking) (v w : Line) (a b f g : Sunk) (n : ℕ) → is_taken words ≡ true
    → asking_in words ≡ Some asking → RunsClient words v w a b f g n → n ≢ 2
runs_not_two words asking v w a b f g n taken is (obeyed other v' w' a' b' f' m found invokes) two =
    performs_not_two other v' w' a' b' m invokes two
runs_not_two words asking v w a b f g n taken is (refused r v' a' f' g' m why refuses) two =
    refusal_not_two words asking r f' g' m taken is refuses why two

-- documented words without a NUL
pub documented : (words : List Text) (asked : CommandWords) (v w : Line) (a b f g : Sunk) (n : ℕ) → is_taken words ≡ true
    → asked_of words ≡ Some asked → list_any has_nul words ≡ false → RunsClient words v w a b f g n
    → (asking_in words ≡ asking_of asked) × ((asking : Asking) → asking_of asked ≡ Some asking → n ≢ 2)
documented words asked v w a b f g n taken is plain runs =
    let same = read words asked plain is in
    (same, λ asking e. runs_not_two words asking v w a b f g n taken (same ∙ e) runs)
