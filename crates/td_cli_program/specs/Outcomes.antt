-- What a use of the program comes to: the lines that tell it, and its status.
use Rattle.std.specs.Prelude.{ℕ, List, Option, Some}
use Rattle.td_remote_query.specs.declared.gathered.Gathered.{Gathered as Given}
use Rattle.td_remote_query.specs.declared.gathered.Gathered.TheVariants.{Offers, Refused}
use Rattle.td_ops.specs.declared.outcome.Answered.{Answered as Told}
use Rattle.td_ops.specs.declared.outcome.Answered.TheVariants.{Done, User, System}
use Rattle.td_cli_printing.specs.Answers.{answer_lines, found_lines}
use Rattle.td_walk.specs.declared.fault.PeerFault.{PeerFault}
use Rattle.td_walk.specs.declared.fault.PeerFault.TheVariants as fault
use Rattle.td_cli_program.specs.declared.outcome.Outcome.{Outcome}
use Rattle.td_cli_program.specs.declared.outcome.Outcome.TheVariants.{Gathered, Answered}

-- ---- the lines

abbrev pub gathered_lines : Given → Option (List ℕ)
gathered_lines (Offers found) = Some (found_lines found.offers found.limits)
gathered_lines (Refused answer) = answer_lines answer

abbrev pub outcome_lines : Outcome → Option (List ℕ)
outcome_lines (Gathered g) = gathered_lines g
outcome_lines (Answered a) = answer_lines a

-- ---- the status where the lines are printed

abbrev pub answer_status : Told → ℕ
answer_status (Done result) = 0
answer_status (User id) = 4
answer_status (System id minor completion) = 5

abbrev pub gathered_status : Given → ℕ
gathered_status (Offers found) = 0
gathered_status (Refused answer) = answer_status answer

abbrev pub outcome_status : Outcome → ℕ
outcome_status (Gathered g) = gathered_status g
outcome_status (Answered a) = answer_status a

-- ---- the status where nothing is

abbrev pub fault_status : PeerFault → ℕ
fault_status fault.Wire = 6
fault_status fault.Grammar = 8
fault_status fault.Exception = 8
fault_status fault.Memory = 9
