-- What the program does with its words.
use Rattle.std.specs.Prelude.{◌≡◌, ℕ, List, Some, codes, Ok, Err}
use Rattle.clap.specs.Words.{Text}
use Rattle.clap.specs.declared.error.Error.{Error}
use Rattle.td_cli_request.specs.declared.making.Asking.{Asking}
use Rattle.td_cli_args.specs.declared.parsing.Refusal.{Refusal}
use Rattle.td_cli_args.specs.declared.parsing.Refusal.TheVariants as refusal
use Rattle.td_walk.specs.declared.fault.PeerFault.{PeerFault}
use Rattle.td_cli_program.specs.Outcomes.{fault_status}
use Rattle.td_cli_program.specs.Printing.{PrintsOutcome, Sunk}
use Rattle.td_out.specs.SinkTexts.{GivesText}
use Rattle.td_cli_program.specs.Sending.{Line, SendsAsked}
use Rattle.td_cli_program.specs.Words.{IsRefusedWords, asking_in}
use Rattle.td_cli_program.specs.declared.outcome.Outcome.{Outcome}

-- an object is asked, and what came is printed; where nothing came, nothing is printed
pub data SendsAndPrints (asking : Asking) : (line0 line1 : Line) → (sink0 sink1 : Sunk) → ℕ
    → Type 0 where
  answered : (o : Outcome) (v w : Line) (a b : Sunk) (n : ℕ) → SendsAsked asking v w (Ok o)
      → PrintsOutcome o a b n → SendsAndPrints asking v w a b n
  failed : (fault : PeerFault) (v w : Line) (a : Sunk) → SendsAsked asking v w (Err fault)
      → SendsAndPrints asking v w a a (fault_status fault)

-- a refusal is told: by clap's text, or by `usage`
pub data PrintsRefusal : Refusal → (faults0 faults1 : Sunk) → ℕ → Type 0 where
  by_clap : (e : Error) (text : List ℕ) (f g : Sunk)
      → GivesText text f.bytes g.bytes f.faults g.faults
      → PrintsRefusal (refusal.Words e) f g 2
  by_form : (f g : Sunk) → GivesText (codes "usage\n") f.bytes g.bytes f.faults g.faults
      → PrintsRefusal refusal.Form f g 2
  no_memory : (r : Refusal) (f : Sunk) → PrintsRefusal r f f 9

-- the words ask an object for something, which it is asked for, or they are refused
pub data RunsClient (words : List Text)
    : (line0 line1 : Line) → (sink0 sink1 faults0 faults1 : Sunk) → ℕ → Type 0 where
  obeyed : (asking : Asking) (v w : Line) (a b f : Sunk) (n : ℕ) → asking_in words ≡ Some asking
      → SendsAndPrints asking v w a b n → RunsClient words v w a b f f n
  refused : (r : Refusal) (v : Line) (a f g : Sunk) (n : ℕ) → IsRefusedWords words r
      → PrintsRefusal r f g n
      → RunsClient words v v a a f g n
