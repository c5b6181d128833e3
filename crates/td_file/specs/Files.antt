-- What a server's file opens: its address, its seed and its traders; or the entry that is answered, by its first line
-- and the cause.
use Rattle.std.specs.Prelude.{◌≡◌, ℕ, List, Option, Some, None, Result, Ok, Err}
use Rattle.td_cdr.specs.Reading.{◌>>=◌}
use Rattle.td_lines.specs.Scripts.{script_of}
use Rattle.td_lines.specs.Steps.{refusal}
use Rattle.td_lines.specs.declared.cause.LineCause.TheVariants.{Place}
use Rattle.td_lines.specs.declared.entry.Home.{Home}
use Rattle.td_lines.specs.declared.entry.Refused.{Refused}
use Rattle.td_lines.specs.declared.entry.Script.{Script}
use Rattle.td_lines.specs.declared.entry.TraderScript.{TraderScript}
use Rattle.td_trader.specs.PlainTraders.{PlainTrader}
use Rattle.td_walk.specs.declared.trace.Address.{Address}
use Rattle.td_file.specs.Openings.{all_traders, later_refusal, missing_in}
use Rattle.td_file.specs.Stages.{IsRefusedFor}
use Rattle.td_file.specs.declared.fault.FileFault.{FileFault}
use Rattle.td_file.specs.declared.reading.Opened.{Opened}

-- what a file opens
pub record Opening : Type 0 where
  pub home : Address
  pub seed : List ℕ
  pub traders : List PlainTrader

abbrev pub opening : Address → List ℕ → List PlainTrader → Opening
opening home seed traders = record { home = home; seed = seed; traders = traders }

-- where the lines of the file say that the server is reached, and by which version
abbrev pub home_address : Home → Address
home_address home = record { host = home.host; port = home.port; minor = home.minor }

abbrev pub unless_refused : Option Refused → Opening → Result Opening Refused
unless_refused None o = Ok o
unless_refused (Some refused) o = Err refused

-- at this address
abbrev pub opening_at : Address → List ℕ → List TraderScript → Option Refused
    → Result Opening Refused
opening_at home seed content refused =
    all_traders home content >>= λ traders.
    unless_refused (later_refusal refused (missing_in content content)) (opening home seed traders)

-- a file without an address lacks it in its first line, where no line is refused
abbrev pub or_place : Option Refused → Refused
or_place (Some refused) = refused
or_place None = refusal 1 Place

abbrev pub opening_with : Script → Option Home → Result Opening Refused
opening_with s (Some home) = opening_at (home_address home) s.seed s.traders s.refused
opening_with s None = Err (or_place s.refused)

-- what a file opens, or the refusal that is answered
unfoldable pub opening_of : List ℕ → Result Opening Refused
opening_of text = opening_with (script_of text) (script_of text).home

-- ---- what is answered

-- what was opened, as plain data
abbrev pub seen : Opened → Opening
seen o = record { home = o.home; seed = o.seed; traders = o.solo.traders.items }

-- exactly what the file opens, or the refusal; running out of memory says nothing
abbrev pub OpensOrRefuses : Result Opening Refused → Result Opened FileFault → Type 0
OpensOrRefuses content (Ok o) = content ≡ Ok (seen o)
OpensOrRefuses content (Err fault) = IsRefusedFor content fault
