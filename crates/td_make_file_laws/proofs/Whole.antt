-- A generated file opens.
use Rattle.std.proofs.Common.{◌≡◌, ℕ, ◌≤◌, List, Option, Some, None, Result, Ok, map, ap, ◌∙◌}
use Rattle.td_cdr.specs.Reading.{◌>>=◌}
use Rattle.td_file.specs.Files.{Opening, opening, opening_at, opening_of, opening_with, unless_refused}
use Rattle.td_file.specs.Openings.{all_traders, later_refusal, missing_in}
use Rattle.td_lines.specs.Scripts.{script_of}
use Rattle.td_lines.specs.declared.entry.Home.{Home}
use Rattle.td_lines.specs.declared.entry.Refused.{Refused}
use Rattle.td_lines.specs.declared.entry.Script.{Script}
use Rattle.td_make.specs.Generated.{generated_file}
use Rattle.td_make_file_laws.proofs.Going.{local_address}
use Rattle.td_make_file_laws.proofs.Knowing.{none-missing}
use Rattle.td_make_file_laws.proofs.Measured.{generated-short}
use Rattle.td_make_file_laws.proofs.Opening.{AreOpened, ring-opened}
use Rattle.td_make_file_laws.specs.Opened.{GeneratedOpens}
use Rattle.td_make_laws.specs.Said.{SaysRing, local_host}
use Rattle.td_trader.specs.PlainTraders.{PlainTrader}

module _ (s : Script) (traders : List PlainTrader) (refused : s.refused ≡ None) (home : s.home ≡ Some local_host)
    (opened : all_traders local_address s.traders ≡ Ok traders) (missing : missing_in s.traders s.traders ≡ None) where
  abbrev whole : Opening
  whole = opening local_address s.seed traders

  so-opened : opening_with s s.home ≡ Ok whole
  so-opened =
      ap (λ (h : Option Home). opening_with s h) home
      ∙ (ap (λ (r : Result (List PlainTrader) Refused). r >>= λ ts.
      unless_refused (later_refusal s.refused (missing_in s.traders s.traders)) (opening local_address s.seed ts)) opened
      ∙ (ap (λ (f : Option Refused). unless_refused (later_refusal f (missing_in s.traders s.traders)) whole) refused
      ∙ ap (λ (m : Option ℕ). unless_refused (later_refusal None m) whole) missing))

pub opens : (count : ℕ) → 1 ≤ count → count ≤ 64 → SaysRing count (script_of (generated_file count)) → GeneratedOpens count
unfolding opening_of
opens count least most says =
    let s : Script = script_of (generated_file count) in
    let each : AreOpened s.traders = ring-opened count s.traders least most says.traders in
    let missing : missing_in s.traders s.traders ≡ None =
    none-missing count s.traders least says.names says.traders in
    record {
      opening = opening local_address s.seed each.traders;
      opened = so-opened s each.traders says.read says.home each.is missing;
      names = each.names ∙ says.names;
      short = generated-short count least most;
    }
