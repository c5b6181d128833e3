-- What a file of octets opens: traders of distinct names whose values can be written, at an address.
use Rattle.std.proofs.Common.{◌≡◌, ◌⊎◌, ℕ, ◌^◌, ◌<◌, ◌≤◌, List, length, Option, Some, None, IfSome, Result, Ok, Err}
use Rattle.std.proofs.Common.{refl, subst}
use Rattle.td_audit.specs.Auditing.{AuditsOrWants}
use Rattle.td_audit.specs.Making.{IsLog}
use Rattle.td_audit.specs.declared.verdict.Verdict.{Verdict}
use Rattle.td_audit.specs.declared.verdict.Verdict.TheVariants.{Yes, Memory}
use Rattle.td_audit_laws.specs.Laws.{VerdictsAreOne}
use Rattle.td_audit_run_laws.specs.Rings.{FilesLogsPass}
use Rattle.td_cdr.specs.Lawful.{AreOctets}
use Rattle.td_cdr.specs.Reading.{◌>>=◌}
use Rattle.td_cdr.specs.Text.{HasNoNul}
use Rattle.td_file.proofs.Rows.{apart}
use Rattle.td_file.specs.Files.{Opening, home_address, opening, opening_of, opening_with, unless_refused}
use Rattle.td_file.specs.Openings.{HaveDistinctNames, all_traders, later_refusal, missing_in}
use Rattle.td_file_laws.proofs.WritableOpening.{files-open-writable}
use Rattle.td_lines.proofs.Sounding.{sound}
use Rattle.td_lines.specs.Laws.{IsValidScript}
use Rattle.td_lines.specs.Scripts.{script_of}
use Rattle.td_lines.specs.declared.entry.Home.{Home}
use Rattle.td_lines.specs.declared.entry.Refused.{Refused}
use Rattle.td_lines.specs.declared.entry.Script.{Script}
use Rattle.td_log.specs.Words.{lines_of}
use Rattle.td_log_laws.proofs.Made.{made-pass, made-right}
use Rattle.td_log_laws.specs.Made.{AreOpened}
use Rattle.td_objects.specs.References.{IsAddress}
use Rattle.td_trader.specs.PlainTraders.{PlainTrader}
use Rattle.td_trader.specs.Solos.{AreDistinct}
use Rattle.td_walk.specs.declared.trace.Address.{Address}

abbrev IsHome : Home → Type 0
IsHome home = IsAddress (home_address home)

sound-home : (h : Option Home) → IfSome h (λ home. HasNoNul home.host) → IfSome h (λ home. length home.host ≤ 1000)
    → IfSome h (λ home. home.minor ≤ 1) → IfSome h IsHome
sound-home None a b c = tt
sound-home (Some home) a b c = record { short = b; no_nul = a; minor = c }

same-opening : (x y : Opening) → ◌≡◌ {A = Result Opening Refused} (Ok x) (Ok y) → x ≡ y
same-opening x y e = cc

abbrev IsPlaced : Opening → Type 0
IsPlaced o = AreDistinct o.traders × IsAddress o.home

at-home : (home : Address) (seed : List ℕ) (r : Result (List PlainTrader) Refused) (later : Option Refused)
    → IsAddress home → ((us : List PlainTrader) → r ≡ Ok us → AreDistinct us) → (o : Opening)
    → (r >>= λ traders. unless_refused later (opening home seed traders)) ≡ Ok o → IsPlaced o
at-home home seed (Err f) later here all o e = absurd (cc)
at-home home seed (Ok us) (Some f) here all o e = absurd (cc)
at-home home seed (Ok us) None here all o e =
    subst IsPlaced (same-opening (opening home seed us) o e) (all us refl, here)

with-home : (s : Script) (h : Option Home) (o : Opening) → HaveDistinctNames s.traders → IfSome h IsHome
    → opening_with s h ≡ Ok o → IsPlaced o
with-home s None o names here e = absurd (cc)
with-home s (Some home) o names here e =
    at-home (home_address home) s.seed (all_traders (home_address home) s.traders)
    (later_refusal s.refused (missing_in s.traders s.traders)) here
    (λ us is. apart (home_address home) s.traders us is names) o e

placed : (text : List ℕ) (o : Opening) → opening_of text ≡ Ok o → IsPlaced o
unfolding opening_of
placed text o e =
    let s : Script = script_of text in
    let h : IsValidScript s = sound text in
    with-home s s.home o h.distinct (sound-home s.home h.host h.short h.minor) e

files-opened : (text : List ℕ) (o : Opening) → AreOctets text → opening_of text ≡ Ok o → AreOpened o.traders
files-opened text o octets opens =
    record { distinct = (placed text o opens).0; writable = files-open-writable text o octets opens }

-- the server listens at an address
pub files-at : (text : List ℕ) (o : Opening) → opening_of text ≡ Ok o → IsAddress o.home
files-at text o opens = (placed text o opens).1

pub files-pass : FilesLogsPass
files-pass text log o octets opens is short =
    made-pass o.traders o.home log (files-opened text o octets opens) (placed text o opens).1 is short

-- the verdict on it
pub files-right : VerdictsAreOne → (text log : List ℕ) (o : Opening) (v : Verdict) → AreOctets text
    → opening_of text ≡ Ok o → IsLog o.traders o.home log → length log < 2 ^ 32
    → AuditsOrWants o.traders o.home log v → (v ≡ Yes (length (lines_of log))) ⊎ (v ≡ Memory)
files-right one text log o v octets opens is short audit =
    made-right one o.traders o.home log v (files-opened text o octets opens) (placed text o opens).1 is short audit
