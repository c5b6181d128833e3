-- A whole file: what its script opens, with a server's address and a seed of 32 octets.
use Rattle.std.proofs.Common.{◌≡◌, ℕ, ◌≤◌, List, length, Option, Some, None, IfSome, Result, Ok, Err, IfOk, sym, subst}
use Rattle.td_cdr.specs.Reading.{◌>>=◌}
use Rattle.td_cdr.specs.Text.{HasNoNul}
use Rattle.td_lines.specs.Laws.{IsValidScript}
use Rattle.td_lines.specs.Scripts.{script_of}
use Rattle.td_lines.specs.declared.entry.Home.{Home}
use Rattle.td_lines.specs.declared.entry.Refused.{Refused}
use Rattle.td_lines.specs.declared.entry.Script.{Script}
use Rattle.td_lines.specs.declared.entry.TraderScript.{TraderScript}
use Rattle.td_objects.specs.References.{IsAddress}
use Rattle.td_trader.specs.PlainTraders.{PlainTrader}
use Rattle.td_walk.specs.declared.trace.Address.{Address}
use Rattle.td_file.specs.Files.{OpensOrRefuses, Opening, home_address, opening, opening_at, opening_of, opening_with}
use Rattle.td_file.specs.Files.{seen}
use Rattle.td_file.specs.Files.{unless_refused}
use Rattle.td_file.specs.Openings.{all_traders, later_refusal, missing_in}
use Rattle.td_file.specs.Stages.{IsRefusedFor}
use Rattle.td_file.specs.declared.fault.FileFault.{FileFault}
use Rattle.td_file.specs.declared.reading.Opened.{Opened}
use Rattle.td_file.proofs.Entrance.{refused_on}

-- ---- what is opened at an address

abbrev behind_all : Address → List ℕ → List TraderScript → Option Refused → List PlainTrader → Result Opening Refused
behind_all home seed content refused traders =
    unless_refused (later_refusal refused (missing_in content content)) (opening home seed traders)

pub opens_at : (home : Address) (seed : List ℕ) (content : List TraderScript) (refused later : Option Refused)
    (ts : List PlainTrader) (r : Result Opened FileFault) → all_traders home content ≡ Ok ts
    → later ≡ later_refusal refused (missing_in content content) → OpensOrRefuses (unless_refused later (opening home seed ts)) r
    → OpensOrRefuses (opening_at home seed content refused) r
opens_at home seed content refused later ts r all tried h =
    let here : OpensOrRefuses (behind_all home seed content refused ts) r =
    subst (λ (x : Option Refused). OpensOrRefuses (unless_refused x (opening home seed ts)) r) tried h in
    subst (λ (x : Result (List PlainTrader) Refused). OpensOrRefuses (x >>= behind_all home seed content refused) r) (sym all)
    here

pub refuses_at : (home : Address) (seed : List ℕ) (content : List TraderScript) (refused : Option Refused)
    (fault : FileFault) → IsRefusedFor (all_traders home content) fault
    → IsRefusedFor (opening_at home seed content refused) fault
refuses_at home seed content refused fault h =
    refused_on (all_traders home content) (behind_all home seed content refused) fault h

-- ---- what a file opens

pub opens : (text : List ℕ) (s : Script) (r : Result Opened FileFault) → s ≡ script_of text
    → OpensOrRefuses (opening_with s s.home) r → OpensOrRefuses (opening_of text) r
unfolding opening_of
opens text s r e h = subst (λ (x : Script). OpensOrRefuses (opening_with x x.home) r) e h

abbrev Fits : Result Opening Refused → Type 0
Fits (Ok o) = IsAddress o.home × (length o.seed ≡ 32)
Fits (Err refused) = Unit {0}

fits-unless : (later : Option Refused) (o : Opening) → IsAddress o.home → length o.seed ≡ 32
    → Fits (unless_refused later o)
fits-unless None o address seed = (address, seed)
fits-unless (Some refused) o address seed = tt

fits-at : (home : Address) (seed : List ℕ) (content : List TraderScript) (refused : Option Refused)
    (all : Result (List PlainTrader) Refused) → IsAddress home → length seed ≡ 32
    → Fits (all >>= behind_all home seed content refused)
fits-at home seed content refused (Ok ts) reached long =
    fits-unless (later_refusal refused (missing_in content content)) (opening home seed ts) reached long
fits-at home seed content refused (Err e) reached long = tt

-- the address of a file that is sound is one where a server may listen
pub listens : (home : Home) → length home.host ≤ 1000 → HasNoNul home.host → home.minor ≤ 1
    → IsAddress (home_address home)
listens home short text low = record { short = short; no_nul = text; minor = low }

fits-with : (s : Script) (home : Option Home) → IfSome home (λ (h : Home). length h.host ≤ 1000)
    → IfSome home (λ (h : Home). HasNoNul h.host) → IfSome home (λ (h : Home). h.minor ≤ 1) → length s.seed ≡ 32
    → Fits (opening_with s home)
fits-with s (Some home) short text low long =
    fits-at (home_address home) s.seed s.traders s.refused (all_traders (home_address home) s.traders)
    (listens home short text low) long
fits-with s None short text low long = tt

fits : (text : List ℕ) → IsValidScript (script_of text) → Fits (opening_of text)
unfolding opening_of
fits text sound =
    fits-with (script_of text) (script_of text).home sound.short sound.host sound.minor sound.seed

address-in : (content : Result Opening Refused) (r : Result Opened FileFault) → Fits content → OpensOrRefuses content r
    → IfOk r (λ (o : Opened). IsAddress o.home)
address-in content (Ok o) h e = let both : Fits (Ok (seen o)) = subst Fits e h in both.0
address-in content (Err fault) h e = tt

seed-in : (content : Result Opening Refused) (r : Result Opened FileFault) → Fits content → OpensOrRefuses content r
    → IfOk r (λ (o : Opened). length o.seed ≡ 32)
seed-in content (Ok o) h e = let both : Fits (Ok (seen o)) = subst Fits e h in both.1
seed-in content (Err fault) h e = tt

pub address_of : (text : List ℕ) (r : Result Opened FileFault) → IsValidScript (script_of text)
    → OpensOrRefuses (opening_of text) r → IfOk r (λ (o : Opened). IsAddress o.home)
address_of text r sound h = address-in (opening_of text) r (fits text sound) h

pub seed_of : (text : List ℕ) (r : Result Opened FileFault) → IsValidScript (script_of text)
    → OpensOrRefuses (opening_of text) r → IfOk r (λ (o : Opened). length o.seed ≡ 32)
seed_of text r sound h = seed-in (opening_of text) r (fits text sound) h
