-- The traders of a file, one by one.
use Rattle.std.proofs.Common.{◌≡◌, ℕ, List, [], ◌∷◌, ◌++◌, map, Result, Ok, Err}
use Rattle.std.proofs.Common.{refl, sym, ap, subst, ◌∙◌}
use Rattle.std.specs.List.{IsDistinct}
use Rattle.std.specs.Str.{bytes_eq}
use Rattle.td_cdr.specs.Reading.{◌>>=◌}
use Rattle.td_lines.specs.declared.entry.Refused.{Refused}
use Rattle.td_lines.specs.declared.entry.TraderScript.{TraderScript}
use Rattle.td_register.specs.Stores.{Store}
use Rattle.td_trader.specs.PlainTraders.{PlainTrader, new_trader}
use Rattle.td_trader.specs.Solos.{AreDistinct}
use Rattle.td_walk.specs.declared.trace.Address.{Address}
use Rattle.td_file.specs.Openings.{HaveDistinctNames, all_traders, bounds, names_in, opening_store, trader_of}
use Rattle.td_file.specs.Stages.{IsRefusedFor}
use Rattle.td_file.specs.declared.fault.FileFault.{FileFault}
use Rattle.td_file.proofs.Entrance.{refused_on}

-- ---- those so far, and those of what is left

abbrev pub with_front : List PlainTrader → Result (List PlainTrader) Refused → Result (List PlainTrader) Refused
with_front found content = content >>= λ more. Ok (found ++ more)

-- ---- one trader

pub trader_not_made : (home : Address) (one : TraderScript) (fault : FileFault) → IsRefusedFor (opening_store home one) fault
    → IsRefusedFor (trader_of home one) fault
trader_not_made home one fault h =
    refused_on (opening_store home one) (λ (s : Store). Ok (new_trader one.name s bounds)) fault h

-- ---- names

abbrev names_of : List PlainTrader → List (List ℕ)
names_of ts = map (λ (t : PlainTrader). t.name) ts

abbrev IsNamed : List ℕ → Result PlainTrader Refused → Type 0
IsNamed name (Ok t) = t.name ≡ name
IsNamed name (Err refused) = Unit {0}

abbrev AreNamed : List (List ℕ) → Result (List PlainTrader) Refused → Type 0
AreNamed names (Ok ts) = names_of ts ≡ names
AreNamed names (Err refused) = Unit {0}

named-one : (name : List ℕ) (content : Result Store Refused)
    → IsNamed name (content >>= λ s. Ok (new_trader name s bounds))
named-one name (Ok s) = refl
named-one name (Err refused) = tt

named-more : (name : List ℕ) (names : List (List ℕ)) (first : Result PlainTrader Refused)
    (others : Result (List PlainTrader) Refused) → IsNamed name first → AreNamed names others
    → AreNamed (name ∷ names) (first >>= λ t. others >>= λ ts. Ok (t ∷ ts))
named-more name names (Ok t) (Ok ts) h k =
    ap (λ n. n ∷ names_of ts) h ∙ ap (λ ns. name ∷ ns) k
named-more name names (Ok t) (Err refused) h k = tt
named-more name names (Err refused) others h k = tt

named-all : (home : Address) (content : List TraderScript) → AreNamed (names_in content) (all_traders home content)
named-all home [] = refl
named-all home (t ∷ ts) =
    named-more t.name (names_in ts) (trader_of home t) (all_traders home ts)
    (named-one t.name (opening_store home t)) (named-all home ts)

-- the traders have the names that the file gives them, of which no two are one
pub apart : (home : Address) (content : List TraderScript) (ts : List PlainTrader) → all_traders home content ≡ Ok ts
    → HaveDistinctNames content → AreDistinct ts
apart home content ts e h =
    let named : names_of ts ≡ names_in content = subst (AreNamed (names_in content)) e (named-all home content) in
    subst (λ (names : List (List ℕ)). IsDistinct bytes_eq names) (sym named) h
