-- The traders of a file are as they were opened.
use Rattle.std.proofs.Common.{◌≡◌, ℕ, zero, suc, ◌≤◌, List, [], ◌∷◌, slice_get, Option, Some, None, Result, Ok, Err, refl}
use Rattle.std.proofs.Common.{ap, subst, arith}
use Rattle.td_cdr.specs.Reading.{◌>>=◌}
use Rattle.td_file.specs.Files.{Opening, home_address, opening, opening_at, opening_of, opening_with, unless_refused}
use Rattle.td_file.specs.Openings.{all_traders, bounds, later_refusal, missing_in, opening_store, trader_of}
use Rattle.td_lines.specs.Scripts.{script_of}
use Rattle.td_lines.specs.declared.entry.Home.{Home}
use Rattle.td_lines.specs.declared.entry.Refused.{Refused}
use Rattle.td_lines.specs.declared.entry.Script.{Script}
use Rattle.td_lines.specs.declared.entry.TraderScript.{TraderScript}
use Rattle.td_file_laws.specs.Files.{FilesOpenReachedTraders}
use Rattle.td_register.specs.Stores.{Store}
use Rattle.td_trader.specs.PlainTraders.{AreBounds, PlainTrader, new_trader}
use Rattle.td_trader_laws.specs.Reaching.{AreReached, IsReached, just_opened}
use Rattle.td_walk.specs.declared.trace.Address.{Address}

may-be : AreBounds bounds
may-be = record { remembers = omega arith; ring = omega arith; begins = omega arith }

ok-same : {X F : Type 0} (x y : X) → ◌≡◌ {A = Result X F} (Ok x) (Ok y) → x ≡ y
ok-same x y e = cc

one-reached : (t : TraderScript) (r : Result Store Refused) (u : PlainTrader)
    → (r >>= λ s. Ok (new_trader t.name s bounds)) ≡ Ok u → IsReached u
one-reached t (Ok s) u e = subst IsReached (ok-same (new_trader t.name s bounds) u e) (just_opened t.name s bounds may-be)
one-reached t (Err f) u e = absurd (cc)

cons-reached : (t : PlainTrader) (ts : List PlainTrader) → IsReached t → AreReached ts → AreReached (t ∷ ts)
cons-reached t ts one all zero u is = subst IsReached (let same : t ≡ u = cc in same) one
cons-reached t ts one all (suc n) u is = all n u is

none-reached : AreReached []
none-reached n u is = absurd (cc)

all-reached : (home : Address) (ts : List TraderScript) (us : List PlainTrader) → all_traders home ts ≡ Ok us
    → AreReached us
all-reached home [] us e = subst AreReached (ok-same [] us e) none-reached
all-reached home (t ∷ ts) us e =
    go (trader_of home t) (λ u is. one-reached t (opening_store home t) u is) (all_traders home ts)
    (λ vs is. all-reached home ts vs is) e
  where
    go : (r : Result PlainTrader Refused) → ((u : PlainTrader) → r ≡ Ok u → IsReached u)
        → (s : Result (List PlainTrader) Refused) → ((vs : List PlainTrader) → s ≡ Ok vs → AreReached vs)
        → (r >>= λ first. s >>= λ others. Ok (first ∷ others)) ≡ Ok us → AreReached us
    go (Err f) one s all e = absurd (cc)
    go (Ok first) one (Err f) all e = absurd (cc)
    go (Ok first) one (Ok others) all e =
        subst AreReached (ok-same (first ∷ others) us e) (cons-reached first others (one first refl) (all others refl))

at-reached : (home : Address) (seed : List ℕ) (refused : Option Refused) (r : Result (List PlainTrader) Refused)
    (later : Option Refused) → ((us : List PlainTrader) → r ≡ Ok us → AreReached us) → (o : Opening)
    → (r >>= λ traders. unless_refused later (opening home seed traders)) ≡ Ok o → AreReached o.traders
at-reached home seed refused (Err f) later all o e = absurd (cc)
at-reached home seed refused (Ok us) (Some f) all o e = absurd (cc)
at-reached home seed refused (Ok us) None all o e =
    subst (λ (z : Opening). AreReached z.traders) (ok-same (opening home seed us) o e) (all us refl)

with-reached : (s : Script) (h : Option Home) (o : Opening) → opening_with s h ≡ Ok o → AreReached o.traders
with-reached s None o e = absurd (cc)
with-reached s (Some home) o e =
    at-reached (home_address home) s.seed s.refused (all_traders (home_address home) s.traders)
    (later_refusal s.refused (missing_in s.traders s.traders))
    (λ us is. all-reached (home_address home) s.traders us is) o e

pub files-open : FilesOpenReachedTraders
unfolding opening_of
files-open text o e = with-reached (script_of text) (script_of text).home o e
