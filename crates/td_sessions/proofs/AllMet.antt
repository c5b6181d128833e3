-- Each pass that is split off for a session is met when the session is taken in.
use Rattle.std.proofs.Common.{◌≡◌, ℕ, zero, suc, Bool, true, false, ◌&&◌, List, [], ◌∷◌, map, true≢false, refl, sym, ap}
use Rattle.td_cell.specs.Passes.{knowledge}
use Rattle.td_cell.specs.Rules.{all_met}
use Rattle.td_cell.specs.declared.book.Book.{Ghosts}
use Rattle.td_cell.specs.declared.cell.Cell.{Cell}
use Rattle.td_cell.specs.declared.pass.Pass.{Pass}
use Rattle.td_cell.specs.declared.pass.View.{View as Knowledge}
use Rattle.td_group.specs.Grouping.{IsPutIn, MeetsPass, SplitsOff, are_met}
use Rattle.td_group.specs.Rows.{Rows}
use Rattle.td_server.proofs.Flags.{AreOut, Keeps, Meet, Met, Split, Splits, Stays, Waits, none-left, place_of}
use Rattle.td_server.specs.Rows.{Rows as Beside}
use Rattle.td_trader.specs.PlainTraders.{PlainTrader}
use Rattle.td_workers.specs.JobSources.{RunsJobs}

-- ---- the flags of one opening pass

all-met : (ms : List Bool) → ((j : ℕ) → Waits ms j → ⊥) → all_met ms ≡ true
all-met [] f = refl
all-met (false ∷ ms) f = absurd (f 0 refl)
all-met (true ∷ ms) f = all-met ms (λ j. f (suc j))

none-waits : (ms : List Bool) (j : ℕ) → all_met ms ≡ true → Waits ms j → ⊥
none-waits [] j e w = w
none-waits (false ∷ ms) j e w = absurd (true≢false (sym e))
none-waits (true ∷ ms) zero e w = absurd (true≢false w)
none-waits (true ∷ ms) (suc j) e w = none-waits ms j e w

-- ---- passes

and-true : (a b : Bool) → a ≡ true → b ≡ true → (a && b) ≡ true
and-true true b p q = q
and-true false b p q = absurd (true≢false (sym p))

and-left : (a b : Bool) → (a && b) ≡ true → a ≡ true
and-left true b p = refl
and-left false b p = p

and-right : (a b : Bool) → (a && b) ≡ true → b ≡ true
and-right true b p = p
and-right false b p = absurd (true≢false (sym p))

module _ {A R : Type 0} {g : Ghosts PlainTrader A R} where
  abbrev pub flags_of : Pass PlainTrader A R g → List Bool
  flags_of p = (knowledge p).met

  abbrev pub number_of : Pass PlainTrader A R g → ℕ
  number_of p = (knowledge p).number

  pub splits_flags : (ps ts qs : List (Pass PlainTrader A R g)) → Rows SplitsOff ps ts qs
      → Beside Split (map flags_of ps) (map number_of ts) (map flags_of qs)
  splits_flags [] [] [] r = tt
  splits_flags [] [] (q ∷ qs) r = absurd r
  splits_flags [] (t ∷ ts) qs r = absurd r
  splits_flags (p ∷ ps) [] qs r = absurd r
  splits_flags (p ∷ ps) (t ∷ ts) [] r = absurd r
  splits_flags (p ∷ ps) (t ∷ ts) (q ∷ qs) r = (
    record {
      flags = ap (λ (v : Knowledge PlainTrader). v.met) r.0.opening;
      number_is = ap (λ (v : Knowledge PlainTrader). v.number) r.0.out;
    },
    splits_flags ps ts qs r.1,
  )

  pub meets_flags : (ps ts qs : List (Pass PlainTrader A R g)) → Rows MeetsPass ps ts qs
      → Beside Met (map flags_of ps) (map number_of ts) (map flags_of qs)
  meets_flags [] [] [] r = tt
  meets_flags [] [] (q ∷ qs) r = absurd r
  meets_flags [] (t ∷ ts) qs r = absurd r
  meets_flags (p ∷ ps) [] qs r = absurd r
  meets_flags (p ∷ ps) (t ∷ ts) [] r = absurd r
  meets_flags (p ∷ ps) (t ∷ ts) (q ∷ qs) r = (r.0.met, meets_flags ps ts qs r.1)

  met_from : (ps : List (Pass PlainTrader A R g)) → AreOut (map flags_of ps) [] → are_met ps ≡ true
  met_from [] h = refl
  met_from (p ∷ ps) h =
      and-true (all_met (flags_of p)) (are_met ps) (all-met (flags_of p) (h 0)) (met_from ps (λ k. h (suc k)))

  out_from : (ps : List (Pass PlainTrader A R g)) → are_met ps ≡ true → AreOut (map flags_of ps) []
  out_from [] e k j w = w
  out_from (p ∷ ps) e zero j w = none-waits (flags_of p) j (and-left (all_met (flags_of p)) (are_met ps) e) w
  out_from (p ∷ ps) e (suc k) j w = out_from ps (and-right (all_met (flags_of p)) (are_met ps) e) k j w

  -- where each pass was met at first, each is met in the end
  pub all_are_met : (ps qs : List (Pass PlainTrader A R g)) → are_met ps ≡ true
      → RunsJobs Splits Stays Keeps place_of Meet true (map flags_of ps) 0 [] (map flags_of qs) → are_met qs ≡ true
  all_are_met ps qs e w = met_from qs (none-left w (out_from ps e))

  -- nothing was split off the opening pass of a new cell
  pub fresh_are_met : (os : List PlainTrader) (cs : List (Cell PlainTrader A R)) (ps : List (Pass PlainTrader A R g))
      → Rows IsPutIn os cs ps → are_met ps ≡ true
  fresh_are_met [] [] [] r = refl
  fresh_are_met [] [] (p ∷ ps) r = absurd r
  fresh_are_met [] (c ∷ cs) ps r = absurd r
  fresh_are_met (o ∷ os) [] ps r = absurd r
  fresh_are_met (o ∷ os) (c ∷ cs) [] r = absurd r
  fresh_are_met (o ∷ os) (c ∷ cs) (p ∷ ps) r =
      and-true (all_met (flags_of p)) (are_met ps) (ap (λ (v : Knowledge PlainTrader). all_met v.met) r.0.seen)
      (fresh_are_met os cs ps r.1)
