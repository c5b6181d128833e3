-- Each pass that is split off for a session is met when the session is taken in.
use Rattle.std.proofs.Common.{◌≡◌, ℕ, zero, suc, Bool, true, false, List, [], ◌∷◌, true≢false, refl, sym, ap}
use Rattle.td_cell.specs.Passes.{knowledge}
use Rattle.td_cell.specs.Rules.{all_met}
use Rattle.td_cell.specs.declared.book.Book.{Ghosts}
use Rattle.td_cell.specs.declared.cell.Cell.{Cell}
use Rattle.td_cell.specs.declared.pass.Pass.{Pass}
use Rattle.td_cell.specs.declared.pass.View.{View as Knowledge}
use Rattle.td_naming.specs.Histories.{Past}
use Rattle.td_server.proofs.Flags.{AreOut, Keeps, Meet, Split, Splits, Stays, Waits, none-left, place_of}
use Rattle.td_shared_names.specs.Sharing.{IsPutIn, SplitsOff}
use Rattle.td_workers.specs.JobSources.{RunsJobs}

-- ---- the flags of the opening pass

all-met : (ms : List Bool) → ((j : ℕ) → Waits ms j → ⊥) → all_met ms ≡ true
all-met [] f = refl
all-met (false ∷ ms) f = absurd (f 0 refl)
all-met (true ∷ ms) f = all-met ms (λ j. f (suc j))

none-waits : (ms : List Bool) (j : ℕ) → all_met ms ≡ true → Waits ms j → ⊥
none-waits [] j e w = w
none-waits (false ∷ ms) j e w = absurd (true≢false (sym e))
none-waits (true ∷ ms) zero e w = absurd (true≢false w)
none-waits (true ∷ ms) (suc j) e w = none-waits ms j e w

none-out : (ms : List Bool) → all_met ms ≡ true → AreOut (ms ∷ []) []
none-out ms e zero j w = none-waits ms j e w
none-out ms e (suc k) j w = w

-- ---- passes

module _ {A R : Type 0} {g : Ghosts Past A R} where
  abbrev pub flags_of : Pass Past A R g → List (List Bool)
  flags_of p = (knowledge p).met ∷ []

  abbrev pub numbers_of : Pass Past A R g → List ℕ
  numbers_of p = (knowledge p).number ∷ []

  pub split_flags : (p t q : Pass Past A R g) → SplitsOff p t q
      → Split (knowledge p).met (knowledge t).number (knowledge q).met
  split_flags p t q s = record {
    flags = ap (λ (v : Knowledge Past). v.met) s.opening;
    number_is = ap (λ (v : Knowledge Past). v.number) s.out;
  }

  -- where each pass was met at first, each is met in the end
  pub all_are_met : (p q : Pass Past A R g) → all_met (knowledge p).met ≡ true
      → RunsJobs Splits Stays Keeps place_of Meet true (flags_of p) 0 [] (flags_of q) → all_met (knowledge q).met ≡ true
  all_are_met p q e w = all-met (knowledge q).met (none-left w (none-out (knowledge p).met e) 0)

  -- nothing was split off the opening pass of a new cell
  pub fresh_is_met : (n : Past) (c : Cell Past A R) (p : Pass Past A R g) → IsPutIn n c p
      → all_met (knowledge p).met ≡ true
  fresh_is_met n c p f = ap (λ (v : Knowledge Past). all_met v.met) f.seen
