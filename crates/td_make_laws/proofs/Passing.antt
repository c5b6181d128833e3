-- Lines that go well, and those behind them.
use Rattle.std.proofs.Common.{◌≡◌, ℕ, ◌+◌, List, [], ◌∷◌, ◌++◌, length, Option, Some, None, ap, ◌∙◌}
use Rattle.std.proofs.Common.{arith}
use Rattle.std.specs.Str.Lines.{lines}
use Rattle.td_lines.specs.Scripts.{go_on, rest_of_file}
use Rattle.td_lines.specs.Steps.{LineStep, goes, stops, with_line}
use Rattle.td_make_laws.proofs.Joined.{Ends, lines-joined}
use Rattle.td_make_laws.proofs.Types.{Draft}

abbrev pub further : LineStep → (Draft → Option Draft) → Option Draft
further (goes d) f = f d
further (stops d refused) f = None

-- what lines say behind n others, if each of them goes well
abbrev pub passed : ℕ → Draft → List (List ℕ) → Option Draft
passed n d [] = Some d
passed n d (line ∷ others) = further (with_line d (n + 1) line) (λ more. passed (n + 1) more others)

pub passes : (xs ys : List (List ℕ)) (n : ℕ) (d e : Draft) → passed n d xs ≡ Some e
    → rest_of_file n d (xs ++ ys) ≡ rest_of_file (n + length xs) e ys
passes [] ys n d e h =
    let same : d ≡ e = cc in
    let count : n ≡ n + 0 = omega arith in
    ap (λ (m : ℕ). rest_of_file m d ys) count ∙ ap (λ (f : Draft). rest_of_file (n + 0) f ys) same
passes (x ∷ xs) ys n d e h = by_step (with_line d (n + 1) x) (λ m f. passes xs ys m f e) h
  where
    by_step : (s : LineStep)
        → ((m : ℕ) (f : Draft) → passed m f xs ≡ Some e
        → rest_of_file m f (xs ++ ys) ≡ rest_of_file (m + length xs) e ys)
        → further s (λ more. passed (n + 1) more xs) ≡ Some e
        → go_on s (λ more. rest_of_file (n + 1) more (xs ++ ys)) ≡ rest_of_file (n + length (x ∷ xs)) e ys
    by_step (goes f) again h =
        let count : n + 1 + length xs ≡ n + length (x ∷ xs) = omega arith in
        again (n + 1) f h ∙ ap (λ (m : ℕ). rest_of_file m e ys) count
    by_step (stops f refused) again h = absurd cc

-- a text that goes well in front of another one
pub text-passes : (x y : List ℕ) (n : ℕ) (d e : Draft) → Ends x → passed n d (lines x) ≡ Some e
    → rest_of_file n d (lines (x ++ y)) ≡ rest_of_file (n + length (lines x)) e (lines y)
text-passes x y n d e ends h =
    ap (λ (ls : List (List ℕ)). rest_of_file n d ls) (lines-joined x y ends) ∙ passes (lines x) (lines y) n d e h
