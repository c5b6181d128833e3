-- Three texts one after the other, on their way to a sink.
use Rattle.std.proofs.Common.{◌≡◌, ℕ, ◌≤◌, List, ◌++◌, Option, subst, arith}
use Rattle.std.specs.Io.KnownBytes.{Appends}
use Rattle.td_out.specs.Causes.{Rose}
use Rattle.td_out.proofs.Steps.{Appends-then, Rose-later}
use Rattle.td_out.proofs.Telling.{tells-after, tells-before}
use Rattle.td_out.specs.SinkTexts.{GivesText}

pub first-fails : (a b c : List ℕ) (w0 w : Option (List ℕ)) (f0 f : ℕ) → GivesText a w0 w f0 f → Rose f0 f
    → GivesText (a ++ b ++ c) w0 w f0 f
first-fails a b c w0 w f0 f t r = tells-before (a ++ b) c w0 w f0 f (tells-before a b w0 w f0 f t r) r

pub second-fails : (a b digits c : List ℕ) (w0 w1 w2 : Option (List ℕ)) (f0 f1 f2 : ℕ) → digits ≡ b → Appends w0 w1 a
    → f0 ≤ f1 → GivesText digits w1 w2 f1 f2 → Rose f1 f2 → GivesText (a ++ b ++ c) w0 w2 f0 f2
second-fails a b digits c w0 w1 w2 f0 f1 f2 e g h t r =
    tells-before (a ++ b) c w0 w2 f0 f2
    (tells-after a b w0 w1 w2 f0 f1 f2 g h (subst (λ (x : List ℕ). GivesText x w1 w2 f1 f2) e t))
    (Rose-later f0 f1 f2 h r)

pub third-tells : (a b digits c : List ℕ) (w0 w1 w2 w3 : Option (List ℕ)) (f0 f1 f2 f3 : ℕ) → digits ≡ b
    → Appends w0 w1 a → f0 ≤ f1 → Appends w1 w2 digits → f1 ≤ f2 → GivesText c w2 w3 f2 f3 → GivesText (a ++ b ++ c) w0 w3 f0 f3
third-tells a b digits c w0 w1 w2 w3 f0 f1 f2 f3 e g h g2 h2 t =
    tells-after (a ++ b) c w0 w2 w3 f0 f2 f3
    (Appends-then w0 w1 w2 a b g (subst (λ (x : List ℕ). Appends w1 w2 x) e g2)) (omega (arith, h, h2)) t
