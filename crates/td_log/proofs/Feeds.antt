-- The lines of a log, from its cuts at line feeds.
use Rattle.std.proofs.Common.{◌≡◌, ℕ, ◌<◌, List, [], ◌∷◌, length, take, drop, Some, None, refl, ap, nat_eq}
use Rattle.std.proofs.Common.{◌∙◌, arith}
use Rattle.std.specs.List.{position, slice_split}
use Rattle.std.proofs.lemmas.List.Splits.{length-slice_split}
use Rattle.td_forms.proofs.Splitting.{split-None, split-pieces}
use Rattle.td_log.specs.Words.{lines_of, without_end}

one-part : (log : List ℕ) → 0 < length log → without_end (log ∷ []) ≡ log ∷ []
one-part [] h = absurd (omega arith)
one-part (b ∷ bytes) h = refl

more-parts : (part : List ℕ) (parts : List (List ℕ)) → 0 < length parts
    → without_end (part ∷ parts) ≡ part ∷ without_end parts
more-parts part [] h = absurd (omega arith)
more-parts part (next ∷ parts) h = refl

-- a log without a line feed is one line
pub lines-one : (log : List ℕ) → position (λ b. nat_eq b 10) log ≡ None → 0 < length log → lines_of log ≡ log ∷ []
unfolding lines_of
lines-one log e h = ap without_end (split-None (λ b. nat_eq b 10) log e) ∙ one-part log h

-- the first line feed ends the first line
pub lines-step : (log line rest after : List ℕ) (i : ℕ) → Some i ≡ position (λ b. nat_eq b 10) log → line ≡ take i log
    → rest ≡ drop i log → after ≡ drop 1 rest → lines_of log ≡ line ∷ lines_of after
unfolding lines_of
lines-step log line rest after i e l r a =
    ap without_end (split-pieces (λ b. nat_eq b 10) log line rest after i e l r a)
    ∙ more-parts line (slice_split (λ b. nat_eq b 10) after)
    (omega (arith, length-slice_split (λ b. nat_eq b 10) after))
