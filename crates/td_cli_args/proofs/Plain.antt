-- Words that don't begin with `-`.
use Rattle.std.proofs.Common.{◌≡◌, refl, sym, true, false, not, List, [], ◌∷◌, None, Bool, ◌==◌, ℕ}
use Rattle.clap.specs.Words.{Rule, Shape, Text}
use Rattle.clap.specs.Walk.{Held, Walk, Waiting, idle, positional, walked, to_positional, arg_by_index, value}
use Rattle.clap.specs.Takes.{turn_passes, step_passes}
use Rattle.td_cli_args.specs.Forms.{is_plain}

pub is_other : (b : Bool) → not b ≡ true → b ≡ false
is_other true e = sym e
is_other false e = refl

-- where a walk stands that waits for no option
abbrev pub at : Waiting → ℕ → Held → Walk
at waiting i h = record { held = h; waiting = waiting; position = i; is_trailing = false; stopped = None }

pub walked_idle : (c : List Rule) (i : ℕ) (h : Held) (word : Text) → is_plain word ≡ true
    → walked c [] (at idle i h) word ≡ to_positional c (arg_by_index c i) word (at idle i h) h
unfolding walked
walked_idle c i h [] p = refl
walked_idle c i h (x ∷ xs) p = let e = is_other (x == 45) p in rw (e, e) refl

pub walked_more : (c : List Rule) (i : ℕ) (h : Held) (word : Text) → is_plain word ≡ true
    → walked c [] (at positional i h) word ≡ to_positional c (arg_by_index c i) word (at positional i h) h
unfolding walked
walked_more c i h [] p = refl
walked_more c i h (x ∷ xs) p = let e = is_other (x == 45) p in rw (e, e) refl

pub passes_idle : (s : Shape) (i : ℕ) (h : Held) (word : Text) → is_plain word ≡ true
    → turn_passes s [] (at idle i h) word ≡ step_passes s i h value
passes_idle s i h [] p = refl
passes_idle s i h (x ∷ xs) p = let e = is_other (x == 45) p in rw (e, e) refl

pub passes_more : (s : Shape) (i : ℕ) (h : Held) (word : Text) → is_plain word ≡ true
    → turn_passes s [] (at positional i h) word ≡ step_passes s i h value
passes_more s i h [] p = refl
passes_more s i h (x ∷ xs) p = let e = is_other (x == 45) p in rw (e, e) refl
