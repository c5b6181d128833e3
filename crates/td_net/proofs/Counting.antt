-- How many words were drawn, as the words that are to come tell it.
use Rattle.std.proofs.Common.{◌≡◌, ◌⊎◌, inl, inr, ℕ, zero, suc, ◌+◌, ◌-◌, ◌<◌, ◌≤◌, List, [], ◌∷◌, length, slice_index}
use Rattle.std.proofs.Common.{nat_le, Bool, true, false, if◌then◌else◌, refl, sym, ◌∙◌, ap, arith}
use Rattle.std.proofs.lemmas.Bool.Decides.{nat_tests}
use Rattle.std.specs.Prelude.{Ok, Err}
use Rattle.td_net.specs.Supplies.{IsTrimmed, drawn_after, words_from}
use Rattle.td_net.specs.Worlds.{drawn_by}
use Rattle.td_store.specs.declared.local.Local.{Local}
use Rattle.td_walk.specs.Answers.{DrawsGathered, HasDrawn}
use Rattle.td_walk.specs.Visits.{AnswersRead, visit_of}
use Rattle.td_walk.specs.declared.answer.StepAnswer.{StepAnswer}
use Rattle.td_walk.specs.declared.gathering.Gathered.{Gathered}
use Rattle.td_net.specs.Worlds.{drawn_in}

pub past : (ws : List ℕ) (k : ℕ) → length ws ≤ k → slice_index ws k ≡ 0
past [] k far = refl
past (x ∷ ws) zero far = absurd (omega arith)
past (x ∷ ws) (suc k) far = past ws k (omega arith)

-- one list isn't ahead of the other
ahead : (ws : List ℕ) (a b n : ℕ) → IsTrimmed ws → a < length ws → length ws ≤ b + (length ws - 1 - a + n)
    → ((k : ℕ) → words_from ws a k ≡ words_from ws b (k + n)) → ⊥
ahead ws a b n trimmed some far same =
    let k : ℕ = length ws - 1 - a in
    let here : a + k ≡ length ws - 1 = omega arith in
    let e : slice_index ws (a + k) ≡ slice_index ws (b + (k + n)) = same k in
    trimmed (length ws - 1) (omega arith) (ap (slice_index ws) (sym here) ∙ (e ∙ past ws (b + (k + n)) far))

ahead-of : (ws : List ℕ) (a b n : ℕ) → IsTrimmed ws → b + n < length ws → b + n < a
    → ((k : ℕ) → words_from ws a k ≡ words_from ws b (k + n)) → ⊥
ahead-of ws a b n trimmed some far same =
    let k : ℕ = length ws - 1 - (b + n) in
    let here : b + (k + n) ≡ length ws - 1 = omega arith in
    let e : slice_index ws (a + k) ≡ slice_index ws (b + (k + n)) = same k in
    let over : slice_index ws (a + k) ≡ 0 = past ws (a + k) (omega arith) in
    trimmed (length ws - 1) (omega arith) (ap (slice_index ws) (sym here) ∙ (sym e ∙ over))

three : (x y : ℕ) → (x < y) ⊎ ((y < x) ⊎ (x ≡ y))
three x y = grind arith

pub counted : (ws : List ℕ) (before after n : ℕ) → IsTrimmed ws → before ≤ length ws → after ≤ length ws
    → ((k : ℕ) → words_from ws after k ≡ words_from ws before (k + n)) → after ≡ drawn_after ws before n
counted ws before after n trimmed b a same = go (nat_le (before + n) (length ws)) refl
  where
    go : (t : Bool) → nat_le (before + n) (length ws) ≡ t → after ≡ (if t then before + n else length ws)
    go true t = by (three after (before + n))
      where
        fits : before + n ≤ length ws
        fits = let e = t in grind (arith, nat_tests)

        by : (after < before + n) ⊎ ((before + n < after) ⊎ (after ≡ before + n)) → after ≡ before + n
        by (inl x) = absurd (let f = fits in ahead ws after before n trimmed (omega arith) (omega arith) same)
        by (inr (inl x)) = absurd (ahead-of ws after before n trimmed (omega arith) x same)
        by (inr (inr x)) = x
    go false t = by (three after (length ws))
      where
        over : length ws < before + n
        over = let e = t in grind (arith, nat_tests)

        by : (after < length ws) ⊎ ((length ws < after) ⊎ (after ≡ length ws)) → after ≡ length ws
        by (inl x) = absurd (let f = over in ahead ws after before n trimmed x (omega arith) same)
        by (inr (inl x)) = absurd (omega arith)
        by (inr (inr x)) = x

pub next_word : (ws : List ℕ) (d k : ℕ) → slice_index ws (d + 1 + k) ≡ slice_index ws (d + (k + 1))
next_word ws d k = ap (slice_index ws) (omega arith)

-- ---- what a ranking draws

drawn-so : (l : Local) (r : AnswersRead Gathered) (before after : ℕ → ℕ) → DrawsGathered l r before after
    → (k : ℕ) → after k ≡ before (k + drawn_in l r)
drawn-so l (Ok x) before after h = h
drawn-so l (Err q) before after h = absurd h

pub has-drawn : (l : Local) (rs : List StepAnswer) (before after : ℕ → ℕ) → HasDrawn l rs before after
    → (k : ℕ) → after k ≡ before (k + drawn_by l rs)
unfolding HasDrawn drawn_by
has-drawn l rs before after h = drawn-so l (visit_of l rs) before after h
