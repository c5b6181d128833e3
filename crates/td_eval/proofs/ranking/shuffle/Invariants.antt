use Rattle.std.proofs.Common.{◌≡◌, ℕ, ◌+◌, ◌-◌, vec_len}
use Rattle.td_eval.specs.Ranking.{shuffle_of}
use Rattle.td_eval.proofs.ranking.shuffle.Given as goal

abbrev pub invariant-loop-below : goal.invariant-loop-below
invariant-loop-below g l =
    (shuffle_of (g.W.Words.word l.initial.words) (vec_len l.initial.offers - 1 - l.below) l.below l.offers.items
    ≡ shuffle_of (g.W.Words.word l.initial.words) 0 (vec_len l.initial.offers - 1) l.initial.offers.items)
    × ((k : ℕ) → g.W.Words.word l.words k
    ≡ g.W.Words.word l.initial.words (k + (vec_len l.initial.offers - 1 - l.below)))
    × (vec_len l.offers ≡ vec_len l.initial.offers)
    × (g.W.Words.last_seeding l.words ≡ g.W.Words.last_seeding l.initial.words)
    × g.W.Words.same l.initial.words l.words
