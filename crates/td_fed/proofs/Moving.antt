-- What becomes of the traders of a group and of the random words to come, step after step.
use Rattle.std.proofs.Common.{◌≡◌, ℕ, ◌+◌, List, Ok, Err, refl, ap, ◌∙◌, arith}
use Rattle.td_cdr.specs.Marks.{Marks}
use Rattle.td_fed.specs.Trails.{DrawsOn, Goes, stays, began, watched}
use Rattle.td_ops.specs.declared.call.Look.{Look}
use Rattle.td_ops.specs.declared.call.Query.{Query}
use Rattle.td_ops.specs.declared.outcome.Outcome.{Outcome}
use Rattle.td_register.specs.declared.history.Accepted.{Accepted}
use Rattle.td_store.specs.declared.local.Local.{Local}
use Rattle.td_trader.specs.Worlds.{BeginsQuery, LooksAtTrader, View, Watches}
use Rattle.td_trader.specs.declared.begin.Begin.{Begin}
use Rattle.td_walk.specs.Answers.{DrawsGathered, HasDrawn, drawn_by}
use Rattle.td_walk.specs.Visits.{AnswersRead, visit_of}
use Rattle.td_walk.specs.declared.answer.StepAnswer.{StepAnswer}
use Rattle.td_walk.specs.declared.gathering.Gathered.{Gathered}

-- ---- the traders

module _ (others : List Accepted → Type 0) (later : Marks → Marks → Type 0) where
  -- nothing was done
  pub goes-none : (w : List View) → Goes others later w w
  goes-none w = stays

  -- one after the other
  pub goes-after : (w u v : List View) → Goes others later w u → Goes others later u v → Goes others later w v
  goes-after w u v stays more = more
  goes-after w u v (began {u = m} k q b begun rest) more = began k q b begun (goes-after m u v rest more)
  goes-after w u v (watched {u = m} k seen rest) more = watched k seen (goes-after m u v rest more)

  pub goes-begun : (w u : List View) (k : ℕ) (q : Query) (b : Begin) → BeginsQuery others later w k q b u
      → Goes others later w u
  goes-begun w u k q b h = began k q b h stays

  pub goes-watched : (w u : List View) (k : ℕ) → Watches others later w k u → Goes others later w u
  goes-watched w u k h = watched k h stays

  pub goes-looked : (w u : List View) (k : ℕ) (l : Look) (a : Outcome × ℕ) → LooksAtTrader others later w k l a u
      → Goes others later w u
  goes-looked w u k l a h = watched k (record { seen = h.seen; meanwhile = h.meanwhile; world = h.world }) stays

-- ---- the words

-- these are the same words still
pub draws-same : (before after : ℕ → ℕ) → ((k : ℕ) → after k ≡ before k) → DrawsOn before after
draws-same before after same = record {
  count = 0;
  rest = λ k. let e : k ≡ 0 + k = omega arith in same k ∙ ap before e;
}

pub draws-none : (words : ℕ → ℕ) → DrawsOn words words
draws-none words = draws-same words words (λ k. refl)

-- one after the other
pub draws-after : (before middle after : ℕ → ℕ) → DrawsOn before middle → DrawsOn middle after → DrawsOn before after
draws-after before middle after p q = record {
  count = p.count + q.count;
  rest = λ k.
      let e : p.count + (q.count + k) ≡ p.count + q.count + k = omega arith in
      q.rest k ∙ (p.rest (q.count + k) ∙ ap before e);
}

draws-gathered : (l : Local) (r : AnswersRead Gathered) (before after : ℕ → ℕ) → DrawsGathered l r before after
    → DrawsOn before after
draws-gathered l (Ok r) before after h = record {
  count = drawn_by l r.0;
  rest = λ k. let e : k + drawn_by l r.0 ≡ drawn_by l r.0 + k = omega arith in h k ∙ ap before e;
}
draws-gathered l (Err question) before after h = absurd h

-- those that the ranking of an answer drew
pub has-drawn : (l : Local) (answers : List StepAnswer) (before after : ℕ → ℕ) → HasDrawn l answers before after
    → DrawsOn before after
unfolding HasDrawn
has-drawn l answers before after h = draws-gathered l (visit_of l answers) before after h
