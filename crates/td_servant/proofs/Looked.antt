-- What a look is answered with.
use Rattle.std.proofs.Common.{◌≡◌, ℕ, List, length, min, ap, subst, ◌∙◌}
use Rattle.td_cdr.specs.Marks.{Marks}
use Rattle.td_cdr.specs.Writing.{Draft}
use Rattle.td_iter.specs.Desks.{Live}
use Rattle.td_ops.specs.declared.call.Look.{Look}
use Rattle.td_ops.specs.declared.outcome.Outcome.{Outcome}
use Rattle.td_register.specs.declared.history.Accepted.{Accepted}
use Rattle.td_trader.specs.Worlds.{LooksAtTrader, View, history_at, name_at}
use Rattle.td_walk.specs.declared.trace.Address.{Address}
use Rattle.td_servant.proofs.Seen.{look_point}
use Rattle.td_servant.specs.Answers.{AnswersWith}
use Rattle.td_servant.specs.Looking.{Cuts, LookComes, how_many}
use Rattle.td_servant.specs.declared.answer.ReplyBody.{ReplyBody}
use Rattle.td_servant.specs.declared.entry.Entry.{Entry}
use Rattle.td_servant.specs.declared.entry.Entry.TheVariants.{Point}

pub look_content : (others : List Accepted → Type 0) (later : Marks → Marks → Type 0) (home : Address)
    (w u : List View) (d after : Live) (k : ℕ) (l : Look) (found : Outcome × ℕ) (point asked n : ℕ) (name : List ℕ)
    (b : ReplyBody) (old new : Draft) → LooksAtTrader others later w k l found u
    → point ≡ length (history_at u k) → asked ≡ how_many l → n ≡ min asked found.1 → name ≡ name_at u k
    → Cuts home name n found.0 old d b new after
    → AnswersWith (λ (o : Outcome) (e : Entry). LookComes others later home w d k l old o e u after)
    (record { body = b; entry = Point k point }) old new
look_content others later home w u d after k l found point asked n name b old new r at is least named cut =
    let first = subst (λ (x : List ℕ). Cuts home x n found.0 old d b new after) named cut in
    let same : n ≡ min (how_many l) found.1 = least ∙ ap (λ (x : ℕ). min x found.1) is in
    let second = subst (λ (x : ℕ). Cuts home (name_at u k) x found.0 old d b new after) same first in
    record {
      outcome = second.outcome;
      comes =
          record {
            found = found.0;
            max_list = found.1;
            looks = r;
            cuts = second.cut;
            noted = ap (λ (x : ℕ). Point k x) (at ∙ look_point others later w u k l found r);
          };
      content = second.content;
    }
