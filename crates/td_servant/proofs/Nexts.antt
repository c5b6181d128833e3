-- Calls of iterators.
use Rattle.std.proofs.Common.{◌≡◌, ℕ, zero, suc, ◌<◌, Bool, List, length, take, drop, refl, ap, arith}
use Rattle.td_cdr.specs.Writing.{Draft}
use Rattle.td_typecode.specs.Formats.{is_nonempty}
use Rattle.td_iter.specs.Batches.{GivesBatch}
use Rattle.td_iter.specs.Desks.{Live, item_of}
use Rattle.td_iter.specs.Heads.{next_ids, next_offers}
use Rattle.td_iter.specs.declared.item.Item.TheVariants.{Offers, Ids}
use Rattle.td_ops.specs.declared.call.IterCall.{IterCall}
use Rattle.td_ops.specs.declared.outcome.Outcome.{Outcome}
use Rattle.td_ops.specs.declared.outcome.Outcome.TheVariants.{Done}
use Rattle.td_ops.specs.declared.outcome.Reply.TheVariants as reply
use Rattle.td_value.specs.declared.structures.Offer.{Offer}
use Rattle.td_servant.specs.Answers.{AnswersWith}
use Rattle.td_servant.specs.Iterating.{IteratorComes, IteratorDone, AnswersIterator, PutsNext}
use Rattle.td_servant.specs.declared.answer.ReplyBody.{ReplyBody}
use Rattle.td_servant.specs.declared.answer.ReplyBody.TheVariants as reply_body
use Rattle.td_servant.specs.declared.entry.Entry.{Entry}
use Rattle.td_servant.specs.declared.entry.Entry.TheVariants.{Plain}

-- what is less than all has something before it
dropped-some : {X : Type 0} (k : ℕ) (left rest : List X) → rest ≡ drop k left → length rest < length left → 0 < k
dropped-some zero left rest e less =
    let same = ap length e in absurd (let no : ⊥ = omega (arith, same, less) in no)
dropped-some (suc k) left rest e less = omega arith

pub next_of_offers : (n : ℕ) (left rest : List Offer) (old new : Draft) (more : Bool)
    → GivesBatch next_offers left n rest old new more → (0 < n → 0 < length left → length rest < length left)
    → PutsNext n (Offers left) old new (Offers rest)
next_of_offers n left rest old new more g some = record {
  outcome = Done (reply.Batch (is_nonempty (drop g.count left)) (take g.count left));
  next = record {
    count = g.count;
    batch = g.puts.is_batch;
    outcome = refl;
    rest = ap (λ (xs : List Offer). Offers xs) g.rest_is;
    some = λ asked there. dropped-some g.count left rest g.rest_is (some asked there);
  };
  status = refl;
  bytes = g.puts.bytes;
}

pub next_of_ids : (n : ℕ) (left rest : List (List ℕ)) (old new : Draft) (more : Bool)
    → GivesBatch next_ids left n rest old new more → (0 < n → 0 < length left → length rest < length left)
    → PutsNext n (Ids left) old new (Ids rest)
next_of_ids n left rest old new more g some = record {
  outcome = Done (reply.IdBatch (is_nonempty (drop g.count left)) (take g.count left));
  next = record {
    count = g.count;
    batch = g.puts.is_batch;
    outcome = refl;
    rest = ap (λ (xs : List (List ℕ)). Ids xs) g.rest_is;
    some = λ asked there. dropped-some g.count left rest g.rest_is (some asked there);
  };
  status = refl;
  bytes = g.puts.bytes;
}

module _ (name : List ℕ) (number : ℕ) (d : Live) (old new : Draft) (e : Live) where
  -- no bytes are written
  pub outcome_in_reply : (call : IterCall) (o : Outcome) → IteratorDone name number (item_of name number d) call d old o e
      → new.bytes ≡ old.bytes → AnswersIterator name number call d old (reply_body.Outcome o) new e
  outcome_in_reply call o h bytes = record { outcome = o; is_done = h; content = (refl, bytes) }

  -- no trader is called
  pub iterator_content : (call : IterCall) (b : ReplyBody) → AnswersIterator name number call d old b new e
      → AnswersWith (λ (o : Outcome) (x : Entry). IteratorComes name number call d old o x e)
      (record { body = b; entry = Plain }) old new
  iterator_content call b h = record {
    outcome = h.outcome;
    comes = record { is_done = h.is_done; noted = refl };
    content = h.content;
  }
