-- How an answer is told: of a visit, of names, and when memory runs out.
use Rattle.std.specs.Prelude.{◌≡◌, ◌⊎◌, ℕ, ◌<◌, ◌++◌, Bool, true, false, if◌then◌else◌, List, length, map, drop}
use Rattle.std.specs.Prelude.{Result, Ok, Err}
use Rattle.td_cdr.specs.Marks.{Marks}
use Rattle.td_cdr.specs.Writing.{Draft}
use Rattle.td_cdr.specs.declared.memory.Memory.{Memory as OutOfMemory}
use Rattle.td_fed.specs.declared.resolving.NameAnswer.{NameAnswer}
use Rattle.td_iter.specs.Batches.{IsBatch}
use Rattle.td_iter.specs.Desks.{Live}
use Rattle.td_iter.specs.Heads.{AreLimits, AreSmallOffers, offers_found}
use Rattle.td_objects.specs.References.{offer_iterator}
use Rattle.td_lookup.specs.Choosing.{chosen}
use Rattle.td_lookup.specs.Naming.{NameComes, name_entry}
use Rattle.td_lookup.specs.Querying.{QueryComes, AnswersVisit, first_offers, offers_kept}
use Rattle.td_lookup.specs.Scenes.{Scene}
use Rattle.td_lookup.specs.NoMemory.{AnswersNoMemory, no_memory_outcome}
use Rattle.td_ops.specs.Outcomes.{outcome_piece}
use Rattle.td_ops.specs.declared.call.Call.TheVariants as call
use Rattle.td_ops.specs.declared.call.Query.{Query}
use Rattle.td_ops.specs.declared.outcome.Outcome.{Outcome}
use Rattle.td_ops.specs.declared.outcome.Outcome.TheVariants.{System}
use Rattle.td_ops.specs.declared.outcome.SystemKind.TheVariants.{NoMemory}
use Rattle.td_register.specs.declared.history.Accepted.{Accepted}
use Rattle.td_servant.specs.Answers.{AnswersWith, AnswersPlainly, HasBody}
use Rattle.td_servant.specs.declared.answer.Answer.{Answer}
use Rattle.td_servant.specs.declared.answer.ReplyBody.{ReplyBody}
use Rattle.td_servant.specs.declared.answer.ReplyBody.TheVariants as reply_body
use Rattle.td_servant.specs.declared.entry.Entry.{Entry}
use Rattle.td_servant.specs.declared.entry.Entry.TheVariants.{Asked, Plain, Point, Walk}
use Rattle.td_servant.specs.declared.judging.Judged.{Judged}
use Rattle.td_servant.specs.declared.judging.Judged.TheVariants.{Call}
use Rattle.td_servant.specs.declared.objects.Object.{Object}
use Rattle.td_trader.specs.Worlds.{View, history_at}
use Rattle.td_value.specs.declared.structures.Offer.{Offer}
use Rattle.td_walk.specs.declared.trace.Address.{Address}
use Rattle.td_walk.specs.declared.trace.Trace.{Trace}
use Rattle.td_walk.specs.declared.trace.Visit.{Visit}
use Rattle.td_walk.specs.declared.trace.Visit.TheVariants as visit

-- ---- offers

-- only policies that limit a query are among an answer's limits, each at most once
abbrev pub HasLimits : Visit → Type 0
HasLimits (visit.Answered a max_list) = AreLimits a.limits
HasLimits (visit.Refused o) = Unit {0}

-- each offer of the answer, with the properties that are asked for, is short enough for a batch
abbrev pub GivesSmall : Query → Visit → Type 0
GivesSmall q (visit.Answered a max_list) = AreSmallOffers (map (chosen q.desired) a.offers)
GivesSmall q (visit.Refused o) = Unit {0}

-- the first batch for n of the offers was written, with the reference of the desk's next iterator, and the others are
-- kept; where n is at least 1 and there are offers, it isn't empty
pub record PutsFirst (home : Address) (name : List ℕ) (n : ℕ) (limits : List (List ℕ))
    (offers : List Offer) (old new : Draft) (d e : Live) : Type 0 where
  pub count : ℕ
  pub batch : IsBatch (offers_found (offer_iterator home name d.1) limits) offers old n count
  pub bytes : new.bytes ≡
      old.bytes ++ outcome_piece (first_offers home name d.1 limits offers count) old.order
      (length old.bytes)
  pub kept : e ≡ offers_kept name (drop count offers) d
  pub some : 0 < n → 0 < length offers → 0 < count

-- ---- a visit

-- a visit was told so
pub record TellsVisit (home : Address) (name : List ℕ) (q : Query) (v : Visit) (old : Draft)
    (d : Live) (b : ReplyBody) (new : Draft) (e : Live) : Type 0 where
  pub outcome : Outcome
  pub content : AnswersVisit home name q v old d outcome e
  pub tells : HasBody outcome b old new

-- only a visit that came to an end is told
abbrev pub TellsVisited : Address → (name : List ℕ) → Query → Result Visit OutOfMemory → Draft
    → Live
    → ReplyBody → Draft → Live → Type 0
TellsVisited home name q (Ok v) old d b new e = TellsVisit home name q v old d b new e
TellsVisited home name q (Err m) old d b new e = ⊥

-- this holds where the body isn't written yet
abbrev pub IfOutcome : ReplyBody → Type 0 → Type 0
IfOutcome (reply_body.Outcome o) X = X
IfOutcome reply_body.Written X = Unit {0}

-- ---- answers when memory runs out

-- NO_MEMORY, with what is noted
abbrev pub no_memory_with : Entry → Answer
no_memory_with e = record { body = reply_body.Outcome (no_memory_outcome e); entry = e }

-- what is noted of a visit: its trace, whatever it came to
abbrev pub walk_answer : Trace → Result ReplyBody OutOfMemory → Answer
walk_answer t (Ok b) = record { body = b; entry = Walk t }
walk_answer t (Err m) = no_memory_with (Walk t)

-- What is noted in place of an entry whose answer is taken back: what a peer gave, at how many changes are seen, a
-- query's trace, and nothing of any other call.
abbrev pub no_memory_entry : List View → (k : ℕ) → Entry → Entry
no_memory_entry w k Plain = Plain
no_memory_entry w k (Point j point) = Plain
no_memory_entry w k (Asked j point gave) = Asked k (length (history_at w k)) gave
no_memory_entry w k (Walk t) = Walk t

-- ---- names

abbrev pub is_no_memory : Outcome → Bool
is_no_memory (System NoMemory minor completion) = true
is_no_memory other = false

-- what names are answered with; when memory ran out for what a register outside gave, that is noted all the same
abbrev pub name_answer : List View → (k : ℕ) → NameAnswer → Answer
name_answer w k a =
    if is_no_memory a.outcome
    then no_memory_with (no_memory_entry w k (name_entry k a.point a.asked))
    else record { body = reply_body.Outcome a.outcome; entry = name_entry k a.point a.asked }

-- ---- what the answers say

module _ (others : List Accepted → Type 0) (later : Marks → Marks → Type 0) where
  -- NO_MEMORY may stand in place of the answer, with this entry
  abbrev pub GivesNoMemory : Address → Judged → Scene → Entry → Scene → Type 0
  GivesNoMemory home j s e t = AnswersNoMemory others later home j s (no_memory_outcome e) e t

  -- a query is answered with what it comes to, or memory ran out
  abbrev pub AnswersQuery : Address → Object → Scene → (k : ℕ) → Query → (old : Draft) → Answer
      → (new : Draft) → Scene → Type 0
  AnswersQuery home x s k q old a new t =
      AnswersWith (λ o e. QueryComes others later home s k q old o e t) a old new
      ⊎ AnswersWith (λ o e. AnswersNoMemory others later home (Call x (call.Query q)) s o e t) a old
      new

  -- and so are names; an answer that memory ran out for isn't what they come to
  abbrev pub AnswersName : Address → Object → Scene → (k : ℕ) → (names : List (List ℕ)) → Answer
      → Scene → Type 0
  AnswersName home x s k names a t =
      AnswersPlainly (λ o e. NameComes others later home s k names o e t × (is_no_memory o ≡ false))
      a
      ⊎ AnswersPlainly (λ o e. AnswersNoMemory others later home (Call x (call.Resolve names)) s o e
      t) a
