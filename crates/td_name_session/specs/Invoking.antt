-- How a call is performed, and what is handed on of it: a body, which is still to be written or stands in a writer, and
-- whether the call was an accepted change.
use Rattle.std.specs.Prelude.{◌≡◌, ◌⊎◌, ℕ, ◌<◌, Bool, true, false, List, ◌++◌, length, Option, Some, None, take, drop}
use Rattle.td_cdr.specs.Place.{At}
use Rattle.td_cdr.specs.Writing.{Draft}
use Rattle.td_typecode.specs.Formats.{is_nonempty}
use Rattle.td_typecode.specs.declared.reference.Ior.{Ior}
use Rattle.td_iter.specs.Batches.{IsBatch}
use Rattle.td_iter.specs.Desks.{item_of}
use Rattle.td_iter.specs.Heads.{AreShort, given_or_nil}
use Rattle.td_name_ops.specs.Outcomes.{list_piece, next_n_piece, next_one_piece, outcome_piece}
use Rattle.td_name_ops.specs.Outcomes.{outcome_status}
use Rattle.td_name_ops.specs.declared.call.IteratorCall.{IteratorCall}
use Rattle.td_name_ops.specs.declared.call.IteratorCall.TheVariants as iter
use Rattle.td_name_ops.specs.declared.outcome.NameOutcome.{NameOutcome}
use Rattle.td_name_ops.specs.declared.outcome.NameOutcome.TheVariants as outcome
use Rattle.td_name_ops.specs.declared.outcome.NameResult.TheVariants as result
use Rattle.td_names.specs.Spelling.{binding}
use Rattle.td_names.specs.declared.act.NameAct.{NameAct}
use Rattle.td_names.specs.declared.act.NameAnswer.{NameAnswer}
use Rattle.td_names.specs.declared.component.NameBinding.{NameBinding}
use Rattle.td_naming.specs.Histories.{is_accepted}
use Rattle.td_naming.specs.Views.{NamingActs, Meanwhile, View}
use Rattle.td_naming.specs.declared.history.NameChange.{NameChange}
use Rattle.td_name_session.specs.Keys.{desk_label}
use Rattle.td_name_session.specs.Outcomes.{no_memory, outcome_of}
use Rattle.td_name_session.specs.Requests.{AnswersRequest, IteratorDone, ListComes, AnswersNoMemory, first_of, kept_for}
use Rattle.td_name_session.specs.Judging.{JudgesRequest}
use Rattle.td_name_session.specs.ReplyBytes.{BeginsReply}
use Rattle.td_name_session.specs.Requests.{list_head, next_head}
use Rattle.td_name_session.specs.Scenes.{IteratorList, Scene, scene}
use Rattle.td_name_session.specs.Finishing.{AlwaysFits}
use Rattle.td_name_session.specs.declared.answer.Answer.{Answer}
use Rattle.td_name_session.specs.declared.answer.AnswerBody.{AnswerBody}
use Rattle.td_name_session.specs.declared.answer.AnswerBody.TheVariants.{Outcome, Written}
use Rattle.td_name_session.specs.declared.judging.Judged.{Judged}
use Rattle.td_name_session.specs.declared.reply_to.ReplyTo.{ReplyTo}

-- The body is that of this outcome: it is still to be written; or the outcome is a result, and stands in the writer
-- behind the draft.
abbrev pub IsBodyOf : NameOutcome → AnswerBody → (draft written : Draft) → Type 0
IsBodyOf o (Outcome content) draft written = content ≡ o
IsBodyOf o Written draft written =
    (outcome_status o ≡ 0) × (written.bytes
    ≡ draft.bytes ++ outcome_piece o draft.order (length draft.bytes))
    × (written.order ≡ draft.order)

abbrev pub IfOutcome : AnswerBody → Type 0 → Type 0
IfOutcome (Outcome content) P = P
IfOutcome Written P = Unit {0}

-- a truth value
abbrev pub TellsTruth : Bool → Answer → Type 0
TellsTruth truth a = (a.body ≡ Outcome (outcome.Done (result.Truth truth))) × (a.accepted ≡ false)

-- NO_MEMORY, of a call that changed nothing
abbrev pub IsOutOfMemory : Answer → Type 0
IsOutOfMemory a = (a.body ≡ Outcome no_memory) × (a.accepted ≡ false)

-- the first of these bindings stand in the writer behind the draft, and the others are kept in an iterator
pub record CutsTo (iterator : Ior) (bindings : List NameBinding) (how_many : ℕ) (draft : Draft)
    (d : IteratorList) (a : Answer) (written : Draft) (e : IteratorList) : Type 0 where
  pub count : ℕ
  pub batch : IsBatch (list_head iterator) bindings draft how_many count
  pub body : a.body ≡ Written
  pub accepted : a.accepted ≡ false
  pub bytes : written.bytes ≡ draft.bytes ++ list_piece (take count bindings)
      (given_or_nil iterator (is_nonempty (drop count bindings))) draft.order (length draft.bytes)
  pub order : written.order ≡ draft.order
  pub kept : e ≡ kept_for (drop count bindings) d
  pub some : AreShort binding.format.writes bindings → 0 < how_many → 0 < length bindings
      → 0 < count

-- as many as are asked for and fit
pub record PutsSome (n : ℕ) (left : List NameBinding) (draft written : Draft)
    (rest : List NameBinding) : Type 0 where
  pub count : ℕ
  pub batch : IsBatch next_head left draft n count
  pub bytes : written.bytes
      ≡ draft.bytes ++ next_n_piece (take count left) draft.order (length draft.bytes)
  pub order : written.order ≡ draft.order
  pub rest_is : rest ≡ drop count left
  pub some : AreShort binding.format.writes left → 0 < n → 0 < length left → 0 < count

-- the call that asks for the next binding, or for so many
abbrev pub batch_call : Option ℕ → IteratorCall
batch_call None = iter.NextOne
batch_call (Some n) = iter.NextN n

-- the next bindings stand in the writer behind the draft, and these are left
abbrev pub PutsBindings : IteratorCall → List NameBinding → (draft written : Draft)
    → List NameBinding
    → Type 0
PutsBindings iter.NextOne left draft written rest =
    (written.bytes ≡ draft.bytes ++ next_one_piece (first_of left) draft.order (length draft.bytes))
    × (written.order ≡ draft.order) × (rest ≡ drop 1 left)
PutsBindings (iter.NextN n) left draft written rest = PutsSome n left draft written rest
PutsBindings iter.Destroy left draft written rest = ⊥

-- a batch, or memory ran out
pub data GivesTo (i : IteratorCall) (left : List NameBinding) (draft : Draft) (a : Answer)
    (written : Draft) (rest : List NameBinding) : Type 0 where
  gives : PutsBindings i left draft written rest → a.body ≡ Written → a.accepted ≡ false
      → GivesTo i left draft a written rest
  no_memory_outcome : IsOutOfMemory a → rest ≡ left → GivesTo i left draft a written rest

-- a call of an iterator comes to this, or memory ran out
pub data Iterates (n : ℕ) (i : IteratorCall) (draft : Draft) (d : IteratorList) (a : Answer)
    (written : Draft) (e : IteratorList) : Type 0 where
  done : (o : NameOutcome) → IteratorDone n (item_of desk_label n d) i draft d o e
      → IsBodyOf o a.body draft written
      → a.accepted ≡ false → IfOutcome a.body (AlwaysFits o) → Iterates n i draft d a written e
  no_memory_outcome : IsOutOfMemory a → e ≡ d → Iterates n i draft d a written e

module _ (others : List NameChange → Type 0) where
  -- What a judged Request comes to with a writer that held the draft. A body for which memory may run out can be taken
  -- back.
  pub record Invokes (j : Judged) (draft : Draft) (s : Scene) (a : Answer) (written : Draft)
      (t : Scene) : Type 0 where
    pub outcome : NameOutcome
    pub answers : AnswersRequest others j draft s outcome a.accepted t
    pub body : IsBodyOf outcome a.body draft written
    pub if_no_memory : IfOutcome a.body (AlwaysFits outcome
        ⊎ AnswersNoMemory others s no_memory a.accepted t)

  -- the same, with a writer that was begun for the Reply
  pub record InvokesInto (to : ReplyTo) (j : Judged) (s : Scene) (a : Answer) (written : Draft)
      (t : Scene) : Type 0 where
    pub draft : Draft
    pub begun : BeginsReply to draft
    pub invokes : Invokes j draft s a written t

  -- a Request with this key, operation and body is judged, and performed at what is seen then
  pub record Handles (to : ReplyTo) (key operation : List ℕ) (body : At) (s : Scene) (a : Answer)
      (written : Draft) (t : Scene) : Type 0 where
    pub judged : Judged
    pub looked : View
    pub asks : JudgesRequest others s.names s.desk key operation body judged looked
    pub performed : InvokesInto to judged (scene looked s.desk) a written t

  -- a listing of a context
  pub record Lists (n how_many : ℕ) (draft : Draft) (s : Scene) (a : Answer) (written : Draft)
      (t : Scene) : Type 0 where
    pub outcome : NameOutcome
    pub comes : ListComes others n how_many draft s outcome t
    pub body : IsBodyOf outcome a.body draft written
    pub accepted : a.accepted ≡ false
    pub if_no_memory : IfOutcome a.body (AnswersNoMemory others s no_memory false t)

  -- or memory ran out
  pub data ListsOrWants (n how_many : ℕ) (draft : Draft) (s : Scene) (a : Answer) (written : Draft)
      (t : Scene) : Type 0 where
    lists : Lists n how_many draft s a written t → ListsOrWants n how_many draft s a written t
    no_memory_outcome : IsOutOfMemory a → AnswersNoMemory others s no_memory false t
        → ListsOrWants n how_many draft s a written t

  -- A call of a context comes to this, or memory ran out. There is always room for the reply of an accepted change.
  pub data ActsTo (n : ℕ) (act : NameAct) (v : View) (a : Answer) (u : View) : Type 0 where
    done : (answer : NameAnswer) → NamingActs others v n act answer u
        → a.body ≡ Outcome (outcome_of answer)
        → a.accepted ≡ is_accepted act answer → (a.accepted ≡ true → AlwaysFits (outcome_of answer))
        → ActsTo n act v a u
    no_memory_outcome : Meanwhile others v u → IsOutOfMemory a → ActsTo n act v a u
