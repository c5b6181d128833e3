-- What a Request comes to: an outcome, and how everything stands then (OMG's Naming Service, interfaces
-- CosNaming::NamingContext and CosNaming::BindingIterator; CORBA, chapter "ORB Interface").
use Rattle.std.specs.Prelude.{◌≡◌, ◌⊎◌, ℕ, ◌<◌, Bool, false, ◌||◌, List, [], ◌∷◌, length, Option, Some, None}
use Rattle.std.specs.Prelude.{take, drop}
use Rattle.std.specs.Str.{bytes_eq}
use Rattle.td_cdr.specs.Format.{Piece}
use Rattle.td_cdr.specs.Writing.{Draft}
use Rattle.td_typecode.specs.Formats.{is_nonempty}
use Rattle.td_typecode.specs.declared.reference.Ior.{Ior}
use Rattle.td_iter.specs.Batches.{IsBatch}
use Rattle.td_iter.specs.Desks.{with_added, item_of, without_item, with_item}
use Rattle.td_iter.specs.Heads.{AreShort, given_or_nil}
use Rattle.td_name_ops.specs.Outcomes.{list_piece, next_n_piece}
use Rattle.td_name_ops.specs.declared.call.IteratorCall.{IteratorCall}
use Rattle.td_name_ops.specs.declared.call.IteratorCall.TheVariants as iter
use Rattle.td_name_ops.specs.declared.call.NameCall.{NameCall}
use Rattle.td_name_ops.specs.declared.call.NameCall.TheVariants as call
use Rattle.td_name_ops.specs.declared.operation.NameKind.{NameKind}
use Rattle.td_name_ops.specs.declared.outcome.NameOutcome.{NameOutcome}
use Rattle.td_name_ops.specs.declared.outcome.NameOutcome.TheVariants as outcome
use Rattle.td_name_ops.specs.declared.outcome.NameResult.TheVariants as result
use Rattle.td_names.specs.Spelling.{binding}
use Rattle.td_names.specs.declared.act.NameAct.{NameAct}
use Rattle.td_names.specs.declared.act.NameAct.TheVariants as act
use Rattle.td_names.specs.declared.act.NameAnswer.{NameAnswer}
use Rattle.td_names.specs.declared.act.NameAnswer.TheVariants.{Done}
use Rattle.td_names.specs.declared.act.NameReply.TheVariants.{Bindings}
use Rattle.td_names.specs.declared.address.Address.{Address as Home}
use Rattle.td_names.specs.declared.component.NameBinding.{NameBinding}
use Rattle.td_naming.specs.Histories.{is_accepted}
use Rattle.td_naming.specs.Views.{NamingActs}
use Rattle.td_naming.specs.declared.history.NameChange.{NameChange}
use Rattle.td_ops.specs.declared.outcome.SystemKind.TheVariants.{ObjectNotExist}
use Rattle.td_name_session.specs.Keys.{context_in, interface_id, iterator_in, iterator_reference, kind_of, desk_label}
use Rattle.td_name_session.specs.Keys.{object_id}
use Rattle.td_name_session.specs.Outcomes.{no_memory, outcome_of, refusal_outcome, system}
use Rattle.td_name_session.specs.Scenes.{Idles, IteratorList, Scene}
use Rattle.td_name_session.specs.declared.judging.Judged.{Judged}
use Rattle.td_name_session.specs.declared.judging.Judged.TheVariants.{Call, Refused}
use Rattle.td_name_session.specs.declared.keys.NameKey.{NameKey}

-- ---- batches

-- the result of `list` with these bindings, and with an iterator where some are left behind them
abbrev pub list_head : Ior → List NameBinding → Bool → Piece
list_head iterator bindings more = list_piece bindings (given_or_nil iterator more)

-- the result of `next_n`, whatever is left
abbrev pub next_head : List NameBinding → Bool → Piece
next_head bindings more = next_n_piece bindings

-- the bindings are kept in an iterator, if there are some
abbrev pub kept_for : List NameBinding → IteratorList → IteratorList
kept_for [] d = d
kept_for (b ∷ bs) d = with_added desk_label (b ∷ bs) d

-- A listing is told as far as it is asked for and fits: the first bindings, and an iterator of the others, nil exactly
-- where none are left. Where one at least is asked for and there is one, and each is short, one at least is told.
pub record CutsBindings (home : Home) (bindings : List NameBinding) (how_many : ℕ) (draft : Draft)
    (d : IteratorList) (o : NameOutcome) (e : IteratorList) : Type 0 where
  pub count : ℕ
  pub batch : IsBatch (list_head (iterator_reference home d.1)) bindings draft how_many count
  pub content : o ≡ outcome.Done (result.List (take count bindings)
      (given_or_nil (iterator_reference home d.1) (is_nonempty (drop count bindings))))
  pub kept : e ≡ kept_for (drop count bindings) d
  pub some : AreShort binding.format.writes bindings → 0 < how_many → 0 < length bindings
      → 0 < count

abbrev pub CutsList : Home → NameAnswer → (how_many : ℕ) → Draft → IteratorList → NameOutcome
    → IteratorList
    → Type 0
CutsList home (Done (Bindings bindings)) how_many draft d o e = CutsBindings home bindings how_many
    draft d o e
CutsList home r how_many draft d o e = (o ≡ outcome_of r) × (e ≡ d)

-- ---- iterators

abbrev pub first_of : List NameBinding → Option NameBinding
first_of [] = None
first_of (b ∷ bs) = Some b

-- The next bindings: as many as are asked for and fit. Where one at least is asked for and is left, and each is short,
-- one at least is given.
pub record GivesBindings (n how_many : ℕ) (left : List NameBinding) (draft : Draft)
    (d : IteratorList)
    (o : NameOutcome) (e : IteratorList) : Type 0 where
  pub count : ℕ
  pub batch : IsBatch next_head left draft how_many count
  pub content : o ≡ outcome.Done (result.NextN (take count left))
  pub kept : e ≡ with_item desk_label n d (drop count left)
  pub some : AreShort binding.format.writes left → 0 < how_many → 0 < length left → 0 < count

-- a call of an iterator with these bindings left
abbrev pub IteratorDone : (n : ℕ) → Option (List NameBinding) → IteratorCall → Draft → IteratorList
    → NameOutcome → IteratorList → Type 0
IteratorDone n None i draft d o e = (o ≡ system ObjectNotExist) × (e ≡ d)
IteratorDone n (Some left) iter.NextOne draft d o e =
    (o ≡ outcome.Done (result.NextOne (first_of left)))
    × (e ≡ with_item desk_label n d (drop 1 left))
IteratorDone n (Some left) (iter.NextN m) draft d o e = GivesBindings n m left draft d o e
IteratorDone n (Some left) iter.Destroy draft d o e =
    (o ≡ outcome.Done result.Nothing) × (e ≡ without_item desk_label n d)

-- ---- calls

abbrev pub is_a : NameKind → List ℕ → Bool
is_a kind id = bytes_eq id (interface_id kind) || bytes_eq id object_id

module _ (others : List NameChange → Type 0) where
  -- a call of a context, but for `list`
  pub record ActComes (n : ℕ) (a : NameAct) (s : Scene) (o : NameOutcome) (accepted : Bool)
      (t : Scene) : Type 0 where
    pub answer : NameAnswer
    pub acts : NamingActs others s.names n a answer t.names
    pub content : o ≡ outcome_of answer
    pub is : accepted ≡ is_accepted a answer
    pub desk : t.desk ≡ s.desk

  pub record ListComes (n how_many : ℕ) (draft : Draft) (s : Scene) (o : NameOutcome)
      (t : Scene) : Type 0 where
    pub answer : NameAnswer
    pub acts : NamingActs others s.names n act.List answer t.names
    pub cuts : CutsList s.names.home answer how_many draft s.desk o t.desk

  -- A call of an object: its outcome, whether it was an accepted change, and how everything stands then.
  abbrev pub CallComes : NameKey → NameCall → (draft : Draft) → Scene → NameOutcome → Bool → Scene
      → Type 0
  CallComes key (call.Act a) draft s o accepted t = ActComes (context_in key) a s o accepted t
  CallComes key (call.List n) draft s o accepted t =
      ListComes (context_in key) n draft s o t × (accepted ≡ false)
  CallComes key (call.Iterator i) draft s o accepted t =
      IteratorDone (iterator_in key) (item_of desk_label (iterator_in key) s.desk)
      i draft s.desk o t.desk
      × (t.names ≡ s.names) × (accepted ≡ false)
  CallComes key (call.IsA id) draft s o accepted t =
      (o ≡ outcome.Done (result.Truth (is_a (kind_of key) id))) × (t ≡ s) × (accepted ≡ false)
  CallComes key call.NonExistent draft s o accepted t =
      (o ≡ outcome.Done (result.Truth false)) × (t ≡ s) × (accepted ≡ false)

  -- a Request that spells no call is refused, and that is all
  abbrev pub OutcomeOfRequest : Judged → (draft : Draft) → Scene → NameOutcome → Bool → Scene
      → Type 0
  OutcomeOfRequest (Refused k minor) draft s o accepted t = (o ≡ refusal_outcome k minor) × (t ≡ s)
      × (accepted ≡ false)
  OutcomeOfRequest (Call key c) draft s o accepted t = CallComes key c draft s o accepted t

  -- Memory ran out: nothing was done but by others.
  pub record AnswersNoMemory (s : Scene) (o : NameOutcome) (accepted : Bool) (t : Scene) :
      Type 0 where
    pub content : o ≡ no_memory
    pub idles : Idles others s.names t.names
    pub desk : t.desk ≡ s.desk
    pub is : accepted ≡ false

  abbrev pub AnswersRequest : Judged → (draft : Draft) → Scene → NameOutcome → Bool → Scene → Type 0
  AnswersRequest j draft s o accepted t = OutcomeOfRequest j draft s o accepted t
      ⊎ AnswersNoMemory s o accepted t
