-- A change of the type repository isn't answered as a look is, and its reply is that of the operation.
use Rattle.std.proofs.Common.{◌≡◌, ◌+◌, ◌≤◌, ◌^◌, ℕ, Bool, false, List, Result, Ok, Err, refl, sym, ap, subst}
use Rattle.std.proofs.Common.{arith, ◌∙◌}
use Rattle.td_types.specs.Calls.{AnswersRepositoryCall, AnswersFreely, RepositoryResult, add_type, mask_type}
use Rattle.td_types.specs.Calls.{remove_type, unmask_type}
use Rattle.td_types.specs.Repository.{Repository}
use Rattle.td_types.specs.declared.fault.TypesFault.{TypesFault}
use Rattle.td_types.specs.declared.reply.TypesReply.{TypesReply}
use Rattle.td_types.specs.declared.reply.TypesReply.TheVariants as content
use Rattle.td_value.specs.declared.structures.PropStruct.{PropStruct}
use Rattle.td_ops.specs.declared.call.Change.{Change}
use Rattle.td_ops.specs.declared.outcome.Reply.{Reply}
use Rattle.td_ops.specs.declared.outcome.Reply.TheVariants.{Nothing, Incarnation}
use Rattle.td_types.specs.Repository.{halves}
use Rattle.td_types.specs.declared.fault.TypesFault.TheVariants.{User as Raises, Full, Memory}
use Rattle.td_register.specs.Causes.{unless_full}
use Rattle.td_register.specs.Entries.{entry}
use Rattle.td_register.specs.Judged.{AcceptsChange}
use Rattle.td_register.specs.Stores.{Store}
use Rattle.td_register.specs.declared.history.Accepted.{Accepted}
use Rattle.td_register.specs.declared.refusal.Fault.{Fault}
use Rattle.td_admin.specs.Repositories.{next_incarnation, reply_of, types_cause, with_types}
use Rattle.td_admin.specs.RepositoryJudged.{IsRepositoryAnswer, IsOfChange}
use Rattle.td_admin.proofs.TypesTold.{added-content, masked-content, removed-content, unmasked-content}

-- whatever is told, if it is so
of_like : (t u : TypesReply) → IsOfChange (Ok u) → t ≡ u → IsOfChange (Ok t)
of_like t u h e = subst (λ (x : TypesReply). IsOfChange (Ok x)) (sym e) h

of_answer : (comes : RepositoryResult) (old new : Repository) (answer : Result TypesReply TypesFault) →
    ((a : TypesReply × Repository) → comes ≡ Ok a → IsOfChange (Ok a.0)) → AnswersRepositoryCall comes old new answer →
    IsOfChange answer
of_answer comes old new (Ok t) on h = on (t, new) h
of_answer comes old new (Err f) on h = tt

freely : (comes : RepositoryResult) (old new : Repository) (answer : Result TypesReply TypesFault) →
    ((a : TypesReply × Repository) → comes ≡ Ok a → IsOfChange (Ok a.0)) → AnswersFreely comes old new answer →
    IsOfChange answer
freely comes old new (Ok t) on h = on (t, new) h
freely comes old new (Err f) on h = tt

pub adds : (r new : Repository) (name if_name : List ℕ) (props : List PropStruct) (supers : List (List ℕ))
    (answer : Result TypesReply TypesFault) → AnswersRepositoryCall (add_type r name if_name props supers) r new answer →
    IsOfChange answer
adds r new name if_name props supers answer h =
    of_answer (add_type r name if_name props supers) r new answer
    (λ a e. of_like a.0 (content.Added _) tt (added-content r name if_name props supers a e).reply) h

pub removes : (r new : Repository) (name : List ℕ) (answer : Result TypesReply TypesFault) →
    AnswersFreely (remove_type r name) r new answer → IsOfChange answer
removes r new name answer h =
    freely (remove_type r name) r new answer (λ a e. of_like a.0 content.Removed tt (removed-content r name a e)) h

pub masks : (r new : Repository) (name : List ℕ) (answer : Result TypesReply TypesFault) →
    AnswersFreely (mask_type r name) r new answer → IsOfChange answer
masks r new name answer h =
    freely (mask_type r name) r new answer (λ a e. of_like a.0 content.Masked tt (masked-content r name a e)) h

pub unmasks : (r new : Repository) (name : List ℕ) (answer : Result TypesReply TypesFault) →
    AnswersFreely (unmask_type r name) r new answer → IsOfChange answer
unmasks r new name answer h =
    freely (unmask_type r name) r new answer (λ a e. of_like a.0 content.Unmasked tt (unmasked-content r name a e)) h

-- ---- what is told of a call that the repository accepts, as a reply

abbrev pub Telling : RepositoryResult → Reply → Type 0
Telling comes content = (a : TypesReply × Repository) → comes ≡ Ok a → reply_of a.0 ≡ content

pub adding-content : (r : Repository) (name if_name : List ℕ) (props : List PropStruct) (supers : List (List ℕ)) →
    Telling (add_type r name if_name props supers) (Incarnation (halves (next_incarnation r.last)))
adding-content r name if_name props supers a e =
    let is = added-content r name if_name props supers a e in
    ap reply_of is.reply ∙ ap (λ (n : ℕ). Incarnation (halves n)) (next-one r.last is.below)
  where
    next-one : (n : ℕ) → n + 1 ≤ 2 ^ 40 → n + 1 ≡ next_incarnation n
    next-one n h = omega (arith, h)

pub removing-content : (r : Repository) (name : List ℕ) → Telling (remove_type r name) Nothing
removing-content r name a e = ap reply_of (removed-content r name a e)

pub masking-content : (r : Repository) (name : List ℕ) → Telling (mask_type r name) Nothing
masking-content r name a e = ap reply_of (masked-content r name a e)

pub unmasking-content : (r : Repository) (name : List ℕ) → Telling (unmask_type r name) Nothing
unmasking-content r name a e = ap reply_of (unmasked-content r name a e)

-- ---- such a call is the change

abbrev reply_in : Reply → Result Reply Fault → Reply
reply_in other (Ok reply) = reply
reply_in other (Err f) = other

module _ (c : Change) (full : Bool) (s : Store) (comes : RepositoryResult) (content : Reply) (new : Repository) (reply : Reply) (a :
    Accepted) where
  abbrev IsDone : Type 0
  IsDone =
      AcceptsChange c (unless_full full (types_cause comes) content (with_types s comes)) s (record s { types = new }) (Ok a)

  done : (t : TypesReply) → Telling comes content → comes ≡ Ok (t, new) → IsRepositoryAnswer (Ok t) (Ok reply) → full ≡ false →
      a ≡ entry c reply → IsDone
  done t tells is answer below entered =
      let same : content ≡ reply = sym (tells (t, new) is) ∙ sym (ap (reply_in reply) answer) in
      rw (entered, below, is, same) (refl, refl)

  pub takes : (answer : Result TypesReply TypesFault) → Telling comes content → AnswersRepositoryCall comes s.types new answer →
      IsRepositoryAnswer answer (Ok reply) → full ≡ false → a ≡ entry c reply → IsDone
  takes (Ok t) tells is answer below entered = done t tells is answer below entered
  takes (Err (Raises f)) tells is answer below entered = absurd cc
  takes (Err Full) tells is answer below entered = absurd cc
  takes (Err Memory) tells is answer below entered = absurd cc

  pub takes_freely : (answer : Result TypesReply TypesFault) → Telling comes content →
      AnswersFreely comes s.types new answer → IsRepositoryAnswer answer (Ok reply) → full ≡ false → a ≡ entry c reply → IsDone
  takes_freely (Ok t) tells is answer below entered = done t tells is answer below entered
  takes_freely (Err (Raises f)) tells is answer below entered = absurd cc
  takes_freely (Err Full) tells is answer below entered = absurd is
  takes_freely (Err Memory) tells is answer below entered = absurd cc
