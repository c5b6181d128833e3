-- What a message for an iterator comes to: one call of the desk, and its reply (CORBA, chapter on General Inter-ORB
-- Protocol, "Reply Message" and "LocateReply Message").
use Rattle.std.specs.Prelude.{◌≡◌, ◌⊎◌, ℕ, ◌+◌, Bool, true, false, List, [], ◌∷◌, ◌++◌, length, find, is_some}
use Rattle.std.specs.Option.{ForSome}
use Rattle.td_cell.specs.Rules.{BothBefore, after_turn}
use Rattle.td_cell.specs.declared.pass.View.{View}
use Rattle.td_desk.specs.Acting.{ExtendsHistory, no_marks}
use Rattle.td_desk.specs.Standings.{is_full, state_after}
use Rattle.td_desk.specs.declared.event.Event.{Event}
use Rattle.td_desk.specs.declared.event.Event.TheVariants as event
use Rattle.td_desk.specs.declared.fault.DeskFault.{DeskFault}
use Rattle.td_desk.specs.declared.fault.DeskFault.TheVariants as fault
use Rattle.td_iter.specs.Desks.{is_called}
use Rattle.td_servant.specs.Answers.{no_memory}
use Rattle.td_servant.specs.Iterating.{gone}
use Rattle.td_dispatch.specs.ReplyBytes.{locate_reply, reply_for}
use Rattle.td_dispatch.specs.declared.reply_to.ReplyTo.{ReplyTo}
use Rattle.td_desk_calls.specs.Calls.{event_of, outcome_by}
use Rattle.td_desk_calls.specs.declared.desk_call.DeskCall.{DeskCall}
use Rattle.td_desk_calls.specs.declared.desk_call.DeskCall.TheVariants.{At, Memory, Full}
use Rattle.td_desk_calls.specs.declared.judging.IteratorRequest.{IteratorRequest}

-- ---- turns on the desk, of a pass that has seen v before and w behind it

-- the call was made behind this history, and is the next of it
pub record IsCalled (v : View (List Event)) (e : Event) (before : List Event)
    (w : View (List Event)) : Type 0 where
  pub later : BothBefore ExtendsHistory v before
  pub may_call : is_full (state_after before).calls ≡ false
  pub is : w ≡ after_turn length (λ h. no_marks) v before (before ++ e ∷ [])

-- a call was tried behind this history, which has stayed
pub record IsTried (v : View (List Event)) (before : List Event)
    (w : View (List Event)) : Type 0 where
  pub later : BothBefore ExtendsHistory v before
  pub is : w ≡ after_turn length (λ h. no_marks) v before before

-- no call was tried, or one for which memory ran out
abbrev pub LacksMemory : View (List Event) → View (List Event) → Type 0
LacksMemory v w = (w ≡ v) ⊎ ((before : List Event) × IsTried v before w)

-- one was tried, and as many calls of iterators were done as may be
pub record IsFullThen (v w : View (List Event)) : Type 0 where
  pub before : List Event
  pub tried : IsTried v before w
  pub full : is_full (state_after before).calls ≡ true

-- ---- messages

module _ (to : ReplyTo) (trader : List ℕ) (number : ℕ) (v : View (List Event)) where
  -- The Request made its call at this place of the history, and the reply has its outcome there: none where none is
  -- expected.
  pub record AnswersDeskCall (asked : IteratorRequest) (bytes : List ℕ) (place : ℕ)
      (w : View (List Event)) : Type 0 where
    pub before : List Event
    pub place_is : place ≡ length before
    pub called : IsCalled v (event_of asked trader number to.order) before w
    pub reply : bytes ≡ reply_for to
        (outcome_by asked to.order (find (is_called trader number) (state_after before).entries))

  -- a Request that asks this is served
  abbrev pub ServesIterator : IteratorRequest → (bytes : List ℕ) → DeskCall → View (List Event)
      → Type 0
  ServesIterator asked bytes (At place) w = AnswersDeskCall asked bytes place w
  ServesIterator asked bytes Memory w = (bytes ≡ reply_for to no_memory) × LacksMemory v w
  ServesIterator asked bytes Full w = IsFullThen v w

  -- The LocateRequest made its call at this place of the history, and the reply tells whether the iterator is there.
  pub record Locates (bytes : List ℕ) (place : ℕ) (w : View (List Event)) : Type 0 where
    pub before : List Event
    pub place_is : place ≡ length before
    pub called : IsCalled v (event.Left trader number) before w
    pub reply : bytes ≡ locate_reply to.order to.minor to.id
        (is_some (find (is_called trader number) (state_after before).entries))

  abbrev pub LocatesIterator : (bytes : List ℕ) → DeskCall → View (List Event) → Type 0
  LocatesIterator bytes (At place) w = Locates bytes place w
  LocatesIterator bytes Memory w = ⊥
  LocatesIterator bytes Full w = IsFullThen v w

-- what is left and noted where the desk did nothing for a call
abbrev pub AnswersFault : ReplyTo → View (List Event) → DeskFault → (bytes : List ℕ) → DeskCall
    → Type 0
AnswersFault to w fault.Absent bytes (At place) =
    (bytes ≡ reply_for to gone) × ForSome w.seen (λ h. length h ≡ place + 1)
AnswersFault to w fault.Absent bytes Memory = ⊥
AnswersFault to w fault.Absent bytes Full = ⊥
AnswersFault to w fault.Full bytes c = c ≡ Full
AnswersFault to w fault.Memory bytes c = (c ≡ Memory) × (bytes ≡ reply_for to no_memory)

-- the LocateReply that is left
abbrev pub LeavesLocated : ReplyTo → View (List Event) → (live : Bool) → (bytes : List ℕ) → DeskCall
    → Type 0
LeavesLocated to w live bytes (At place) =
    (bytes ≡ locate_reply to.order to.minor to.id live) × ForSome w.seen (λ h. length h ≡ place + 1)
LeavesLocated to w live bytes Memory = ⊥
LeavesLocated to w live bytes Full = ⊥

abbrev pub LeavesNone : ReplyTo → View (List Event) → DeskFault → (bytes : List ℕ) → DeskCall
    → Type 0
LeavesNone to w fault.Absent bytes c = LeavesLocated to w false bytes c
LeavesNone to w fault.Full bytes c = c ≡ Full
LeavesNone to w fault.Memory bytes c = ⊥
