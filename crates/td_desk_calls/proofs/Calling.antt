-- From a turn on the desk to what a message for an iterator comes to.
use Rattle.std.proofs.Common.{◌≡◌, inr, ℕ, ◌+◌, ◌<◌, ◌≤◌, Bool, true, false, List, [], ◌∷◌, ◌++◌, length, find}
use Rattle.std.proofs.Common.{Option, Some, None, Result, Ok, Err, if◌then◌else◌, refl, sym, ap, subst, ◌∙◌, arith}
use Rattle.std.proofs.Common.{is_some, length-append}
use Rattle.std.proofs.lemmas.Bool.{both_ways}
use Rattle.std.specs.Option.{ForSome}
use Rattle.td_cdr.specs.Writing.{Draft}
use Rattle.td_cdr.specs.declared.order.Order.{Order}
use Rattle.td_cell.specs.Rules.{after_turn}
use Rattle.td_cell.specs.declared.pass.View.{View}
use Rattle.td_desk.specs.Acting.{GivesBy, found_by, no_marks, note_act, result_of}
use Rattle.td_desk.specs.Batching.{body_of, is_offers, size_of}
use Rattle.td_desk.specs.Sharing.{ActsInTurn}
use Rattle.td_desk.specs.Standings.{is_full, state_after}
use Rattle.td_desk.specs.declared.act.Act.TheVariants as act
use Rattle.td_desk.specs.declared.act.Begun.{Begun}
use Rattle.td_desk.specs.declared.act.Reply.TheVariants as content
use Rattle.td_desk.specs.declared.event.Event.{Event}
use Rattle.td_desk.specs.declared.event.Event.TheVariants as event
use Rattle.td_desk.specs.declared.fault.DeskFault.{DeskFault}
use Rattle.td_desk.specs.declared.fault.DeskFault.TheVariants as fault
use Rattle.td_giop.proofs.Lengths.{reply_start_length}
use Rattle.td_giop.specs.Written.{reply_start, seal_size}
use Rattle.td_iter.specs.Desks.{is_called}
use Rattle.td_iter.specs.declared.desk.DeskEntry.{DeskEntry}
use Rattle.td_iter.specs.declared.item.Item.{Item}
use Rattle.td_iter.specs.declared.item.Item.TheVariants.{Offers, Ids}
use Rattle.td_iter.specs.declared.limits.TheConstants.{REPLY_START}
use Rattle.td_ops.specs.Outcomes.{outcome_piece}
use Rattle.td_ops.specs.declared.outcome.Outcome.{Outcome}
use Rattle.td_ops.specs.declared.outcome.Outcome.TheVariants.{Done}
use Rattle.td_ops.specs.declared.outcome.Reply.TheVariants.{Nothing}
use Rattle.td_dispatch.specs.ReplyBytes.{BeginsReply, locate_reply, reply_for}
use Rattle.td_dispatch.specs.declared.reply_to.ReplyTo.{ReplyTo}
use Rattle.td_desk_calls.specs.Calls.{batch_outcome, event_of, inquiry_outcome, outcome_by}
use Rattle.td_desk_calls.specs.Serving.{AnswersDeskCall, AnswersFault, IsCalled, IsFullThen, IsTried, LeavesLocated}
use Rattle.td_desk_calls.specs.Serving.{LeavesNone, LocatesIterator, ServesIterator}
use Rattle.td_desk_calls.specs.declared.desk_call.DeskCall.{DeskCall}
use Rattle.td_desk_calls.specs.declared.desk_call.DeskCall.TheVariants.{At, Memory, Full}
use Rattle.td_desk_calls.specs.declared.judging.IteratorRequest.{IteratorRequest}
use Rattle.td_desk_calls.specs.declared.judging.IteratorRequest.TheVariants.{NextN, Destroy, Inquire}
use Rattle.td_desk_calls.specs.declared.judging.Inquiry.{Inquiry}

-- ---- the place of a call

abbrev history_or : Option (List Event) → List Event
history_or None = []
history_or (Some k) = k

-- a pass has seen a history
pub seen_of : (o : Option (List Event)) → is_some o ≡ true → (h : List Event) × (o ≡ Some h)
seen_of (Some h) is = (h, refl)
seen_of None is = absurd (both_ways false refl is)

module _ (v w : View (List Event)) (e : Event) (before : List Event) (c : IsCalled v e before w) where
  seen_then : w.seen ≡ Some (before ++ e ∷ [])
  seen_then = ap (λ (x : View (List Event)). x.seen) c.is

  one_more : (h : List Event) → w.seen ≡ Some h → length h ≡ length before + 1
  one_more h is =
      (let h_is = ap history_or (sym seen_then ∙ is) in (let long = length-append before (e ∷ []) in
      omega (arith, long, ap length h_is)))

  pub has_place : ForSome w.seen (λ h. 0 < length h)
  has_place = λ h is. (let more = one_more h is in omega (arith, more))

  pub placed : (place : ℕ) → ForSome w.seen (λ h. length h ≡ place + 1) → place ≡ length before
  placed place p = (let long = p (before ++ e ∷ []) seen_then in
      (let more = one_more (before ++ e ∷ []) seen_then in omega (arith, long, more)))

-- the call is noted
called_by : (v w : View (List Event)) (e : Event) (full : Bool) (before after : List Event)
    → w ≡ after_turn length (λ h. no_marks) v before after → after ≡ note_act full e before → full ≡ false
    → w ≡ after_turn length (λ h. no_marks) v before (before ++ e ∷ [])
called_by v w e full before after is history off =
    is ∙ ap (λ (h : List Event). after_turn length (λ (k : List Event). no_marks) v before h)
    (history ∙ ap (λ (b : Bool). note_act b e before) off)

-- it isn't
tried_by : (v w : View (List Event)) (e : Event) (full : Bool) (before after : List Event)
    → w ≡ after_turn length (λ h. no_marks) v before after → after ≡ note_act full e before → full ≡ true
    → w ≡ after_turn length (λ h. no_marks) v before before
tried_by v w e full before after is history on =
    is ∙ ap (λ (h : List Event). after_turn length (λ (k : List Event). no_marks) v before h)
    (history ∙ ap (λ (b : Bool). note_act b e before) on)

-- ---- answers of the desk

-- how many are left, and whether they are offers
abbrev counts : DeskEntry Item → ℕ × Bool
counts e = (size_of e.item, is_offers e.item)

abbrev itself : DeskEntry Item → DeskEntry Item
itself e = e

module _ {X : Type 0} where
  abbrev IsRefused : Result X DeskFault → Type 0
  IsRefused (Ok x) = ⊥
  IsRefused (Err f) = Unit {0}

  abbrev IsDone : Result X DeskFault → Type 0
  IsDone (Ok x) = Unit {0}
  IsDone (Err f) = ⊥

  abbrev value_or : X → Result X DeskFault → X
  value_or d (Ok x) = x
  value_or d (Err f) = d

  abbrev fault_or : DeskFault → Result X DeskFault → DeskFault
  fault_or d (Ok x) = d
  fault_or d (Err f) = f

  not_refused : (x : X) (f : DeskFault) → Ok x ≡ Err f → ⊥
  not_refused x f is = subst IsRefused (sym is) tt

  not_done : (x : X) (f : DeskFault) → Err f ≡ Ok x → ⊥
  not_done x f is = subst IsDone (sym is) tt

-- the iterator is there, and a call may be done
record IsThere (full : Bool) (found : Option (DeskEntry Item)) (e : DeskEntry Item) : Type 0 where
  off : full ≡ false
  is : found ≡ Some e

module _ {X : Type 0} (f : DeskEntry Item → X) where
  there : (full : Bool) (found : Option (DeskEntry Item)) (x : X) → Ok x ≡ result_of f (found_by full found)
      → (e : DeskEntry Item) × IsThere full found e × (x ≡ f e)
  there true found x is = absurd (not_refused x fault.Full is)
  there false None x is = absurd (not_refused x fault.Absent is)
  there false (Some e) x is = (e, record { off = refl; is = refl }, ap (value_or x) is)

  -- why a call does nothing
  abbrev pub Why : (full : Bool) → (found : Option (DeskEntry Item)) → DeskFault → Type 0
  Why full found fault.Absent = (full ≡ false) × (found ≡ None)
  Why full found fault.Full = full ≡ true
  Why full found fault.Memory = ⊥

  why : (full : Bool) (found : Option (DeskEntry Item)) (g : DeskFault) → Err g ≡ result_of f (found_by full found)
      → Why full found g
  why true found g is = subst (Why true found) (sym (ap (fault_or g) is)) refl
  why false None g is = subst (Why false None) (sym (ap (fault_or g) is)) (refl, refl)
  why false (Some e) g is = absurd (not_done (f e) g is)

-- a call that does nothing, by its fault
abbrev pub Fails : (trader : List ℕ) (number : ℕ) (v : View (List Event)) (e : Event) (w : View (List Event))
    → DeskFault → Type 0
Fails trader number v e w fault.Absent = (before : List Event) × IsCalled v e before w
    × (find (is_called trader number) (state_after before).entries ≡ None)
Fails trader number v e w fault.Full = IsFullThen v w
Fails trader number v e w fault.Memory = (before : List Event) × IsTried v before w

module _ (trader : List ℕ) (number : ℕ) (v w : View (List Event)) where
  abbrev full_at : List Event → Bool
  full_at h = is_full (state_after h).calls

  abbrev found_at : List Event → Option (DeskEntry Item)
  found_at h = find (is_called trader number) (state_after h).entries

  pub has_place_by : (e : Event) (f : DeskFault) → Fails trader number v e w f → f ≡ fault.Absent
      → ForSome w.seen (λ h. 0 < length h)
  has_place_by e f t is = absent_place (subst (Fails trader number v e w) is t) where
    absent_place : Fails trader number v e w fault.Absent → ForSome w.seen (λ h. 0 < length h)
    absent_place x = has_place v w e x.0 x.1

  module _ {X : Type 0} (g : DeskEntry Item → X) (e : Event) (before after : List Event) (f : DeskFault)
      (later : IsTried v before (after_turn length (λ h. no_marks) v before before))
      (is : w ≡ after_turn length (λ h. no_marks) v before after) (history : after ≡ note_act (full_at before) e before)
    where
      fails_so : (x : DeskFault) → Why g (full_at before) (found_at before) x → Fails trader number v e w x
      fails_so fault.Absent y = (
        before,
        record { later = later.later; may_call = y.0; is = called_by v w e (full_at before) before after is history y.0 },
        y.1,
      )
      fails_so fault.Full y = record {
        before = before;
        tried = record { later = later.later; is = tried_by v w e (full_at before) before after is history y };
        full = y;
      }
      fails_so fault.Memory y = absurd y

  pub left_fails : (f : DeskFault) → ActsInTurn v (act.Left trader number) (content.Left (Err f)) w
      → Fails trader number v (event.Left trader number) w f
  left_fails f t =
      fails_so counts (event.Left trader number) t.before t.after f
      (record { later = t.later_than_seen; is = refl }) t.is t.act.history f
      (why counts (full_at t.before) (found_at t.before) f t.act.result)

  pub left_takes_no_memory : (f : DeskFault) → ActsInTurn v (act.Left trader number) (content.Left (Err f)) w
      → f ≡ fault.Memory → ⊥
  left_takes_no_memory f t is =
      subst (Why counts (full_at t.before) (found_at t.before)) is
      (why counts (full_at t.before) (found_at t.before) f t.act.result)

  found_itself : (r : Result (DeskEntry Item) DeskFault) → r ≡ result_of itself r
  found_itself (Ok e) = refl
  found_itself (Err f) = refl

  pub destroy_fails : (f : DeskFault) → ActsInTurn v (act.Destroy trader number) (content.Destroyed (Err f)) w
      → Fails trader number v (event.Destroy trader number) w f
  destroy_fails f t =
      fails_so itself (event.Destroy trader number) t.before t.after f
      (record { later = t.later_than_seen; is = refl }) t.is t.act.history f
      (why itself (full_at t.before) (found_at t.before) f
      (t.act.result ∙ found_itself (found_by (full_at t.before) (found_at t.before))))

  pub left_has_place : (found : ℕ × Bool) → ActsInTurn v (act.Left trader number) (content.Left (Ok found)) w
      → ForSome w.seen (λ h. 0 < length h)
  left_has_place found t =
      let x = there counts (full_at t.before) (found_at t.before) found t.act.result
      in
      has_place v w (event.Left trader number) t.before (record {
        later = t.later_than_seen;
        may_call = x.1.off;
        is = called_by v w (event.Left trader number) (full_at t.before) t.before t.after t.is t.act.history x.1.off;
      })

  pub destroy_has_place : (taken : DeskEntry Item) → ActsInTurn v (act.Destroy trader number) (content.Destroyed (Ok taken)) w
      → ForSome w.seen (λ h. 0 < length h)
  destroy_has_place taken t =
      let x = there itself (full_at t.before) (found_at t.before) taken
      (t.act.result ∙ found_itself (found_by (full_at t.before) (found_at t.before))) in
      has_place v w (event.Destroy trader number) t.before (record {
        later = t.later_than_seen;
        may_call = x.1.off;
        is = called_by v w (event.Destroy trader number) (full_at t.before) t.before t.after t.is t.act.history x.1.off;
      })

  -- of a batch
  module _ (n : ℕ) (u back : Draft) (before after : List Event) (later : IsTried v before (after_turn length
      (λ h. no_marks) v before before)) (is : w ≡ after_turn length (λ h. no_marks) v before after) where
    abbrev its : Event
    its = event.Next trader number n u.order

    next_fails_by : (full : Bool) (found : Option (DeskEntry Item)) → full ≡ full_at before → found ≡ found_at before
        → (f : DeskFault) → GivesBy before trader number n u back after (found_by full found) (Err f)
        → Fails trader number v its w f
    next_fails_by true found at was f g =
        subst (Fails trader number v its w) (sym g.fault_is) (record {
          before = before;
          tried = record {
            later = later.later;
            is = tried_by v w its (full_at before) before after is g.history (sym at);
          };
          full = sym at;
        })
    next_fails_by false None at was f g =
        subst (Fails trader number v its w) (sym g.fault_is) (
          before,
          record {
            later = later.later;
            may_call = sym at;
            is = called_by v w its (full_at before) before after is g.history (sym at);
          },
          sym was,
        )
    next_fails_by false (Some e) at was f g =
        subst (Fails trader number v its w) (sym g.fault_is) (
          before,
          record {
            later = later.later;
            is = is ∙ ap (λ (h : List Event). after_turn length (λ (k : List Event). no_marks) v before h) g.history;
          },
        )

  pub next_fails : (n : ℕ) (begun : Begun) (back : Draft) (f : DeskFault)
      → ActsInTurn v (act.Next trader number n begun) (content.Next back (Err f)) w
      → Fails trader number v (event.Next trader number n begun.writer.order) w f
  next_fails n begun back f t =
      next_fails_by n begun.writer back t.before t.after (record { later = t.later_than_seen; is = refl }) t.is
      (full_at t.before) (found_at t.before) refl refl f t.act

  -- ---- what a Request comes to

  module _ (to : ReplyTo) (bytes : List ℕ) where
    -- the desk did nothing for it
    pub serves_fault : (asked : IteratorRequest) (f : DeskFault) (c : DeskCall)
        → Fails trader number v (event_of asked trader number to.order) w f → AnswersFault to w f bytes c
        → ServesIterator to trader number v asked bytes c w
    serves_fault asked fault.Absent (At place) x a = record {
      before = x.0;
      place_is = placed v w (event_of asked trader number to.order) x.0 x.1 place a.1;
      called = x.1;
      reply = a.0 ∙ ap (λ (o : Option (DeskEntry Item)). reply_for to (outcome_by asked to.order o)) (sym x.2);
    }
    serves_fault asked fault.Absent Memory x a = absurd a
    serves_fault asked fault.Absent Full x a = absurd a
    serves_fault asked fault.Full c x a =
        subst (λ (d : DeskCall). ServesIterator to trader number v asked bytes d w) (sym a) x
    serves_fault asked fault.Memory c x a =
        subst (λ (d : DeskCall). ServesIterator to trader number v asked bytes d w) (sym a.0) (a.1, inr x)

    -- the iterator is there
    answers_by : (asked : IteratorRequest) (before : List Event) (e : DeskEntry Item) (o : Outcome) (place : ℕ)
        → IsCalled v (event_of asked trader number to.order) before w → found_at before ≡ Some e
        → o ≡ outcome_by asked to.order (Some e) → bytes ≡ reply_for to o → ForSome w.seen
        (λ h. length h ≡ place + 1) → AnswersDeskCall to trader number v asked bytes place w
    answers_by asked before e o place c found is reply p = record {
      before = before;
      place_is = placed v w (event_of asked trader number to.order) before c place p;
      called = c;
      reply = reply ∙ ap (reply_for to) (is ∙ ap (outcome_by asked to.order) (sym found));
    }

    pub inquiry_answers : (inquiry : Inquiry) (found : ℕ × Bool) (o : Outcome) (place : ℕ)
        → ActsInTurn v (act.Left trader number) (content.Left (Ok found)) w → o ≡ inquiry_outcome inquiry found.0 found.1
        → bytes ≡ reply_for to o → ForSome w.seen (λ h. length h ≡ place + 1)
        → AnswersDeskCall to trader number v (Inquire inquiry) bytes place w
    inquiry_answers inquiry found o place t is reply p =
        let x = there counts (full_at t.before) (found_at t.before) found
        t.act.result in
        answers_by (Inquire inquiry) t.before x.0 o place (record {
          later = t.later_than_seen;
          may_call = x.1.off;
          is = called_by v w (event.Left trader number) (full_at t.before) t.before t.after t.is t.act.history x.1.off;
        }) x.1.is (is ∙ ap (λ (q : ℕ × Bool). inquiry_outcome inquiry q.0 q.1) x.2) reply p

    pub destroy_answers : (taken : DeskEntry Item) (place : ℕ)
        → ActsInTurn v (act.Destroy trader number) (content.Destroyed (Ok taken)) w → bytes ≡ reply_for to (Done Nothing)
        → ForSome w.seen (λ h. length h ≡ place + 1) → AnswersDeskCall to trader number v Destroy bytes place w
    destroy_answers taken place t reply p =
        let x = there itself (full_at t.before) (found_at t.before) taken
        (t.act.result ∙ found_itself (found_by (full_at t.before) (found_at t.before))) in
        answers_by Destroy t.before x.0 (Done Nothing) place (record {
          later = t.later_than_seen;
          may_call = x.1.off;
          is = called_by v w (event.Destroy trader number) (full_at t.before) t.before t.after t.is t.act.history
              x.1.off;
        }) x.1.is refl reply p

    -- ---- what a LocateRequest comes to

    locates_by : (before : List Event) (o : Option (DeskEntry Item)) (live : Bool) (c : DeskCall)
        → IsCalled v (event.Left trader number) before w → found_at before ≡ o → live ≡ is_some o
        → LeavesLocated to w live bytes c → LocatesIterator to trader number v bytes c w
    locates_by before o live (At place) c found is l = record {
      before = before;
      place_is = placed v w (event.Left trader number) before c place l.1;
      called = c;
      reply = l.0 ∙ ap (locate_reply to.order to.minor to.id) (is ∙ ap is_some (sym found));
    }
    locates_by before o live Memory c found is l = absurd l
    locates_by before o live Full c found is l = absurd l

    pub located : (found : ℕ × Bool) (c : DeskCall) → ActsInTurn v (act.Left trader number) (content.Left (Ok found)) w
        → LeavesLocated to w true bytes c → LocatesIterator to trader number v bytes c w
    located found c t l =
        let x = there counts (full_at t.before) (found_at t.before) found
        t.act.result in
        locates_by t.before (Some x.0) true c (record {
          later = t.later_than_seen;
          may_call = x.1.off;
          is = called_by v w (event.Left trader number) (full_at t.before) t.before t.after t.is t.act.history x.1.off;
        }) x.1.is refl l

    pub located_none : (f : DeskFault) (c : DeskCall) → Fails trader number v (event.Left trader number) w f
        → LeavesNone to w f bytes c → LocatesIterator to trader number v bytes c w
    located_none fault.Absent c x l = locates_by x.0 None false c x.1 x.2 refl l
    located_none fault.Full c x l =
        subst (λ (d : DeskCall). LocatesIterator to trader number v bytes d w) (sym l) x
    located_none fault.Memory c x l = absurd l

-- ---- batches

pub begins_with : (to : ReplyTo) (u : Draft) → BeginsReply to u → length u.bytes ≡ REPLY_START
begins_with to u begun = ap length begun.bytes ∙ reply_start_length to.order to.minor to.id 0

-- what stands in the writer is the reply's bytes
module _ (to : ReplyTo) (u back : Draft) (n : ℕ) (begun : BeginsReply to u) where
  body_at : (item : Item) → body_of n to.order item
      ≡ outcome_piece (batch_outcome n to.order item) to.order (length (reply_start to.order to.minor to.id 0))
  body_at (Offers left) = ap (λ (k : ℕ). outcome_piece (batch_outcome n to.order (Offers left)) to.order k)
      (sym (reply_start_length to.order to.minor to.id 0))
  body_at (Ids left) = ap (λ (k : ℕ). outcome_piece (batch_outcome n to.order (Ids left)) to.order k)
      (sym (reply_start_length to.order to.minor to.id 0))

  whole_reply : (item : Item) → seal_size to.order (reply_start to.order to.minor to.id 0 ++ body_of n to.order item)
      ≡ seal_size to.order (reply_start to.order to.minor to.id 0 ++ outcome_piece (batch_outcome n to.order item) to.order
      (length (reply_start to.order to.minor to.id 0)))
  whole_reply item =
      ap (λ (b : List ℕ). seal_size to.order (reply_start to.order to.minor to.id 0 ++ b)) (body_at item)

  expected : (item : Item) → (if to.answered then seal_size to.order (reply_start to.order to.minor to.id 0
      ++ body_of n to.order item) else []) ≡ reply_for to (batch_outcome n to.order item)
  expected (Offers left) = ap (λ (b : List ℕ). if to.answered then b else []) (whole_reply (Offers left))
  expected (Ids left) = ap (λ (b : List ℕ). if to.answered then b else []) (whole_reply (Ids left))

  pub batch_reply : (item : Item) → back.order ≡ u.order → back.bytes ≡ u.bytes ++ body_of n u.order item
      → (if to.answered then seal_size back.order back.bytes else []) ≡ reply_for to (batch_outcome n to.order item)
  batch_reply item order bytes =
      ap (λ (b : List ℕ). if to.answered then b else [])
      (ap (λ (x : Order). seal_size x back.bytes) (order ∙ begun.is_in) ∙ ap (seal_size to.order) (bytes
      ∙ ap (λ (b : List ℕ). b ++ body_of n u.order item) begun.bytes
      ∙ ap (λ (x : Order). reply_start to.order to.minor to.id 0 ++ body_of n x item) begun.is_in))
      ∙ expected item

  -- the batch was given
  record IsBatchThere (before after : List Event) (trader : List ℕ) (number : ℕ) : Type 0 where
    entry : DeskEntry Item
    off : is_full (state_after before).calls ≡ false
    found : find (is_called trader number) (state_after before).entries ≡ Some entry
    order : back.order ≡ u.order
    bytes : back.bytes ≡ u.bytes ++ body_of n u.order entry.item
    history : after ≡ before ++ event.Next trader number n u.order ∷ []

  given_by : (before after : List Event) (trader : List ℕ) (number : ℕ) (more full : Bool)
      (found : Option (DeskEntry Item)) → full ≡ is_full (state_after before).calls
      → found ≡ find (is_called trader number) (state_after before).entries
      → GivesBy before trader number n u back after (found_by full found) (Ok more)
      → IsBatchThere before after trader number
  given_by before after trader number more true found at was g = absurd g
  given_by before after trader number more false None at was g = absurd g
  given_by before after trader number more false (Some e) at was g = record {
    entry = e;
    off = sym at;
    found = sym was;
    order = g.order;
    bytes = g.bytes;
    history = g.history;
  }

  module _ (trader : List ℕ) (number : ℕ) (v w : View (List Event)) (b : Begun) (is_begun : b.writer ≡ u) (more : Bool)
      (t : ActsInTurn v (act.Next trader number n b) (content.Next back (Ok more)) w) where
    given : IsBatchThere t.before t.after trader number
    given = given_by t.before t.after trader number more (is_full (state_after t.before).calls)
        (find (is_called trader number) (state_after t.before).entries) refl refl
        (subst (λ (x : Draft). GivesBy t.before trader number n x back t.after (found_by
        (is_full (state_after t.before).calls) (find (is_called trader number) (state_after t.before).entries)) (Ok more))
        is_begun t.act)

    called_then : IsCalled v (event.Next trader number n to.order) t.before w
    called_then = record {
      later = t.later_than_seen;
      may_call = given.off;
      is = t.is ∙ ap (λ (h : List Event). after_turn length (λ (k : List Event). no_marks) v t.before h)
          (given.history ∙ ap (λ (x : Order). t.before ++ event.Next trader number n x ∷ []) begun.is_in);
    }

    pub has_header : 12 ≤ length back.bytes
    has_header = (let g = given in (let long = ap length g.bytes in
        (let both = length-append u.bytes (body_of n u.order g.entry.item) in
        (let start = begins_with to u begun in omega (arith, long, both, start)))))

    pub has_place_then : ForSome w.seen (λ h. 0 < length h)
    has_place_then = has_place v w (event.Next trader number n to.order) t.before called_then

    pub batch_answers : (bytes : List ℕ) (place : ℕ)
        → bytes ≡ (if to.answered then seal_size back.order back.bytes else [])
        → ForSome w.seen (λ h. length h ≡ place + 1) → AnswersDeskCall to trader number v (NextN n) bytes place w
    batch_answers bytes place reply p =
        let g = given in record {
          before = t.before;
          place_is = placed v w (event.Next trader number n to.order) t.before called_then place p;
          called = called_then;
          reply = reply ∙ batch_reply g.entry.item g.order g.bytes
              ∙ ap (λ (o : Option (DeskEntry Item)). reply_for to (outcome_by (NextN n) to.order o)) (sym g.found);
        }
