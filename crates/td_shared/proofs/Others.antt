-- A message for no iterator, from what is done for it.
use Rattle.std.proofs.Common.{◌≡◌, inl, inr, ℕ, ◌+◌, ◌≤◌, Bool, true, false, List, [], ◌∷◌, ◌++◌, map, drop, length, Option}
use Rattle.std.proofs.Common.{None, Some, Result, Ok, Err, refl, sym, ap, subst, ◌∙◌, arith, length-append}
use Rattle.std.specs.Prelude.{slice_get}
use Rattle.td_cdr.specs.Marks.{Marks}
use Rattle.td_cell.specs.declared.pass.View.{View}
use Rattle.td_desk.specs.Acting.{draws_by}
use Rattle.td_desk.specs.Sharing.{ActsInTurn}
use Rattle.td_desk.specs.Standings.{is_full, state_after}
use Rattle.td_desk.specs.declared.act.Act.TheVariants as act
use Rattle.td_desk.specs.declared.act.Reply.TheVariants as content
use Rattle.td_desk.specs.declared.event.Event.{Event}
use Rattle.td_desk.specs.declared.fault.DeskFault.{DeskFault}
use Rattle.td_desk.specs.declared.fault.DeskFault.TheVariants as fault
use Rattle.td_iter.specs.Desks.{Live}
use Rattle.td_iter.specs.declared.desk.DeskEntry.{DeskEntry as Iterator}
use Rattle.td_iter.specs.declared.item.Item.{Item}
use Rattle.td_register.specs.declared.history.Accepted.{Accepted}
use Rattle.td_servant.specs.declared.entry.Entry.{Entry}
use Rattle.td_dispatch.specs.Backends.{BackendSeen}
use Rattle.td_session.specs.Rooms.{Room}
use Rattle.td_session.specs.Serving.{ServesMessage, Stays}
use Rattle.td_session.specs.Stages.{Stage, stage_in}
use Rattle.td_session_runs.specs.Turns.{ServedRequest, noted_in}
use Rattle.td_shared.specs.Serving.{IsUnkeyed, PutsKept, ServesOther, StaysShared}
use Rattle.td_shared.specs.Stages.{KeepsOne, keeps_none, keeps_one, one_kept, shared_in, with_desk}
use Rattle.td_shared.specs.declared.entry.SharedEntry.{SharedEntry}
use Rattle.td_shared.specs.declared.entry.SharedEntry.TheVariants.{Session}

-- ---- what was kept

module _ {X : Type 0} where
  abbrev IsThere : Option X → Type 0
  IsThere None = ⊥
  IsThere (Some x) = Unit {0}

  abbrev one_or : X → Option X → X
  one_or d None = d
  one_or d (Some x) = x

  not_there : (x : X) → Some x ≡ None → ⊥
  not_there x is = subst IsThere is tt

abbrev items_of : Live → List (Iterator Item)
items_of d = d.0

-- what is taken out is what was kept, and has the number
record IsKept (n : ℕ) (d : Live) (x : Iterator Item) : Type 0 where
  only : d.0 ≡ x ∷ []
  number_is : x.number ≡ n

kept_item : (n : ℕ) (d : Live) (x : Iterator Item) → KeepsOne n d → Some x ≡ slice_get d.0 0 → IsKept n d x
kept_item n d x (keeps_none is) at =
    absurd (not_there x (at ∙ ap (λ (e : Live). slice_get e.0 0) is))
kept_item n d x (keeps_one name item is) at =
    let there : Some x ≡ slice_get (items_of (one_kept n name item)) 0 = at ∙ ap (λ (e : Live). slice_get e.0 0) is in
    let same = ap (one_or x) there in
    record {
      only = ap items_of is ∙ ap (λ (y : Iterator Item). y ∷ []) (sym same);
      number_is = ap (λ (y : Iterator Item). y.number) same;
    }

kept_none : (n : ℕ) (d : Live) → KeepsOne n d → None ≡ slice_get d.0 0 → d.0 ≡ []
kept_none n d (keeps_none is) at = ap items_of is
kept_none n d (keeps_one name item is) at =
    let x : Iterator Item = record { trader = name; number = n; item = item } in
    absurd (not_there x (sym (at ∙ ap (λ (e : Live). slice_get e.0 0) is)))

pub kept_number : (n : ℕ) (d : Live) (x : Iterator Item) → KeepsOne n d → Some x ≡ slice_get d.0 0 → x.number ≡ n
kept_number n d x one at = (kept_item n d x one at).number_is

pub puts_it : (n : ℕ) (d : Live) (x : Iterator Item) (back : Option (Iterator Item)) (v w : View (List Event))
    → KeepsOne n d → Some x ≡ slice_get d.0 0 → ActsInTurn v (act.Add x) (content.Added back) w → PutsKept v d.0 w
puts_it n d x back v w one at turned =
    subst (λ (es : List (Iterator Item)). PutsKept v es w) (sym (kept_item n d x one at).only) (back, turned)

pub puts_none : (n : ℕ) (d : Live) (v : View (List Event)) → KeepsOne n d → None ≡ slice_get d.0 0 → PutsKept v d.0 v
puts_none n d v one at =
    subst (λ (es : List (Iterator Item)). PutsKept v es v) (sym (kept_none n d one at)) refl

-- nothing is kept then
pub left_as_is : (n : ℕ) (d : Live) → KeepsOne n d → None ≡ slice_get d.0 0
    → (room r : Room) → room.desk ≡ d → r ≡ record room { desk = (drop 1 room.desk.0, room.desk.1) }
    → r ≡ record room { desk = ([], room.desk.1) }
left_as_is n d one at room r is to =
    to ∙ ap (λ (es : List (Iterator Item)). record room { desk = (drop 1 es, room.desk.1) })
    (ap items_of is ∙ kept_none n d one at)

pub left_none : (n : ℕ) (d : Live) (x : Iterator Item) → KeepsOne n d → Some x ≡ slice_get d.0 0
    → (room r : Room) → room.desk ≡ d → r ≡ record room { desk = (drop 1 room.desk.0, room.desk.1) }
    → r ≡ record room { desk = ([], room.desk.1) }
left_none n d x one at room r is to =
    to ∙ ap (λ (es : List (Iterator Item)). record room { desk = (drop 1 es, room.desk.1) })
    (ap items_of is ∙ (kept_item n d x one at).only)

-- ---- what was noted

one_noted : (n : Option ServedRequest) → length (map (λ (x : ServedRequest). x.entry) (noted_in n ++ [])) ≤ 1
one_noted None = let few : 0 ≤ 1 = omega arith in few
one_noted (Some n) = let few : 1 ≤ 1 = omega arith in few

module _ (others : List Accepted → Type 0) (later : Marks → Marks → Type 0) where
  -- a message notes one entry at most
  pub message_notes : (s : Stage) (message reply : List ℕ) (u : Stage) → s.journal ≡ []
      → ServesMessage others later s message reply u → length u.journal ≤ 1
  message_notes s message reply u none h =
      let noted : List Entry = map (λ (x : ServedRequest). x.entry) (noted_in h.noted ++ []) in
      let is : u.journal ≡ noted = h.journal ∙ ap (λ (j : List Entry). j ++ noted) none in
      subst (λ (j : List Entry). length j ≤ 1) (sym is) (one_noted h.noted)

only_one : {X : Type 0} (j k : List X) (x : X) → j ≡ k ++ x ∷ [] → length j ≤ 1 → k ≡ []
only_one j [] x is few = refl
only_one j (y ∷ k) x is few =
    absurd (let long = ap length is in let more = length-append k (x ∷ []) in omega (arith, long, more, few))

-- the one that was taken out is all that was noted
pub notes_it : (room r : Room) (e : Entry) (j k : List SharedEntry) → length room.journal ≤ 1
    → room.journal ≡ r.journal ++ e ∷ [] → k ≡ j ++ Session e ∷ [] → k ≡ j ++ map Session room.journal
notes_it room r e j k few is to =
    to ∙ ap (λ (es : List Entry). j ++ map Session es)
    (sym (is ∙ ap (λ (es : List Entry). es ++ e ∷ []) (only_one room.journal r.journal e is few)))

pub left_unnoted : (room r : Room) (e : Entry) → length room.journal ≤ 1 → room.journal ≡ r.journal ++ e ∷ []
    → r ≡ record room { journal = r.journal } → r ≡ record room { journal = [] }
left_unnoted room r e few is to =
    to ∙ ap (λ (es : List Entry). record room { journal = es }) (only_one room.journal r.journal e is few)

-- ---- the message

module _ (others : List Accepted → Type 0) (later : Marks → Marks → Type 0) (before now : BackendSeen)
    (room : Room) (n : ℕ) (v d : View (List Event)) (j : List SharedEntry)
    (draws : ActsInTurn v act.Draw (content.Drawn (Ok n)) d) where
  pub serves_other : (m r : Room) (message : List ℕ) (w : View (List Event)) (k : List SharedEntry)
      → room.journal ≡ [] → IsUnkeyed message
      → ServesMessage others later (stage_in before (record room { desk = ([], n) })) message m.replies (stage_in now m)
      → PutsKept d m.desk.0 w → k ≡ j ++ map Session m.journal
      → r ≡ record m { desk = ([], m.desk.1); journal = [] }
      → ServesOther others later (shared_in before room v j) message r.replies (shared_in now r w k)
  serves_other m r message w k none unkeyed serves puts notes is =
      subst (λ (x : Room). ServesOther others later (shared_in before room v j) message x.replies (shared_in now x w k))
      (sym is)
      (record {
        unkeyed = unkeyed;
        number = n;
        drawn = d;
        draws = draws;
        served = stage_in now m;
        serves =
            subst (λ (es : List Entry). ServesMessage others later
            (record (stage_in before (record room { desk = ([], n) })) { journal = es }) message m.replies
            (stage_in now m)) none serves;
        keeps = puts;
        journal = notes;
        rest = refl;
      })

  -- memory ran out to note it
  pub stays_drawn : (m : Room) → Stays (stage_in before (record room { desk = ([], n) })) (stage_in now m)
      → StaysShared false (shared_in before room v j) (shared_in now m d j)
  stays_drawn m stays = record {
    view = inr (n, draws);
    journal = refl;
    rest = ap (λ (s : Stage). with_desk s [] 0) stays;
  }

-- ---- a desk that is full

abbrev IsFault : Result ℕ DeskFault → Type 0
IsFault (Ok n) = ⊥
IsFault (Err f) = Unit {0}

abbrev fault_or : Result ℕ DeskFault → DeskFault
fault_or (Ok n) = fault.Full
fault_or (Err f) = f

fault_is : (full : Bool) (n : ℕ) (f : DeskFault) → Err f ≡ draws_by full n → f ≡ fault.Full
fault_is true n f is = ap fault_or is
fault_is false n f is = absurd (subst IsFault is tt)

pub draws_full : (v w : View (List Event)) (f : DeskFault) → ActsInTurn v act.Draw (content.Drawn (Err f)) w
    → ActsInTurn v act.Draw (content.Drawn (Err fault.Full)) w
draws_full v w f t =
    subst (λ (g : DeskFault). ActsInTurn v act.Draw (content.Drawn (Err g)) w)
    (fault_is (is_full (state_after t.before).draws) (state_after t.before).draws f t.act.result) t

pub stays_full : (before now : BackendSeen) (room m : Room) (v w : View (List Event)) (j : List SharedEntry)
    → stage_in now m ≡ stage_in before room → ActsInTurn v act.Draw (content.Drawn (Err fault.Full)) w
    → StaysShared true (shared_in before room v j) (shared_in now m w j)
stays_full before now room m v w j same turned = record {
  view = inl turned;
  journal = refl;
  rest = ap (λ (s : Stage). with_desk s [] 0) same;
}
