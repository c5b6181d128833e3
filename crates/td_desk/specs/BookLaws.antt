-- The laws of a desk as the book of a cell.
use Rattle.std.proofs.Common.{◌≡◌, ℕ, ◌+◌, ◌≤◌, Bool, true, false, inl, List, [], ◌∷◌, ◌++◌, length, length-append}
use Rattle.std.proofs.Common.{append-nil, append_assoc, Result, Ok, Err, refl, sym, ap, subst, ◌∙◌, arith}
use Rattle.td_cdr.specs.Marks.{Later}
use Rattle.td_cdr.specs.Writing.{Draft}
use Rattle.td_cell.specs.OwnMarks.{AddsMark}
use Rattle.td_iter.specs.declared.desk.DeskEntry.{DeskEntry}
use Rattle.td_iter.specs.declared.item.Item.{Item}
use Rattle.td_desk.specs.Acting.{DeskActs, GivesBy, ExtendsHistory, finds, no_marks, note_act}
use Rattle.td_desk.specs.Standings.{is_full, state_after}
use Rattle.td_desk.specs.declared.act.Act.{Act}
use Rattle.td_desk.specs.declared.act.Act.TheVariants as act
use Rattle.td_desk.specs.declared.act.Reply.{Reply}
use Rattle.td_desk.specs.declared.act.Reply.TheVariants as reply
use Rattle.td_desk.specs.declared.event.Event.{Event}
use Rattle.td_desk.specs.declared.event.Event.TheVariants as event
use Rattle.td_desk.specs.declared.fault.DeskFault.{DeskFault}

pub goes_on_itself : (h : List Event) → ExtendsHistory h h
goes_on_itself h = record { rest = []; is = sym (append-nil h) }

pub goes_on_more : (h k l : List Event) → ExtendsHistory h k → ExtendsHistory k l
    → ExtendsHistory h l
goes_on_more h k l p q = record {
  rest = p.rest ++ q.rest;
  is = q.is ∙ ap (λ (xs : List Event). xs ++ q.rest) p.is ∙ append_assoc h p.rest q.rest;
}

pub grows : (h k : List Event) → ExtendsHistory h k → length h ≤ length k
grows h k p = omega (arith, ap (length {A = Event}) p.is, length-append h p.rest)

pub no_mark : (h k : List Event) → ExtendsHistory h k → Later no_marks no_marks
no_mark h k p = record {
  ring = refl;
  count = omega arith;
  counter = omega arith;
  keeps = λ e i lt. i;
  same = λ e. refl;
}

-- the history is as it was, or has one call more
pub record Once (h k : List Event) : Type 0 where
  pub goes_on : ExtendsHistory h k
  pub most : length k ≤ length h + 1

kept_once : (h k : List Event) → k ≡ h → Once h k
kept_once h k e = subst (Once h) (sym e) (record { goes_on = goes_on_itself h; most = omega arith })

noted_once : (full : Bool) (e : Event) (h k : List Event) → k ≡ note_act full e h → Once h k
noted_once true e h k is = kept_once h k is
noted_once false e h k is = subst (Once h) (sym is) (record {
  goes_on = record { rest = e ∷ []; is = refl };
  most = (let long = length-append h (e ∷ []) in omega (arith, long));
})

module _ (h : List Event) (trader : List ℕ) (number n : ℕ) (w back : Draft) (k : List Event) where
  given_once : (x : Result (DeskEntry Item) DeskFault) (r : Result Bool DeskFault)
      → GivesBy h trader number n w back k x r → Once h k
  given_once (Ok e) (Ok more) g = noted_once false (event.Next trader number n w.order)
      h k g.history
  given_once (Ok e) (Err f) g = kept_once h k g.history
  given_once (Err fault) (Ok more) g = absurd g
  given_once (Err fault) (Err f) g =
      noted_once (is_full (state_after h).calls) (event.Next trader number n w.order) h k g.history

once : (h : List Event) (a : Act) (r : Reply) (k : List Event) → DeskActs h a r k → Once h k
once h act.Draw (reply.Drawn r) k p = noted_once (is_full (state_after h).draws)
    event.Draw h k p.history
once h act.Draw (reply.Added r) k p = absurd p
once h act.Draw (reply.Left r) k p = absurd p
once h act.Draw (reply.Next back r) k p = absurd p
once h act.Draw (reply.Destroyed r) k p = absurd p
once h (act.Add e) (reply.Drawn r) k p = absurd p
once h (act.Add e) (reply.Added r) k p = noted_once (is_full (state_after h).adds)
    (event.Add e) h k p.history
once h (act.Add e) (reply.Left r) k p = absurd p
once h (act.Add e) (reply.Next back r) k p = absurd p
once h (act.Add e) (reply.Destroyed r) k p = absurd p
once h (act.Left trader number) (reply.Drawn r) k p = absurd p
once h (act.Left trader number) (reply.Added r) k p = absurd p
once h (act.Left trader number) (reply.Left r) k p =
    noted_once (is_full (state_after h).calls) (event.Left trader number) h k p.history
once h (act.Left trader number) (reply.Next back r) k p = absurd p
once h (act.Left trader number) (reply.Destroyed r) k p = absurd p
once h (act.Next trader number n begun) (reply.Drawn r) k p = absurd p
once h (act.Next trader number n begun) (reply.Added r) k p = absurd p
once h (act.Next trader number n begun) (reply.Left r) k p = absurd p
once h (act.Next trader number n begun) (reply.Next back r) k p =
    given_once h trader number n begun.writer back k (finds h trader number) r p
once h (act.Next trader number n begun) (reply.Destroyed r) k p = absurd p
once h (act.Destroy trader number) (reply.Drawn r) k p = absurd p
once h (act.Destroy trader number) (reply.Added r) k p = absurd p
once h (act.Destroy trader number) (reply.Left r) k p = absurd p
once h (act.Destroy trader number) (reply.Next back r) k p = absurd p
once h (act.Destroy trader number) (reply.Destroyed r) k p =
    noted_once (is_full (state_after h).calls) (event.Destroy trader number) h k p.history

pub acts_go_on : (h : List Event) (a : Act) (r : Reply) (k : List Event) → DeskActs h a r k
    → ExtendsHistory h k
acts_go_on h a r k p = (once h a r k p).goes_on

pub acts_within : (h : List Event) (a : Act) (r : Reply) (k : List Event) → DeskActs h a r k
    → length k ≤ length h + 1
acts_within h a r k p = (once h a r k p).most

pub makes_none : (h : List Event) (a : Act) (r : Reply) (k : List Event) → DeskActs h a r k
    → AddsMark no_marks no_marks
makes_none h a r k p = inl refl
