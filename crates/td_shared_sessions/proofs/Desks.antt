-- Passes of the desk that are split off and taken in, as what is seen through them.
use Rattle.std.proofs.Common.{◌≡◌, ◌∙◌, ◌+◌, ◌-◌, ◌≤◌, List, [], ◌∷◌, length, Option, None, Some, false, true, refl, sym, ap}
use Rattle.std.proofs.Common.{subst, arith, length-append}
use Rattle.std.proofs.lemmas.List.{length-set}
use Rattle.td_cell.specs.Lists.{Rises, itself}
use Rattle.td_cell.specs.Passes.{IsOpening, SameCell, SameNumbers, knowledge}
use Rattle.td_cell.specs.Rules.{Before, Learns, first_view, met_view, opener, split_off}
use Rattle.td_cell.specs.declared.book.Book.{Ghosts}
use Rattle.td_cell.specs.declared.cell.Cell.{Cell}
use Rattle.td_cell.specs.declared.pass.Pass.{Pass}
use Rattle.td_cell.specs.declared.pass.View.{View as Knowledge}
use Rattle.td_desk.specs.Acting.{ExtendsHistory, no_marks}
use Rattle.td_desk.specs.declared.event.Event.{Event}
use Rattle.td_shared.specs.DeskSeen.{DeskJoins, DeskSeen, bare_desk, desk_seen, history_or_none}
use Rattle.td_shared_sessions.specs.Desks.{IsOutOf, OpensDesk}
use Rattle.td_shared_sessions.specs.Sessions.{shared_world}
use Rattle.td_shared_sessions.specs.Whole.{new_desk}
use Rattle.td_trader.specs.Worlds.{View}

abbrev Known : Type 0
Known = Knowledge (List Event)

-- ---- what is seen

-- a session begins with what is seen, and with nothing of its own
pub desk_first : (v w : Known) → w ≡ split_off v → desk_seen w ≡ bare_desk (desk_seen v)
desk_first v w is = ap desk_seen is

pub desk_keeps : (v w : Known) → w ≡ opener v → desk_seen w ≡ desk_seen v
desk_keeps v w is = ap desk_seen is

pub desk_is_new : (v : Known) → v ≡ first_view [] 0 0 → desk_seen v ≡ new_desk
desk_is_new v is = ap desk_seen is

before_seen : (o : Option (List Event)) (h : List Event) → Before ExtendsHistory o h → ExtendsHistory (history_or_none o) h
before_seen None h b = record { rest = h; is = refl }
before_seen (Some a) h b = b

-- what a session has seen and done is taken in
pub desk_joins : (v w u : Known) → Learns ExtendsHistory (length {A = Event}) (λ (h : List Event). no_marks) (met_view v w) u
    → DeskJoins (desk_seen v) (desk_seen w) (desk_seen u)
desk_joins v w u l =
    let same : history_or_none u.seen ≡ l.book = ap (λ (k : Known). history_or_none k.seen) l.is in
    let own = ap (λ (k : Known). k.own) l.is in
    record {
      before = subst (ExtendsHistory (history_or_none v.seen)) (sym same) (before_seen v.seen l.book l.before.0);
      seen = subst (ExtendsHistory (history_or_none w.seen)) (sym same) (before_seen w.seen l.book l.before.1);
      own = own;
      apart = subst (Rises itself) (sym own) l.places;
    }

-- the traders and the desk together
pub world_is : (ts us : List View) (d e : DeskSeen) → ts ≡ us → d ≡ e → shared_world ts d ≡ shared_world us e
world_is ts us d e t s =
    ap (λ (x : List View). shared_world x d) t ∙ ap (λ (x : DeskSeen). shared_world us x) s

-- ---- which passes are out

module _ {A R : Type 0} {g : Ghosts (List Event) A R} where
  -- the desk's opening pass is so still
  pub opens_after : (c : Cell (List Event) A R) (p q : Pass (List Event) A R g) → SameCell q p → IsOpening q
      → OpensDesk c p → OpensDesk c q
  opens_after c p q cell opening o = record { belongs = cell ∙ o.belongs; opening = opening }

  pub opens_still : (c : Cell (List Event) A R) (p q : Pass (List Event) A R g) → SameCell q p
      → knowledge q ≡ opener (knowledge p) → OpensDesk c p → OpensDesk c q
  opens_still c p q cell opening o = opens_after c p q cell (ap (λ (v : Known). v.number) opening ∙ o.opening) o

  pub out_of : (p t q : Pass (List Event) A R g) → SameCell q p → SameCell t p → knowledge q ≡ opener (knowledge p)
      → knowledge t ≡ split_off (knowledge p) → IsOutOf q t
  out_of p t q cell of_cell opening out =
      let number : (knowledge t).number ≡ length (knowledge p).met + 1 =
      ap (λ (v : Known). v.number) out in
      let longer : length (knowledge q).met ≡ length (knowledge p).met + 1 =
      ap (λ (v : Known). length v.met) opening ∙ length-append (knowledge p).met (false ∷ []) in
      record {
        of_cell = of_cell ∙ sym cell;
        split = record { number = omega arith; known = omega arith };
      }

  -- what is out stays out while the opening pass's list doesn't shrink
  out_on : (p q t : Pass (List Event) A R g) → SameCell q p → length (knowledge p).met ≤ length (knowledge q).met
      → IsOutOf p t → IsOutOf q t
  out_on p q t cell longer o =
      let most = o.split.known in
      record {
        of_cell = o.of_cell ∙ sym cell;
        split = record { number = o.split.number; known = omega arith };
      }

  pub split_keeps_out : (p q : Pass (List Event) A R g) → SameCell q p → knowledge q ≡ opener (knowledge p)
      → (t : Pass (List Event) A R g) → IsOutOf p t → IsOutOf q t
  split_keeps_out p q cell opening t =
      let longer : length (knowledge q).met ≡ length (knowledge p).met + 1 =
      ap (λ (v : Known). length v.met) opening ∙ length-append (knowledge p).met (false ∷ []) in
      out_on p q t cell (omega arith)

  pub meet_keeps_out : (p s q : Pass (List Event) A R g) → SameCell q p
      → Learns ExtendsHistory (length {A = Event}) (λ (h : List Event). no_marks) (met_view (knowledge p) (knowledge s))
      (knowledge q) → (t : Pass (List Event) A R g) → IsOutOf p t → IsOutOf q t
  meet_keeps_out p s q cell l t =
      let same : length (knowledge q).met ≡ length (knowledge p).met =
      ap (λ (v : Known). length v.met) l.is ∙ length-set (knowledge p).met ((knowledge s).number - 1) true in
      out_on p q t cell (omega arith)

  -- the pass that a session called through is out as it was
  pub still_out : (p t u : Pass (List Event) A R g) → SameCell u t → SameNumbers (knowledge t) (knowledge u)
      → IsOutOf p t → IsOutOf p u
  still_out p t u cell same o =
      let number : (knowledge u).number ≡ (knowledge t).number = same.number in
      let first = o.split.number in
      let most = o.split.known in
      record {
        of_cell = cell ∙ o.of_cell;
        split = record { number = omega arith; known = omega arith };
      }
