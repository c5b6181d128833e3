use Rattle.std.proofs.Common.{◌≡◌, sym, ◌∙◌, ap, subst, arith, ◌∷◌, refl}
use mathlib.Core.Option.{none}
use Rattle.atomic_table.specs.Table.{Allows, step, rest}
use Rattle.td_cell.specs.OwnMarks.{marks_between}
use Rattle.td_cell.specs.Rules.{KeepsRule, CountsChanges, Marks_counted, MarksBook, GivesView, with_turn, with_changes}
use Rattle.td_cell.specs.Rules.{with_marks}
use Rattle.td_cell.proofs.Keeps.{count_allows, marks_allows, give_allows, first_same}
use Rattle.td_cell.proofs.cell.Cell.act.Goals as goal

pub store-requires : goal.store-requires
store-requires g c =
    let t = c.take.ensures.taken in
    let tab = c.args.self.now.table.shared in
    let n = tab.table_id.slots in
    let id = c.take.new.seat.id in
    let new = c.act-reply.new.self in
    let m = c.changes-changes.result in
    let b = g.B.Book in
    let law = g.met.B.Book in
    let here : t.0 ≡ c.slot_mut-book.result.now =
    first_same _ _ _ _ _ (ap (λ m. m.1) t.2) c.slot_mut-book.ensures.value in
    let did : b.acts t.0 c.args.a c.act-reply.result new =
    subst (λ x. b.acts x c.args.a c.act-reply.result new) (sym here) c.act-reply.ensures in
    let up = law.later_size _ _ (law.acts_later _ _ _ _ did) in
    let once = law.acts_once _ _ _ _ did in
    let is = c.changes-changes.ensures in
    let v = with_turn c.args.seat.now.me.0 t.0 (b.size t.0) (b.remembers t.0).count in (
      c.take.ensures.own.0 ∙ c.requires.own,
      omega (arith, c.args.self.now.three_words),
      subst (λ x. Allows (KeepsRule b.later b.size b.remembers tab.key.value) n id (x.0, (0, new) ∷ rest x.1) 1 (λ _. m)
          (λ _. CountsChanges (step n 1 m 0 none) (x.0, (0, new) ∷ rest x.1) m))
          (sym t.2)
          (count_allows b.later b.size b.remembers law.later_itself law.later_on tab.key.value n v id m new
          c.requires.free.1 refl (omega (arith, up, is)) (omega (arith, once, is))),
    )

pub store-requires-2 : goal.store-requires-2
store-requires-2 g c =
    let t = c.take.ensures.taken in
    let tab = c.args.self.now.table.shared in
    let n = tab.table_id.slots in
    let new = c.act-reply.new.self in
    let m = c.changes-changes.result in
    let m2 = c.marks-marks.result in
    let b = g.B.Book in
    let law = g.met.B.Book in
    let here : t.0 ≡ c.slot_mut-book.result.now =
    first_same _ _ _ _ _ (ap (λ m. m.1) t.2) c.slot_mut-book.ensures.value in
    let did : b.acts t.0 c.args.a c.act-reply.result new =
    subst (λ x. b.acts x c.args.a c.act-reply.result new) (sym here) c.act-reply.ensures in
    let v = with_turn c.args.seat.now.me.0 t.0 (b.size t.0) (b.remembers t.0).count in
    let e = c.store.ensures.2 ∙ ap (λ x. (with_changes x.0 m, (0, new) ∷ rest x.1)) t.2 in (
      c.store.ensures.0 ∙ (c.take.ensures.own.0 ∙ c.requires.own),
      omega (arith, c.args.self.now.three_words),
      subst (λ x. Allows (KeepsRule b.later b.size b.remembers tab.key.value) n c.store.new.seat.id x 2 (λ _. m2)
          (λ _. Marks_counted b.remembers (step n 2 m2 0 none) x m2))
          (sym e)
          (marks_allows b.later b.size b.remembers law.later_itself law.later_on tab.key.value n (with_changes v m)
          c.store.new.seat.id m2 t.0 new c.requires.free.1 refl refl (law.acts_later _ _ _ _ did)
          (law.later_marks _ _ (law.acts_later _ _ _ _ did)) (law.acts_mark _ _ _ _ did)),
    )

pub store-requires-3 : goal.store-requires-3
store-requires-3 g c =
    let t = c.take.ensures.taken in
    let tab = c.args.self.now.table.shared in
    let n = tab.table_id.slots in
    let new = c.act-reply.new.self in
    let m = c.changes-changes.result in
    let m2 = c.marks-marks.result in
    let b = g.B.Book in
    let law = g.met.B.Book in
    let v = with_turn c.args.seat.now.me.0 t.0 (b.size t.0) (b.remembers t.0).count in
    let e = c.store.ensures.2 ∙ ap (λ x. (with_changes x.0 m, (0, new) ∷ rest x.1)) t.2 in
    let e2 = subst (λ x. MarksBook b.remembers x.0.seen x.0 x.1 m2 c.store-2.new.seat.me) e c.store-2.ensures.2 in (
      c.store-2.ensures.0 ∙ (c.store.ensures.0 ∙ (c.take.ensures.own.0 ∙ c.requires.own)),
      omega (arith, c.args.self.now.three_words),
      subst (λ x. Allows (KeepsRule b.later b.size b.remembers tab.key.value) n c.store-2.new.seat.id x 0 (λ _. 0)
          (λ _. GivesView b.remembers (step n 0 0 0 none) x 0))
          (sym e2)
          (give_allows b.later b.size b.remembers law.later_itself law.later_on tab.key.value n
          (with_marks (with_changes v m) new (marks_between (b.remembers t.0) (b.remembers new)) m2) c.store-2.new.seat.id
          new c.requires.free.1 refl refl c.changes-changes.ensures c.marks-marks.ensures),
    )
