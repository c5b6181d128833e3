use Rattle.std.proofs.Common.{◌≡◌, ◌+◌, ◌≤◌, None, sym, subst, List, ℕ}
use Rattle.td_cdr.specs.Marks.{Marks, remembered}
use Rattle.td_marks.specs.Keeping.{most_kept, marks_of, AddsIdentifier}
use Rattle.td_marks.proofs.Kept.{stays_tied, mark_is}
use Rattle.td_marks.proofs.ring.Ring.mark.Goals as goal

pub invariant_of-self-2 : goal.invariant_of-self-2
invariant_of-self-2 c =
    let copied = c.in_ok-copied.copied in
    let marks : Marks = marks_of c.self.inside.count c.self.inside.counter c.self.inside.last in
    let near =
    subst (λ (m : Marks). c.args.counter ≤ m.counter + most_kept + 1) (sym c.self.view_is) c.requires.near in
    let fresh =
    subst (λ (m : Marks). remembered m c.args.identifier.now ≡ None) (sym c.self.view_is) c.requires.fresh in
    stays_tied c.self.inside.count c.self.inside.counter c.args.counter c.self.inside.last c.keep.new.last copied
    c.self.inside.numbers.entries c.enter.new.numbers.entries c.keep.new.numbers.entries c.self.invariant
    (subst (λ (i : List ℕ). remembered marks i ≡ None) (sym c.in_ok-copied.ensures) fresh) near
    (subst (λ (i : List ℕ). AddsIdentifier c.self.inside.numbers.entries i (c.self.inside.count + 1)
    c.enter.new.numbers.entries) (sym c.in_ok-copied.ensures) c.in_ok-enter.ensures.entered)
    c.keep.ensures.forgets c.keep.ensures.kept

pub returns-clause-marked : goal.returns-clause-marked
returns-clause-marked c =
    (mark_is c.self.inside.count c.self.inside.counter c.args.counter c.self.inside.last c.keep.new.last
    c.self.inside.numbers.entries c.in_ok-copied.copied c.args.identifier.now c.args.self.now c.self.invariant
    c.self.view_is c.in_ok-copied.ensures c.requires.fresh c.requires.up c.keep.ensures.kept).0

pub returns-clause-follows : goal.returns-clause-follows
returns-clause-follows c =
    (mark_is c.self.inside.count c.self.inside.counter c.args.counter c.self.inside.last c.keep.new.last
    c.self.inside.numbers.entries c.in_ok-copied.copied c.args.identifier.now c.args.self.now c.self.invariant
    c.self.view_is c.in_ok-copied.ensures c.requires.fresh c.requires.up c.keep.ensures.kept).1
