use Rattle.std.proofs.Common.{◌≡◌, ◌+◌, ◌-◌, ◌<◌, ◌^◌, ◌∙◌, not, true, false, sym, ap, subst, ℕ, length, arith, IfOk}
use Rattle.td_cdr.specs.Marks.{Marks, remembered}
use Rattle.td_marks.specs.Making.{is_free, next_value, made_from}
use Rattle.td_marks.specs.declared.made.Made.{Made}
use Rattle.td_marks.proofs.Free.{stops, goes_on, ends, content_free, made_are_free}
use Rattle.td_marks.proofs.ring.Ring.make.Goals as goal

pub returns-then-is_none-clause-made : goal.returns-then-is_none-clause-made
returns-then-is_none-clause-made c =
    let free : is_free c.args.self.now c.args.stem.now c.loop-value.value ≡ true =
    content_free c.args.self.now c.args.stem.now c.in_ok-made.made.identifier c.loop-value.value c.remembered.result true
    (ap (λ (x : Made). x.identifier) c.in_ok-made.ensures)
    (c.remembered.ensures ∙ ap (remembered c.args.self.now) c.as_slice.ensures)
    (c.is_none.ensures ∙ ap not c.if-is_none.true) in
    let at_last =
    stops (is_free c.args.self.now c.args.stem.now) (c.counter-start.result + c.len.result - c.loop-value.value)
    c.loop-value.value (omega (arith, c.loop-value-test.true)) free in
    c.in_ok-made.ensures
    ∙ ap (λ (v : ℕ). made_from c.args.stem.now v) (sym at_last ∙ c.loop-value.invariant.1)

pub loop-value-preserved : goal.loop-value-preserved
loop-value-preserved c =
    let taken : is_free c.args.self.now c.args.stem.now c.loop-value.value ≡ false =
    content_free c.args.self.now c.args.stem.now c.in_ok-made.made.identifier c.loop-value.value c.remembered.result false
    (ap (λ (x : Made). x.identifier) c.in_ok-made.ensures)
    (c.remembered.ensures ∙ ap (remembered c.args.self.now) c.as_slice.ensures)
    (c.is_none.ensures ∙ ap not c.if-is_none.false) in (
      omega (arith, c.loop-value-test.true),
      sym (goes_on (is_free c.args.self.now c.args.stem.now)
          (c.counter-start.result + c.len.result - c.loop-value.value)
          (c.counter-start.result + c.len.result - (c.loop-value.value + 1)) c.loop-value.value
          (omega (arith, c.loop-value-test.true)) (omega (arith, c.loop-value-test.true)) taken)
          ∙ c.loop-value.invariant.1,
    )

pub returns-clause-fresh : goal.returns-clause-fresh
returns-clause-fresh c =
    let m : Marks = c.args.self.now in
    let none : c.counter-start.result + c.len.result - c.loop-value.value ≡ 0 = omega arith in
    let end : c.loop-value.value ≡ c.counter-start.result + c.len.result = omega arith in
    let next : c.counter-start.result + c.len.result ≡ next_value m c.args.stem.now =
    sym end ∙ (sym (ends (is_free m c.args.stem.now) (c.counter-start.result + c.len.result - c.loop-value.value)
    c.loop-value.value none) ∙ c.loop-value.invariant.1) in
    let fits : m.counter + length m.kept < 256 ^ 8 = omega arith in
    made_are_free m c.args.stem.now c.make-2.result c.keeps.ensures.orderly fits
    (subst (λ (v : ℕ). IfOk c.make-2.result (λ (x : Made). x ≡ made_from c.args.stem.now v)) next c.make-2.ensures)
