use Rattle.std.proofs.Common.{◌≡◌, ◌+◌, ◌||◌, Bool, true, false, List, drop, sym, ap, ◌∙◌, arith}
use Rattle.std.proofs.lemmas.List.{at_drop_all}
use Rattle.std.specs.Str.{bytes_eq}
use Rattle.td_value.specs.declared.structures.Property.{Property}
use Rattle.td_register.specs.Properties.{carries}
use Rattle.td_register.proofs.InOrder.{at_item}
use Rattle.td_register.proofs.properties.carries.Goals as goal

pub returns-then-eq : goal.returns-then-eq
returns-then-eq c =
    let ps = c.args.properties.now in
    let name = c.args.name.now in
    let i = c.loop-property.property-index in
    let p = c.property-item.result in
    let yes : bytes_eq p.name name ≡ true = sym (rw c.as_slice.ensures at c.eq.ensures) ∙ c.if-eq.true in
    sym (ap (λ (b : Bool). b || carries (drop (i + 1) ps) name) yes)
    ∙ at_item (λ (left : List Property). carries left name) ps i p (carries ps name) c.loop-property-test.true
    c.property-item.is c.loop-property.invariant

pub loop-property-preserved : goal.loop-property-preserved
loop-property-preserved c =
    let ps = c.args.properties.now in
    let name = c.args.name.now in
    let i = c.loop-property.property-index in
    let p = c.property-item.result in
    let no : bytes_eq p.name name ≡ false = sym (rw c.as_slice.ensures at c.eq.ensures) ∙ c.if-eq.false in
    sym (ap (λ (b : Bool). b || carries (drop (i + 1) ps) name) no)
    ∙ at_item (λ (left : List Property). carries left name) ps i p (carries ps name) c.loop-property-test.true
    c.property-item.is c.loop-property.invariant

pub returns : goal.returns
returns c =
    let name = c.args.name.now in
    sym (at_drop_all (λ (left : List Property). carries left name) c.args.properties.now
    c.loop-property.property-index (omega arith))
    ∙ c.loop-property.invariant
