use Rattle.std.proofs.Common.{◌≡◌, ◌+◌, ◌*◌, sym, ap, ◌∙◌, arith}
use Rattle.std.proofs.lemmas.Bool.{or_left, or_right}
use Rattle.td_store.specs.Slabs.{is_in}
use Rattle.td_store.specs.Rings.{after}
use Rattle.td_store.specs.Kept.{next_place}
use Rattle.td_store.proofs.Reading.{on-chain, next-of, sides_first, sides_second, or-none}
use Rattle.td_store.proofs.slab.next_on.Goals as goal

pub returns-then-is_on-clause-found : goal.returns-then-is_on-clause-found
returns-then-is_on-clause-found c =
    let l = c.args.rings.now.linked in
    let first = sym c.is_on.ensures.value ∙ c.if-is_on.true in
    sym (on-chain _ _ _ c.args.place (l.0 c.args.ring) (l.1.paths c.args.ring) ∙ or_left _ _ first)

pub returns-then-is_on-clause-next : goal.returns-then-is_on-clause-next
returns-then-is_on-clause-next c front back e =
    let l = c.args.rings.now.linked in
    let first = sym c.is_on.ensures.value ∙ c.if-is_on.true in
    c.place_at.ensures ∙ (ap next_place c.after.ensures.value
    ∙ next-of _ _ c.args.ring c.args.place (3 * c.args.place + 1) (3 * c.args.place + 2) (l.0 c.args.ring) front back
    (l.1.paths c.args.ring) (sides_first c.args.place) (c.requires.apart first) e)

pub returns-then-is_on-2-clause-found : goal.returns-then-is_on-2-clause-found
returns-then-is_on-2-clause-found c =
    let l = c.args.rings.now.linked in
    let same : 3 * c.args.place + 1 + 1 ≡ 3 * c.args.place + 2 = omega arith in
    let second = ap (λ z. is_in z (l.0 c.args.ring)) (sym same) ∙ (sym c.is_on-2.ensures.value ∙ c.if-is_on-2.true) in
    sym (on-chain _ _ _ c.args.place (l.0 c.args.ring) (l.1.paths c.args.ring) ∙ or_right _ _ second)

pub returns-then-is_on-2-clause-next : goal.returns-then-is_on-2-clause-next
returns-then-is_on-2-clause-next c front back e =
    let l = c.args.rings.now.linked in
    let same : 3 * c.args.place + 1 + 1 ≡ 3 * c.args.place + 2 = omega arith in
    let first = sym c.is_on.ensures.value ∙ c.if-is_on.false in
    c.place_at-then-is_on-2.ensures
    ∙ (ap next_place (c.after-then-is_on-2.ensures.value ∙ ap (λ z. after c.args.rings.now.joints.items z) same)
    ∙ next-of _ _ c.args.ring c.args.place (3 * c.args.place + 2) (3 * c.args.place + 1) (l.0 c.args.ring) front back
    (l.1.paths c.args.ring) (sides_second c.args.place) first e)

pub returns-clause-found : goal.returns-clause-found
returns-clause-found c =
    let l = c.args.rings.now.linked in
    let same : 3 * c.args.place + 1 + 1 ≡ 3 * c.args.place + 2 = omega arith in
    let first = sym c.is_on.ensures.value ∙ c.if-is_on.false in
    let second = ap (λ z. is_in z (l.0 c.args.ring)) (sym same) ∙ (sym c.is_on-2.ensures.value ∙ c.if-is_on-2.false) in
    sym (on-chain _ _ _ c.args.place (l.0 c.args.ring) (l.1.paths c.args.ring) ∙ or-none _ _ first second)
