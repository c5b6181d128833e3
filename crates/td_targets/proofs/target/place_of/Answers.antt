use Rattle.std.proofs.Common.{◌≡◌, ◌<◌, ◌∙◌, sym, arith, rules, length, true, false}
use Rattle.std.specs.Str.{bytes_eq}
use Rattle.td_trader.specs.Worlds.{name_at}
use Rattle.td_targets.proofs.Places.{placed-behind, placed-here, placed-last}
use Rattle.td_targets.proofs.target.place_of.Goals as goal

pub returns-then-eq : goal.returns-then-eq
returns-then-eq g c =
    let w = g.T.Traders.world c.args.traders.now in
    let i = c.loop-place.invariant in
    let h : c.loop-place.place < length w = omega (arith, c.loop-place-test.true, c.count-count.ensures.count) in
    let e : bytes_eq (name_at w c.loop-place.place) c.args.name.now ≡ true = search rules in
    sym (i.1 ∙ placed-here w c.args.name.now c.loop-place.place h e c.loop-place.place)

pub loop-place-preserved : goal.loop-place-preserved
loop-place-preserved g c =
    let w = g.T.Traders.world c.args.traders.now in
    let i = c.loop-place.invariant in
    let h : c.loop-place.place < length w = omega (arith, c.loop-place-test.true, c.count-count.ensures.count) in
    let e : bytes_eq (name_at w c.loop-place.place) c.args.name.now ≡ false = search rules in
    (omega (arith, h), i.1 ∙ placed-behind w c.args.name.now c.loop-place.place h e c.loop-place.place)

pub returns : goal.returns
returns g c =
    let w = g.T.Traders.world c.args.traders.now in
    let i = c.loop-place.invariant in
    sym (i.1 ∙ placed-last w c.args.name.now c.loop-place.place c.loop-place.place
    (omega (arith, c.loop-place-test.false, c.count-count.ensures.count)))
