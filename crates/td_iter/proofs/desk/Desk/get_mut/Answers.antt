use Rattle.std.proofs.Common.{◌≤◌, ℕ, length, inl, refl, sym, ap, ◌∙◌, arith}
use Rattle.td_iter.specs.Desks.{LiveOf, item_at, place_of, with_live_item}
use Rattle.td_iter.proofs.Places.{item-found, item-past}
use Rattle.td_iter.proofs.desk.Desk.get_mut.Goals as goal

pub returns-then-place-len : goal.returns-then-place-len
returns-then-place-len g c =
    let d : LiveOf g.row.I.Denot = c.args.self.now in
    let same = c.place_of-place.ensures.place
    ∙ ap (place_of c.args.trader.now c.args.number) (c.as_slice.ensures.value
    ∙ ap (λ (z : LiveOf g.row.I.Denot). z.0) c.self.view_is) in (
      ap (λ (place : ℕ). inl (c.item_mut.result.ghost_name, with_live_item place d)) same,
      record {
        writes_back = tt;
        value = sym c.item_mut.ensures.value ∙ ap (λ (place : ℕ). item_at d.0 place) same
            ∙ item-found c.args.trader.now c.args.number d.0;
      },
    )

pub returns-else-place-len : goal.returns-else-place-len
returns-else-place-len g c =
    let d : LiveOf g.row.I.Denot = c.args.self.now in
    let items = ap (λ (z : LiveOf g.row.I.Denot). z.0) c.self.view_is in
    let same = c.place_of-place.ensures.place
    ∙ ap (place_of c.args.trader.now c.args.number) (c.as_slice.ensures.value ∙ items) in
    let past : length d.0 ≤ place_of c.args.trader.now c.args.number d.0 =
    omega (arith, c.if-place-len.false, c.len.ensures, c.self.inside.entries.ok.0, ap length items, same) in (
      refl,
      record {
        writes_back = tt;
        value = sym (item-past d.0 (place_of c.args.trader.now c.args.number d.0) past)
            ∙ item-found c.args.trader.now c.args.number d.0;
      },
    )
