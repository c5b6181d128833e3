use Rattle.std.proofs.Common.{◌<◌, length, Some, refl, sym, ap, ◌∙◌, arith}
use Rattle.td_iter.specs.Desks.{LiveOf, item_at}
use Rattle.td_iter.proofs.Places.{lent-view, item-there, set-long}
use Rattle.td_iter.proofs.desk.Desk.item_mut.Goals as goal

pub invariant_of-self-lent : goal.invariant_of-self-lent
invariant_of-self-lent g c w =
    let long = set-long c.self.inside.entries.items c.args.place (record c.index_mut.result.now { item = w }) in
    (omega (arith, long, c.self.invariant.0), c.self.invariant.1, c.self.invariant.2)

pub returns : goal.returns
returns g c =
    let items = c.self.inside.entries.items in
    let e = c.index_mut.result.now in
    let within : c.args.place < length items =
    omega (arith, c.requires, ap (λ (d : LiveOf g.row.I.Denot). length d.0) c.self.view_is) in (
      (
        refl,
        λ w. lent-view items c.self.inside.next c.args.self.now c.args.place e w c.self.view_is within
            c.index_mut.ensures.value,
      ),
      record {
        writes_back = tt;
        value = ap (λ (d : LiveOf g.row.I.Denot). item_at d.0 c.args.place) (sym c.self.view_is)
            ∙ item-there items c.args.place e within c.index_mut.ensures.value
            ∙ ap Some (sym c.item_mut.ensures.value);
      },
    )
