use Rattle.std.proofs.Common.{refl, sym, ap, ◌∙◌}
use Rattle.std.specs.Option.{is_some}
use Rattle.td_store.specs.Slabs.{Slab, value_at}
use Rattle.td_store.proofs.Keeping.{lent-kept, lent-view, slot-is, slot-within, has-of}
use Rattle.td_store.proofs.slab.Slab.value_mut.Goals as goal

pub value_mut-requires : goal.value_mut-requires
value_mut-requires g c =
    let items = c.self.inside.values.items in
    let had = has-of _ _ _ c.args.place _ c.self.view_is c.requires in
    ap is_some (sym (slot-is items c.args.place _ (slot-within items c.args.place had) c.index_mut.ensures.value)) ∙ had

pub invariant_of-self-lent : goal.invariant_of-self-lent
invariant_of-self-lent g c w =
    lent-kept _ _ _ _ c.args.place w c.self.invariant (has-of _ _ _ c.args.place _ c.self.view_is c.requires)

pub returns : goal.returns
returns g c =
    let items = c.self.inside.values.items in
    let had = has-of _ _ _ c.args.place _ c.self.view_is c.requires in
    let at = slot-is items c.args.place _ (slot-within items c.args.place had) c.index_mut.ensures.value in (
      (refl, λ w. lent-view items _ _ c.args.place w _ c.self.view_is),
      record {
        writes_back = tt;
        value = ap (λ (z : Slab g.row.T.Denot). value_at z.slots c.args.place) (sym c.self.view_is)
            ∙ (at ∙ c.value_mut.ensures.value);
      },
    )
