use Rattle.std.proofs.Common.{List, Option, sym, ap, ◌∙◌, map, length, subst, arith}
use Rattle.td_store.specs.Slots.{value_of}
use Rattle.td_store.specs.Kept.{IsSlab, slab_of}
use Rattle.td_store.proofs.Keeping.{new-kept, new-view}
use Rattle.td_store.proofs.slab.Slab.new.Goals as goal

pub invariant_of-result : goal.invariant_of-result
invariant_of-result g c =
    subst (λ (slots : List (Option g.row.T.Denot)).
    IsSlab slots c.grow.new.self.linked.0 (length c.grow.new.self.joints.items) 0)
    (ap (map value_of) (sym c.new.ensures.items))
    (new-kept c.grow.new.self.linked.0 (length c.grow.new.self.joints.items)
    (λ k. c.grow.ensures.rings k ∙ c.new-rings.ensures.empty k)
    (omega (arith, c.in_ok-grow.ensures.ok, ap length c.new-rings.ensures.none)))

pub returns : goal.returns
returns g c =
    ap (λ (slots : List (Option g.row.T.Denot)). slab_of slots c.grow.new.self.linked.0 0)
    (ap (map value_of) c.new.ensures.items)
    ∙ new-view c.grow.new.self.linked.0 (λ k. c.grow.ensures.rings k ∙ c.new-rings.ensures.empty k)
