use Rattle.std.proofs.Common.{arith, sym, subst, ◌∙◌}
use Rattle.std.specs.List.{IsDistinct}
use Rattle.std.specs.Str.{bytes_eq}
use Rattle.td_group.proofs.Closed.{cells_named, cells_sound, opening_all}
use Rattle.td_group.proofs.group.open_all.Goals as goal

pub invariant_of-group : goal.invariant_of-group
invariant_of-group c = record {
  named = cells_named _ _ _ c.in_ok-open_each.ensures.opened ∙ sym c.requires.names;
  distinct = subst (IsDistinct bytes_eq) (sym c.requires.names) c.requires.distinct;
  sound = cells_sound _ _ _ c.in_ok-open_each.ensures.opened c.requires.sound;
  empty = omega (arith, c.in_ok-open_each.ensures.empty, c.in_ok-reserve.ensures.len);
  room = omega (arith, c.in_ok-open_each.ensures.empty, c.in_ok-reserve.ensures.ok, c.len.ensures);
}

pub returns-clause-opening : goal.returns-clause-opening
returns-clause-opening c = opening_all _ _ _ c.in_ok-open_each.ensures.opened
