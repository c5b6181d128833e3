use Rattle.td_group.proofs.group.open_one.Goals as goal

pub returns : goal.returns
returns c = record {
  cell = c.in_ok-cell.cell;
  pass = c.in_ok-cell.pass;
  cells_are = c.in_ok-push.ensures.items;
  passes_are = c.in_ok-push-2.ensures.items;
  fresh = record {
    belongs = c.in_ok-cell.ensures.own.0;
    opening = c.in_ok-cell.ensures.own.1;
    opened_is = c.in_ok-cell.ensures.opened;
    seen = c.in_ok-cell.ensures.seen;
  };
}
