use Rattle.std.proofs.Common.{◌-◌, ap}
use Rattle.td_iter.proofs.Counting.{counted-fills}
use Rattle.td_iter.proofs.filling.put_counted.Goals as goal

pub returns-clause-fills : goal.returns-clause-fills
returns-clause-fills g c =
    counted-fills g.T.Spelled.format.writes c.args.tail c.args.items.now c.args.w.now c.u32.new.self
    c.put_items.new.w c.set_u32.new.self c.args.n c.in_ok-count.count (c.len-place.result - 4)
    c.in_ok-u32.ensures.done.0 c.in_ok-u32.ensures.done.1 (ap (λ n. n - 4) c.len-place.ensures.len)
    c.in_ok-count.ensures.fills c.in_ok-count.ensures.order (ap (λ d. d.bytes) c.set_u32.ensures)
