use Rattle.td_iter.specs.Heads.{items_found}
use Rattle.td_iter.proofs.Giving.{within, gives-batch, moves-on, items-one}
use Rattle.td_iter.proofs.iter.Iter.first_batch.Goals as goal

pub give-requires : goal.give-requires
give-requires g c =
    within (items_found g.T.Spelled.format.writes c.args.iterator.now) c.args.self.now c.left.result.now c.args.self.now c.args.n
    c.in_ok-count.count c.args.w.now c.put_first.new.w c.left.ensures c.in_ok-count.ensures.puts

pub returns-clause-batch : goal.returns-clause-batch
returns-clause-batch g c =
    gives-batch (items_found g.T.Spelled.format.writes c.args.iterator.now) c.args.self.now c.left.result.now c.give.new.self c.args.n
    c.in_ok-count.count c.args.w.now c.put_first.new.w c.left.ensures c.in_ok-count.ensures.puts c.give.ensures.left
    c.give.result c.give.ensures.more

pub returns-clause-some : goal.returns-clause-some
returns-clause-some g c = λ short.
    moves-on (items_found g.T.Spelled.format.writes c.args.iterator.now) c.args.self.now c.give.new.self c.args.n c.args.w.now
    c.put_first.new.w c.give.result (returns-clause-batch g c)
    (items-one c.args.iterator.now c.requires.reference g.T.Spelled.format.writes c.args.self.now c.args.w.now
    c.requires.start short)
