use Rattle.td_name_session.proofs.iterators.Iterators.call.Goals as goal

pub returns-in-NextOne : goal.returns-in-NextOne
returns-in-NextOne c = rw c.in-NextOne.is (rw (← c.self.view_is) c.batch.ensures)

pub returns-in-NextN : goal.returns-in-NextN
returns-in-NextN c = rw c.in-NextN.is (rw (← c.self.view_is) c.batch-in-NextN.ensures)

pub returns-in-Destroy : goal.returns-in-Destroy
returns-in-Destroy c = rw c.in-Destroy.is (rw (← c.self.view_is) (c.destroy.ensures c.args.w.now c.args.w.now))
