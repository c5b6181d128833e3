use Rattle.td_types.proofs.types.Types.incarnation.Goals as goal

pub returns-clause-valid : goal.returns-clause-valid
returns-clause-valid c = rw (← c.self.view_is) c.self.invariant.valid
