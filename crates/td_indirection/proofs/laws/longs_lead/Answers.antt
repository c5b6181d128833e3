use Rattle.td_indirection.specs.Indirections.{long-leads}
use Rattle.td_indirection.proofs.laws.longs_lead.Goals as goal

pub returns : goal.returns
returns c = λ first s p j good there small. long-leads first s p j good there small
