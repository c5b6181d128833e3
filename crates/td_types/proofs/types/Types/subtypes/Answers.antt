use Rattle.td_types.proofs.Below.{content-when, content, content-rising, content-none}
use Rattle.td_types.proofs.types.Types.subtypes.Goals as goal

pub returns-clause-answer : goal.returns-clause-answer
returns-clause-answer c =
    content-when c.below.result _ _
    (content c.self.inside.entries c.as_slice.result.now c.self.inside.interfaces c.self.inside.last c.args.base.now
    c.as_slice-2.result.now c.args.self.now c.self.view_is c.as_slice.ensures c.as_slice-2.ensures
    c.self.invariant)
    c.below.ensures

pub returns-clause-rising : goal.returns-clause-rising
returns-clause-rising c =
    content-when c.below.result _ _
    (content-rising c.self.inside.entries c.as_slice.result.now c.self.inside.interfaces c.self.inside.last
    c.args.base.now c.as_slice-2.result.now c.args.self.now c.self.view_is c.as_slice.ensures
    c.as_slice-2.ensures c.self.invariant)
    c.below.ensures

pub returns-clause-unknown : goal.returns-clause-unknown
returns-clause-unknown c absent =
    content-when c.below.result _ _
    (content-none c.self.inside.entries c.as_slice.result.now c.self.inside.interfaces c.self.inside.last
    c.args.base.now c.as_slice-2.result.now c.args.self.now c.self.view_is c.as_slice.ensures
    c.as_slice-2.ensures c.self.invariant absent)
    c.below.ensures
