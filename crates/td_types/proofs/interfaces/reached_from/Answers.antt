use Rattle.std.proofs.lemmas.Result.{IfOk-weaker}
use Rattle.td_types.proofs.Tables.{starts-within, links-within, least_reaches}
use Rattle.td_types.proofs.interfaces.reached_from.Goals as goal

pub reach-requires-clause-starts : goal.reach-requires-clause-starts
reach-requires-clause-starts c =
    starts-within c.args.declared.now c.args.links.now.items c.from_ref.result.now c.as_slice.result.now c.requires
    (λ place. rw c.as_slice.ensures (c.in_ok-starts.ensures place))

pub reach-requires-clause-links : goal.reach-requires-clause-links
reach-requires-clause-links c = links-within c.args.declared.now c.args.links.now.items c.requires

pub returns : goal.returns
returns c =
    IfOk-weaker c.reach.result _ _
    (λ marks least. least_reaches c.args.declared.now c.args.links.now.items c.as_slice.result.now marks
    c.args.id.now c.requires
    (λ place. rw (c.as_slice.ensures, ← c.from_ref.ensures.value) (c.in_ok-starts.ensures place)) least)
    c.reach.ensures
