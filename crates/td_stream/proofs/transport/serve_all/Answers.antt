use Rattle.std.proofs.Common.{◌∙◌, ◌^◌, refl}
use Rattle.td_stream.proofs.Complete.{complete}
use Rattle.td_stream.proofs.Leading.{came-first, came-on, streams-last, streams-none, spends}
use Rattle.td_stream.proofs.Runs.{begins, no_stream}
use Rattle.td_stream.proofs.transport.serve_all.Goals as goal

pub returns-in_default-clause-streams : goal.returns-in_default-clause-streams
returns-in_default-clause-streams g c =
    streams-none g.V.Servant.serves g.V.Servant.stays _ _ _ _ (g.met.V.Servant.stays_itself _) (no_stream _ _ _ _)

pub returns-in_default-clause-complete : goal.returns-in_default-clause-complete
returns-in_default-clause-complete g c =
    complete g.V.Servant.serves g.V.Servant.stays _ _ _ _ _ (returns-in_default-clause-streams g c)

pub loop-end-init : goal.loop-end-init
loop-end-init g c = (
  g.met.V.Servant.same_itself _,
  refl,
  came-first g.V.Servant.serves g.V.Servant.stays _ _ _
      (begins _ _ _ _ _ _ _ _ _ c.in-Ok.ensures.0 c.in-Ok.ensures.1 c.in-Ok.ensures.2 c.requires.held
      c.requires.works),
)

pub turn-requires : goal.turn-requires
turn-requires g c = record {
  room =
      spends g.V.Servant.serves g.V.Servant.stays g.V.Servant.budget g.met.V.Servant.spends _ _ _ _ (2 ^ 62)
      c.requires.budget c.loop-end.invariant.2;
}

pub loop-end-preserved : goal.loop-end-preserved
loop-end-preserved g c =
    let i = c.loop-end.invariant in (
      g.met.V.Servant.same_on _ _ _ i.0 c.turn.ensures.same,
      c.turn.ensures.same_sink ∙ i.1,
      came-on g.V.Servant.serves g.V.Servant.stays _ _ _ _ _ _ i.2 c.in-None.ensures.proceeds,
    )

pub returns-in-Some-clause-same : goal.returns-in-Some-clause-same
returns-in-Some-clause-same g c = g.met.V.Servant.same_on _ _ _ c.loop-end.invariant.0 c.turn.ensures.same

pub returns-in-Some-clause-same_sink : goal.returns-in-Some-clause-same_sink
returns-in-Some-clause-same_sink g c = c.turn.ensures.same_sink ∙ c.loop-end.invariant.1

pub returns-in-Some-clause-streams : goal.returns-in-Some-clause-streams
returns-in-Some-clause-streams g c =
    streams-last g.V.Servant.serves g.V.Servant.stays _ _ _ _ _ _ _ c.loop-end.invariant.2
    c.in-Some.ensures.proceeds

pub returns-in-Some-clause-complete : goal.returns-in-Some-clause-complete
returns-in-Some-clause-complete g c =
    complete g.V.Servant.serves g.V.Servant.stays _ _ _ _ _ (returns-in-Some-clause-streams g c)
