use Rattle.std.proofs.Common.{sym, ◌∙◌}
use Rattle.std.proofs.lemmas.Bool.{false≢true}
use Rattle.td_store.proofs.Walking.{on, turns}
use Rattle.td_store.proofs.gathering.gather.Goals as goal

pub unreachable-requires : goal.unreachable-requires
unreachable-requires g c =
    false≢true (c.in-None.ensures.found ∙ on _ _ c.in-Some.place (sym c.in-Some.is ∙ c.loop-next.invariant.0.next_is))

pub loop-next-preserved : goal.loop-next-preserved
loop-next-preserved g c =
    turns (λ r. r.now) _ _ c.in-Some.place _ _ c.args.into.now.items c.loop-next.into.items c.push.new.self.items _ _ _
    c.in-Some-read.value
    c.in-Some.is c.loop-next.invariant c.in-Some-read.ensures.value c.in-Some-read.ensures.next c.read.ensures.step
    c.in_ok-push-in-Some-read.ensures.items
