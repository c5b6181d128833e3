use Rattle.std.proofs.Common.{sym, ◌∙◌}
use Rattle.td_cell.specs.Passes.{knowledge}
use Rattle.td_shared_names.proofs.Seen.{sound_on, turn_goes_on}
use Rattle.td_shared_names.specs.Seeing.{past_of}
use Rattle.td_shared_names.proofs.pass.NamePass.turn.Goals as goal

pub invariant_of-self : goal.invariant_of-self
invariant_of-self g c =
    let s = c.args.self.now in
    let p = s.pass in
    let q = c.turn.new.pass in
    let on = turn_goes_on (knowledge p) (knowledge q) p.knows q.knows c.args.a c.turn.result c.turn.ensures.turned in
    record {
      belongs = c.turn.ensures.own ∙ s.belongs;
      here = on.home ∙ s.here;
      sound = sound_on (past_of p) (past_of q) on s.sound;
    }

pub returns-clause-same : goal.returns-clause-same
returns-clause-same g c = (sym c.turn.ensures.own, sym c.turn.ensures.same.number)
