use Rattle.std.proofs.Common.{List, [], ◌∷◌, ◌++◌, ap, ◌∙◌}
use Rattle.td_walk.specs.Peering.{Exchange}
use Rattle.td_client.specs.Noted.{exchange_of}
use Rattle.td_client.proofs.Marking.{one_admitted, one_more}
use Rattle.td_client.proofs.calls.Calls.note.Goals as goal

pub invariant_of-self : goal.invariant_of-self
invariant_of-self c =
    one_admitted c.self.inside.notes c.note.new.self c.args.note.now c.note.ensures c.self.invariant c.requires

pub returns : goal.returns
returns c =
    one_more c.self.inside.notes c.note.new.self c.args.note.now c.note.ensures
    ∙ ap (λ (calls : List Exchange). calls ++ exchange_of c.args.note.now ∷ []) c.self.view_is
