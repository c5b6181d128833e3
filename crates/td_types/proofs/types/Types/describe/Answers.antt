use Rattle.std.proofs.lemmas.Result.{err_from_is_err_and}
use Rattle.td_types.proofs.Found.{described, describe_refused}
use Rattle.td_types.proofs.types.Types.describe.Goals as goal

pub returns-in_err-entry : goal.returns-in_err-entry
returns-in_err-entry c =
    let p = err_from_is_err_and c.from_residual.result c.from_residual.ensures.1 in
    rw (← c.self.view_is, p.1, p.2)
    (record {
      answer = describe_refused c.self.inside.entries c.self.inside.interfaces c.self.inside.last
          c.args.name.now c.in_err-entry.field-0.0 c.in_err-entry.ensures;
    })

pub returns : goal.returns
returns c =
    rw (← c.self.view_is) (record
    { answer = described _ _ _ c.args.name.now _ _ c.in_ok-entry.ensures c.in_ok-description.ensures })
