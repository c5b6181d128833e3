use Rattle.std.proofs.Common.{map, string_bytes}
use Rattle.td_name_command.proofs.Whole.{answered}
use Rattle.td_name_command.proofs.program.run_names.Goals as goal

pub returns-clause-complete : goal.returns-clause-complete
returns-clause-complete g c =
    answered (map string_bytes c.args.args.now) c.obey-ended.result _ _ c.status.result c.status.ensures
    c.obey-ended.ensures
