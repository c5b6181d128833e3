use Rattle.td_cli_program.specs.Runs.{by_form}
use Rattle.td_cli_program.proofs.running.refuse_form.Goals as goal

pub returns : goal.returns
returns g c = by_form _ _ c.write_all.ensures.tells
