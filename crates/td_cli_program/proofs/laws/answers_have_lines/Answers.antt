use Rattle.td_cli_program.proofs.Lined.{lined}
use Rattle.td_cli_program.proofs.laws.answers_have_lines.Goals as goal

pub returns : goal.returns
returns c = lined
