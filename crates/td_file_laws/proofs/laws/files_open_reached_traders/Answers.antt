use Rattle.td_file_laws.proofs.Opening.{files-open}
use Rattle.td_file_laws.proofs.laws.files_open_reached_traders.Goals as goal

pub returns : goal.returns
returns c = files-open
