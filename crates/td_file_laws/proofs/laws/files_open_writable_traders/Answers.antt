use Rattle.td_file_laws.proofs.WritableOpening.{files-open-writable}
use Rattle.td_file_laws.proofs.laws.files_open_writable_traders.Goals as goal

pub returns : goal.returns
returns c = files-open-writable
