use Rattle.td_make_file_laws.proofs.Whole.{opens}
use Rattle.td_make_file_laws.proofs.laws.generated_files_open.Goals as goal

pub returns : goal.returns
returns c = λ count least most. opens count least most (c.generated_files_are_read.ensures count least most)
