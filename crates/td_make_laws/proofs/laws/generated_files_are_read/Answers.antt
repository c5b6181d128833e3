use Rattle.td_make_laws.proofs.Heads.{all-heads}
use Rattle.td_make_laws.proofs.Linking.{all-chords, all-nexts}
use Rattle.td_make_laws.proofs.Whole.{says-ring}
use Rattle.td_make_laws.proofs.laws.generated_files_are_read.Goals as goal

pub returns : goal.returns
returns c = λ count least most. says-ring all-heads all-nexts all-chords count least most
