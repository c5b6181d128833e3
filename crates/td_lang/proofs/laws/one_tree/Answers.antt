use Rattle.td_lang.proofs.Completeness.{one_tree}
use Rattle.td_lang.proofs.laws.one_tree.Goals as goal

pub returns : goal.returns
returns c = λ ts e f s t. one_tree ts e f s t
