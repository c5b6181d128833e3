use Rattle.td_lang.proofs.PrintedConstraints.{constraint_back, preference_back, constraint_can, preference_can}
use Rattle.td_lang.proofs.print_laws.printed_is_read.Goals as goal

pub returns : goal.returns
returns c = record {
  constraint = λ x can short. constraint_back x can short;
  preference = λ p can short. preference_back p can short;
  read_constraint = λ text x h. constraint_can text x h;
  read_preference = λ text p h. preference_can text p h;
}
