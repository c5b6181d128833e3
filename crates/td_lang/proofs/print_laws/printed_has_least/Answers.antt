use Rattle.std.proofs.Common.{arith}
use Rattle.td_lang.proofs.PrintedPhrases.{again, least}
use Rattle.td_lang.proofs.Parentheses.{tight, only}
use Rattle.td_lang.proofs.print_laws.printed_has_least.Goals as goal

pub returns : goal.returns
returns c = record {
  fits = λ e. (again e 1 (omega arith)).fits;
  same = λ e. (again e 1 (omega arith)).tree_is;
  tight = λ e. tight e 1;
  only = λ x f t. only x 1 (omega arith) f t;
  least = λ x most f s. least x 1 most (omega arith) f s;
}
