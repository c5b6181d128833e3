use Rattle.std.proofs.Common.{refl}
use Rattle.td_lines.proofs.OnLiterals.{address_on_literals, links_on_literals, types_on_literals, version_on_literals}
use Rattle.td_lines.proofs.laws.worked_files.Goals as goal

pub returns-clause-words : goal.returns-clause-words
unfolding types_on_literals
returns-clause-words c = refl

pub returns-clause-first_line : goal.returns-clause-first_line
unfolding types_on_literals
returns-clause-first_line c = refl

pub returns-clause-address : goal.returns-clause-address
unfolding address_on_literals
returns-clause-address c = refl

pub returns-clause-version : goal.returns-clause-version
unfolding version_on_literals
returns-clause-version c = refl

pub returns-clause-late : goal.returns-clause-late
unfolding version_on_literals
returns-clause-late c = refl

pub returns-clause-whole : goal.returns-clause-whole
unfolding links_on_literals
returns-clause-whole c = refl

pub returns-clause-entries : goal.returns-clause-entries
unfolding links_on_literals
returns-clause-entries c = refl
