use Rattle.td_ior.proofs.Profiles.{profile-agrees, first-agrees, none-found, none-only, made-found}
use Rattle.td_ior.proofs.laws.profiles_are_read.Goals as goal

pub returns-clause-one : goal.returns-clause-one
returns-clause-one c = profile-agrees

pub returns-clause-first : goal.returns-clause-first
returns-clause-first c = first-agrees

pub returns-clause-none : goal.returns-clause-none
returns-clause-none c = none-found

pub returns-clause-only_none : goal.returns-clause-only_none
returns-clause-only_none c = none-only

pub returns-clause-back : goal.returns-clause-back
returns-clause-back c = made-found
