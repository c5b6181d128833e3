use Rattle.td_audit.proofs.Worked.{audits, making, openings}
use Rattle.td_audit.proofs.laws.worked_audits.Goals as goal

pub returns-clause-audits : goal.returns-clause-audits
returns-clause-audits c = λ t home. audits t home

pub returns-clause-openings : goal.returns-clause-openings
returns-clause-openings c = openings

pub returns-clause-making : goal.returns-clause-making
returns-clause-making c = λ q l. making q l
