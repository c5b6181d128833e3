use Rattle.td_audit_laws.proofs.Oneness.{verdicts-one}
use Rattle.td_audit_laws.proofs.laws.verdicts_are_one.Goals as goal

pub returns : goal.returns
returns c = verdicts-one c.events_lead_to_one_world.ensures
