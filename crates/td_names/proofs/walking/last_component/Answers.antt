use Rattle.td_names.proofs.Lasts.{last_of-push}
use Rattle.td_names.proofs.walking.last_component.Goals as goal

pub returns : goal.returns
returns c = last_of-push c.args.name c.pop.new.self c.in-Some.last c.in-Some.ensures
