use Rattle.td_file.proofs.Whole.{listens}
use Rattle.td_file.proofs.reading.home_address.Goals as goal

pub returns-clause-reached : goal.returns-clause-reached
returns-clause-reached c = listens c.args.home c.requires.short c.requires.no_nul c.requires.minor
