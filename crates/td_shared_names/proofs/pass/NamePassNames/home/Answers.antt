use Rattle.std.proofs.Common.{sym, subst}
use Rattle.td_names.specs.References.{IsAddress}
use Rattle.td_shared_names.proofs.pass.NamePassNames.home.Goals as goal

pub returns-clause-home : goal.returns-clause-home
returns-clause-home g c = sym c.args.self.now.here

pub returns-clause-address : goal.returns-clause-address
returns-clause-address g c = subst IsAddress c.args.self.now.here c.args.self.now.sound.0
