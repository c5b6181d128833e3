use Rattle.td_fed_laws.proofs.Apart.{remembered-alone}
use Rattle.td_fed_laws.proofs.shared.walks_alone_are_remembered.Goals as goal

pub returns : goal.returns
returns c = remembered-alone
