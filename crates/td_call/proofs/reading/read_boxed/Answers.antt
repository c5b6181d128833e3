use Rattle.std.proofs.Common.{subst, sym}
use Rattle.td_typecode.specs.Values.{any_value}
use Rattle.td_call.proofs.reading.read_boxed.Goals as goal

pub returns-clause-admitted : goal.returns-clause-admitted
returns-clause-admitted c =
    subst any_value.format.admits (sym c.in_ok-new.ensures) c.in_ok-value.ensures.admitted
