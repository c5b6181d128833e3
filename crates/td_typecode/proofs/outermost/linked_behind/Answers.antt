use Rattle.std.proofs.Common.{None}
use Rattle.td_typecode.specs.declared.mode.Mode.TheVariants.{Outer}
use Rattle.td_typecode.specs.GraphCodes.{edges}
use Rattle.td_indirection.specs.States.{empty}
use Rattle.td_typecode.proofs.OutermostParts.{other-fault}
use Rattle.td_typecode.proofs.outermost.linked_behind.Goals as goal

pub returns-in-Indirection : goal.returns-in-Indirection
returns-in-Indirection c = rw c.in-Indirection.is c.linked_at.ensures

pub returns-in_default : goal.returns-in_default
returns-in_default c =
    other-fault c.args.fault ((edges c.args.levels Outer None).format.reads empty c.args.r.now) c.args.r.now
    c.in_default.not-Indirection
