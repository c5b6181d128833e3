use Rattle.std.proofs.Common.{refl}
use Rattle.std.specs.Prelude.{codes}
use Rattle.td_session_tests.proofs.MadeReferences.{made_admitted}
use Rattle.td_session_tests.proofs.answering.reference.Goals as goal

pub returns : goal.returns
returns c =
    made_admitted c.make_ior.result (codes "IDL:R:1.0") (codes "x") 9 c.args.key.now 0 refl c.make_ior.ensures.made
