use Rattle.std.proofs.Common.{sym}
use Rattle.td_ior.specs.Profiles.{lent}
use Rattle.td_ior.proofs.Profiles.{found-here, missed-here, missed-all}
use Rattle.td_ior.proofs.profile.first_iiop.Goals as goal

pub returns-then-is_some : goal.returns-then-is_some
returns-then-is_some c =
    found-here lent c.iiop_in-found.result c.args.profiles.now c.loop-profile.profile-index c.profile-item.result
    c.loop-profile-test.true c.profile-item.is c.iiop_in-found.ensures (sym c.if-is_some.ensures)
    c.loop-profile.invariant

pub loop-profile-preserved : goal.loop-profile-preserved
loop-profile-preserved c =
    missed-here lent c.iiop_in-found.result c.args.profiles.now c.loop-profile.profile-index c.profile-item.result
    c.loop-profile-test.true c.profile-item.is c.iiop_in-found.ensures (sym c.if-is_some.ensures)
    c.loop-profile.invariant

pub returns : goal.returns
returns c =
    missed-all c.args.profiles.now c.loop-profile.profile-index c.loop-profile-test.false c.loop-profile.invariant
