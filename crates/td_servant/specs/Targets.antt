-- Where a target is that is to be asked: in the group, outside, or nowhere that can be reached (CORBA, chapter on
-- General Inter-ORB Protocol, "IIOP IOR Profiles").
use Rattle.std.specs.Prelude.{ℕ, List, Option, None, Some}
use Rattle.td_typecode.specs.declared.reference.Ior.{Ior}
use Rattle.td_targets.specs.Targets.{inside_group}
use Rattle.td_ior.specs.Profiles.{iiop_of}
use Rattle.td_ior.specs.declared.profile.Iiop.{Iiop}
use Rattle.td_trader.specs.Worlds.{View}
use Rattle.td_walk.specs.declared.trace.Address.{Address}
use Rattle.td_servant.specs.declared.target.Target.{Target}
use Rattle.td_servant.specs.declared.target.Target.TheVariants.{Inside, Outside, Unreachable}

-- a target that can be reached is a trader of the group or one outside
abbrev pub group_target : Option ℕ → Target
group_target (Some k) = Inside k
group_target None = Outside

abbrev pub target_by : Address → List View → Ior → Option Iiop → Target
target_by home w target None = Unreachable
target_by home w target (Some profile) = group_target (inside_group home w target)

-- where a target is: one without an IIOP profile can't be reached
abbrev pub target_of : Address → List View → Ior → Target
target_of home w target = target_by home w target (iiop_of target)
