use Rattle.std.proofs.Common.{◌≡◌, drop}
use Rattle.td_ior.specs.Profiles.{first_iiop}
use Rattle.td_ior.proofs.profile.first_iiop.Given as goal

-- no profile so far is of IIOP
abbrev pub invariant-loop-profile : goal.invariant-loop-profile
invariant-loop-profile l = first_iiop (drop l.profile-index l.profiles) ≡ first_iiop l.profiles
