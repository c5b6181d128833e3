-- The joints of a list after a write.
use Rattle.std.proofs.Common.{◌≡◌, ℕ, ◌<◌, ◌≤◌, List, length, set}
use Rattle.std.proofs.lemmas.List.{get_or-set_same, get_or-set_other, get_or_past}
use mathlib.Core.Logic.{◌≢◌}
use Rattle.td_store.specs.declared.joint.Joint.{Joint}
use Rattle.td_store.specs.Rings.{loop, joint_at}

pub at-same : (js : List Joint) (i : ℕ) (v : Joint) → i < length js → joint_at (set js i v) i ≡ v
at-same js i v l = get_or-set_same js i v (loop i) l

pub at-other : (js : List Joint) (i q : ℕ) (v : Joint) → q ≢ i → joint_at (set js i v) q ≡ joint_at js q
at-other js i q v n = get_or-set_other js i q v (loop q) n

-- past the end each joint is alone
pub at-past : (js : List Joint) (q : ℕ) → length js ≤ q → joint_at js q ≡ loop q
at-past js q l = get_or_past js q (loop q) l
