-- What holds of what every file says.
use Rattle.std.specs.Prelude.{◌≡◌, ◌≤◌, List, length, map, IfSome}
use Rattle.std.specs.List.{AllByRecursion, IsDistinct}
use Rattle.std.specs.Str.{bytes_eq}
use Rattle.td_cdr.specs.Text.{HasNoNul}
use Rattle.td_lines.specs.declared.entry.Script.{Script}
use Rattle.td_lines.specs.declared.entry.TraderScript.{TraderScript}

-- no name is longer than a trader's name may be
abbrev pub AreShort : List TraderScript → Type 0
AreShort ts = AllByRecursion (λ (t : TraderScript). length t.name ≤ 32) ts

-- Its host has no NUL and 1,000 bytes at most, its version is 0 or 1, its seed 32 octets, and of its traders no two
-- have one name, and none a long one.
pub record IsValidScript (s : Script) : Type 0 where
  pub host : IfSome s.home (λ home. HasNoNul home.host)
  pub short : IfSome s.home (λ home. length home.host ≤ 1000)
  pub minor : IfSome s.home (λ home. home.minor ≤ 1)
  pub seed : length s.seed ≡ 32
  pub distinct : IsDistinct bytes_eq (map (λ (t : TraderScript). t.name) s.traders)
  pub names : AreShort s.traders
