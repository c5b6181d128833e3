-- The words for truth values, for property modes and for rules of following links.
use Rattle.std.specs.Prelude.{ℕ, Bool, true, false, List, codes, if◌then◌else◌, Option, Some, None}
use Rattle.std.specs.Str.{bytes_eq}
use Rattle.td_value.specs.declared.enumerations.FollowOption.{FollowOption}
use Rattle.td_value.specs.declared.enumerations.FollowOption.TheVariants.{LocalOnly, IfNoLocal, Always}
use Rattle.td_value.specs.declared.enumerations.PropertyMode.{PropertyMode}
use Rattle.td_value.specs.declared.enumerations.PropertyMode.TheVariants.{Normal, Readonly, Mandatory}
use Rattle.td_value.specs.declared.enumerations.PropertyMode.TheVariants.{MandatoryReadonly}

abbrev pub truth_named : List ℕ → Option Bool
truth_named word =
    if bytes_eq word (codes "TRUE") then Some true
    else (if bytes_eq word (codes "FALSE") then Some false
    else None)

abbrev pub mode_named : List ℕ → Option PropertyMode
mode_named word =
    if bytes_eq word (codes "normal") then Some Normal
    else (if bytes_eq word (codes "readonly") then Some Readonly
    else (if bytes_eq word (codes "mandatory") then Some Mandatory
    else (if bytes_eq word (codes "mandatory_readonly") then Some MandatoryReadonly
    else None)))

abbrev pub rule_named : List ℕ → Option FollowOption
rule_named word =
    if bytes_eq word (codes "local_only") then Some LocalOnly
    else (if bytes_eq word (codes "if_no_local") then Some IfNoLocal
    else (if bytes_eq word (codes "always") then Some Always
    else None))
