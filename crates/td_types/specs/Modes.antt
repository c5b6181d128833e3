-- What a service type demands of a property (enumeration CosTradingRepos::ServiceTypeRepository::PropertyMode).
-- A property may be mandatory, readonly, both or neither.
use Rattle.std.specs.Prelude.{Bool, true, false, ◌&&◌, ◌||◌, not}
use Rattle.td_value.specs.declared.enumerations.PropertyMode.{PropertyMode}
use Rattle.td_value.specs.declared.enumerations.PropertyMode.TheVariants.{Normal, Readonly, Mandatory}
use Rattle.td_value.specs.declared.enumerations.PropertyMode.TheVariants.{MandatoryReadonly}

abbrev pub is_mandatory : PropertyMode → Bool
is_mandatory Normal = false
is_mandatory Readonly = false
is_mandatory Mandatory = true
is_mandatory MandatoryReadonly = true

abbrev pub is_readonly : PropertyMode → Bool
is_readonly Normal = false
is_readonly Readonly = true
is_readonly Mandatory = false
is_readonly MandatoryReadonly = true

abbrev pub mode_of : (mandatory readonly : Bool) → PropertyMode
mode_of false false = Normal
mode_of false true = Readonly
mode_of true false = Mandatory
mode_of true true = MandatoryReadonly

-- a mode is at least another where it demands what that one demands
abbrev pub is_at_least : PropertyMode → PropertyMode → Bool
is_at_least a b = (is_mandatory a || not (is_mandatory b)) && (is_readonly a || not (is_readonly b))

-- the least mode that is at least both
abbrev pub join : PropertyMode → PropertyMode → PropertyMode
join a b = mode_of (is_mandatory a || is_mandatory b) (is_readonly a || is_readonly b)
