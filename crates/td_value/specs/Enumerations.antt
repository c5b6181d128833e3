-- The enumerations of the trading service (OMG's Trading Object Service, modules CosTrading and
-- CosTradingRepos): each value is spelled by its number, which is its place in the list of all.
use Rattle.std.specs.Prelude.{ℕ, [], ◌∷◌, refl}
use Rattle.td_cdr.specs.Sound.{Sound, enumeration}
use Rattle.td_cdr.specs.declared.value_fault.ValueFault.{ValueFault}
use Rattle.td_value.specs.declared.enumerations.FollowOption.{FollowOption}
use Rattle.td_value.specs.declared.enumerations.FollowOption.TheVariants as follow_option_value
use Rattle.td_value.specs.declared.enumerations.HowManyProps.{HowManyProps}
use Rattle.td_value.specs.declared.enumerations.HowManyProps.TheVariants as how_many_props_value
use Rattle.td_value.specs.declared.enumerations.PropertyMode.{PropertyMode}
use Rattle.td_value.specs.declared.enumerations.PropertyMode.TheVariants as property_mode_value
use Rattle.td_value.specs.declared.enumerations.ListOption.{ListOption}
use Rattle.td_value.specs.declared.enumerations.ListOption.TheVariants as list_option_value

abbrev pub follow_option_number : FollowOption → ℕ
follow_option_number follow_option_value.LocalOnly = 0
follow_option_number follow_option_value.IfNoLocal = 1
follow_option_number follow_option_value.Always = 2

abbrev pub follow_option : Sound ValueFault FollowOption
follow_option =
    enumeration (follow_option_value.LocalOnly ∷ follow_option_value.IfNoLocal
    ∷ follow_option_value.Always ∷ []) follow_option_number (elim [
      | follow_option_value.LocalOnly ↦ refl
      | follow_option_value.IfNoLocal ↦ refl
      | follow_option_value.Always ↦ refl
    ])
    refl

abbrev pub how_many_props_number : HowManyProps → ℕ
how_many_props_number how_many_props_value.None = 0
how_many_props_number how_many_props_value.Some = 1
how_many_props_number how_many_props_value.All = 2

abbrev pub how_many_props : Sound ValueFault HowManyProps
how_many_props =
    enumeration (how_many_props_value.None ∷ how_many_props_value.Some ∷ how_many_props_value.All
    ∷ []) how_many_props_number
    (elim [
      | how_many_props_value.None ↦ refl
      | how_many_props_value.Some ↦ refl
      | how_many_props_value.All ↦ refl
    ]) refl

abbrev pub property_mode_number : PropertyMode → ℕ
property_mode_number property_mode_value.Normal = 0
property_mode_number property_mode_value.Readonly = 1
property_mode_number property_mode_value.Mandatory = 2
property_mode_number property_mode_value.MandatoryReadonly = 3

abbrev pub property_mode : Sound ValueFault PropertyMode
property_mode =
    enumeration (property_mode_value.Normal ∷ property_mode_value.Readonly
    ∷ property_mode_value.Mandatory ∷ property_mode_value.MandatoryReadonly ∷ [])
    property_mode_number (elim [
      | property_mode_value.Normal ↦ refl
      | property_mode_value.Readonly ↦ refl
      | property_mode_value.Mandatory ↦ refl
      | property_mode_value.MandatoryReadonly ↦ refl
    ])
    refl

abbrev pub list_option_number : ListOption → ℕ
list_option_number list_option_value.All = 0
list_option_number list_option_value.Since = 1

abbrev pub list_option : Sound ValueFault ListOption
list_option =
    enumeration (list_option_value.All ∷ list_option_value.Since ∷ []) list_option_number
    (elim [ list_option_value.All ↦ refl | list_option_value.Since ↦ refl ]) refl
