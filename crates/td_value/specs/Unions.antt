-- The unions of the trading service (OMG's Trading Object Service, modules CosTrading and
-- CosTradingRepos): a discriminator, and the member that it chooses.
use Rattle.std.specs.Prelude.{Some, None, refl}
use Rattle.td_cdr.specs.Sound.{Sound, FormatArm, arm, bare_arm, union, text, sequence}
use Rattle.td_cdr.specs.declared.value_fault.ValueFault.{ValueFault}
use Rattle.td_value.specs.Enumerations.{how_many_props, list_option}
use Rattle.td_value.specs.Structures.{incarnation_number}
use Rattle.td_value.specs.declared.enumerations.HowManyProps.{HowManyProps}
use Rattle.td_value.specs.declared.enumerations.HowManyProps.TheVariants as how_many
use Rattle.td_value.specs.declared.enumerations.ListOption.{ListOption}
use Rattle.td_value.specs.declared.enumerations.ListOption.TheVariants as listed
use Rattle.td_value.specs.declared.unions.SpecifiedProps.{SpecifiedProps}
use Rattle.td_value.specs.declared.unions.SpecifiedProps.TheVariants as props
use Rattle.td_value.specs.declared.unions.SpecifiedServiceTypes.{SpecifiedServiceTypes}
use Rattle.td_value.specs.declared.unions.SpecifiedServiceTypes.TheVariants as types

abbrev pub props_tag : SpecifiedProps → HowManyProps
props_tag props.None = how_many.None
props_tag (props.Some names) = how_many.Some
props_tag props.All = how_many.All

abbrev pub props_under : HowManyProps → FormatArm ValueFault HowManyProps SpecifiedProps props_tag
props_under how_many.None = bare_arm props.None
props_under how_many.Some =
    arm how_many.Some (λ names. props.Some names)
    (elim [ props.Some names ↦ Some names | _ ↦ None ]) (λ _. refl) (λ _. refl) (sequence text)
props_under how_many.All = bare_arm props.All

abbrev pub specified_props : Sound ValueFault SpecifiedProps
specified_props =
    union how_many_props props_tag props_under
    (elim [ how_many.None ↦ refl | how_many.Some ↦ refl | how_many.All ↦ refl ])

abbrev pub types_tag : SpecifiedServiceTypes → ListOption
types_tag types.All = listed.All
types_tag (types.Since i) = listed.Since

abbrev pub types_under : ListOption → FormatArm ValueFault ListOption SpecifiedServiceTypes
    types_tag
types_under listed.All = bare_arm types.All
types_under listed.Since =
    arm listed.Since (λ i. types.Since i) (elim [ types.Since i ↦ Some i | _ ↦ None ]) (λ _. refl)
    (λ _. refl) incarnation_number

abbrev pub specified_types : Sound ValueFault SpecifiedServiceTypes
specified_types = union list_option types_tag types_under
    (elim [ listed.All ↦ refl | listed.Since ↦ refl ])
