-- Attributes that are set: those that have a call for it, but the stem and the type repository.
use Rattle.std.specs.Prelude.{ℕ, List, ◌++◌, map, Option, Result}
use Rattle.std.specs.Option.{option_map}
use Rattle.td_cdr.specs.Format.{value_named}
use Rattle.td_cdr.specs.Reading.{◌>>=◌}
use Rattle.td_forms.specs.Words.{rule_named, truth_named}
use Rattle.td_ior.specs.Number.{number_below}
use Rattle.td_ops.specs.Attributes.{follow_name, number_name, truth_name, follows_set, numbers_set, truths_set}
use Rattle.td_ops.specs.declared.attribute.FollowAttribute.{FollowAttribute}
use Rattle.td_ops.specs.declared.attribute.NumberAttribute.{NumberAttribute}
use Rattle.td_ops.specs.declared.attribute.TruthAttribute.{TruthAttribute}
use Rattle.td_ops.specs.declared.call.Change.{Change}
use Rattle.td_ops.specs.declared.call.Change.TheVariants.{SetTruth, SetNumber, SetFollow}
use Rattle.td_lines.specs.Causes.{or_cause}
use Rattle.td_lines.specs.declared.cause.LineCause.{LineCause}
use Rattle.td_lines.specs.declared.cause.LineCause.TheVariants as cause
use Rattle.td_lines.specs.declared.setting.Setting.{Setting}
use Rattle.td_lines.specs.declared.setting.Setting.TheVariants.{Truth, Number, Follow}

abbrev pub setting_name : Setting → List ℕ
setting_name (Truth a) = truth_name a
setting_name (Number a) = number_name a
setting_name (Follow a) = follow_name a

abbrev pub settings : List Setting
settings = (map Truth truths_set ++ map Number numbers_set) ++ map Follow follows_set

abbrev pub truth_change : TruthAttribute → List ℕ → Option Change
truth_change a value = option_map (SetTruth a) (truth_named value)

abbrev pub number_change : NumberAttribute → List ℕ → Option Change
number_change a value = option_map (SetNumber a) (number_below 4294967296 value)

abbrev pub follow_change : FollowAttribute → List ℕ → Option Change
follow_change a value = option_map (SetFollow a) (rule_named value)

-- the change that sets an attribute to the value that a word spells
abbrev pub change_to : Setting → List ℕ → Option Change
change_to (Truth a) value = truth_change a value
change_to (Number a) value = number_change a value
change_to (Follow a) value = follow_change a value

-- ATTRIBUTE VALUE
abbrev pub parse_setting : (attribute value : List ℕ) → Result Change LineCause
parse_setting attribute value = do
  known ← or_cause cause.Name (value_named setting_name settings attribute)
  or_cause cause.Value (change_to known value)
