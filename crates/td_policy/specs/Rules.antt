-- How far a link is followed (enumeration CosTrading::FollowOption; Trading Object Service, "Link Follow
-- Behavior"). A later rule permits more.
use Rattle.std.specs.Prelude.{Option, unwrap_or, Some, None, nat_lt, ◌≤◌, if◌then◌else◌}
use Rattle.td_value.specs.Enumerations.{follow_option_number}
use Rattle.td_value.specs.declared.enumerations.FollowOption.{FollowOption}
use Rattle.td_policy.specs.declared.attributes.Attributes.{Attributes}
use Rattle.td_policy.specs.declared.stated.Stated.{Stated}

-- the one that permits less
abbrev pub lesser : FollowOption → FollowOption → FollowOption
lesser a b = if nat_lt (follow_option_number b) (follow_option_number a) then b else a

abbrev pub IsAtMost : FollowOption → FollowOption → Type 0
IsAtMost a b = follow_option_number a ≤ follow_option_number b

-- the rule by which a link with this limiting rule is followed
abbrev pub follow : Stated → Attributes → (limiting : FollowOption) → FollowOption
follow s a limiting = lesser (lesser a.max_follow_policy limiting)
    (unwrap_or s.follow a.def_follow_policy)

-- the rule that is passed on over a link
abbrev pub passed_on : (stated : Option FollowOption)
    → (maximum limiting def_pass_on : FollowOption) → FollowOption
passed_on (Some rule) maximum limiting def_pass_on = lesser (lesser maximum limiting) rule
passed_on None maximum limiting def_pass_on = lesser maximum def_pass_on

abbrev pub pass_on : Stated → Attributes → (limiting def_pass_on : FollowOption) → FollowOption
pass_on s a limiting def_pass_on = passed_on s.follow a.max_follow_policy limiting def_pass_on
