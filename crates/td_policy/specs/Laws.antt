-- What holds of policies, whatever they are (Trading Object Service, "Policies" and "Link Follow Behavior").
use Rattle.std.specs.Prelude.{◌≡◌, Option, [], ◌∷◌, false, Some, None, Ok}
use Rattle.std.specs.Str.{bytes_eq}
use Rattle.td_value.specs.declared.enumerations.FollowOption.{FollowOption}
use Rattle.td_value.specs.declared.structures.Policy.{Policy}
use Rattle.td_policy.specs.Rules.{IsAtMost, follow, pass_on}
use Rattle.td_policy.specs.Fields.{Field, FieldValue, kind_of, name_of, nothing, put, value_in}
use Rattle.td_policy.specs.Stated.{stated, stated_value}
use Rattle.td_policy.specs.declared.attributes.Attributes.{Attributes}
use Rattle.td_policy.specs.declared.stated.Stated.{Stated}

-- the rule by which a link with this limiting rule is followed
pub record FollowedIsBounded (s : Stated) (a : Attributes) (limiting : FollowOption) : Type 0 where
  pub by_maximum : IsAtMost (follow s a limiting) a.max_follow_policy
  pub by_limiting : IsAtMost (follow s a limiting) limiting
  pub by_stated : (r : FollowOption) → s.follow ≡ Some r → IsAtMost (follow s a limiting) r

-- the rule that is passed on over a link
pub record PassedOnIsBounded (s : Stated) (a : Attributes)
    (limiting own : FollowOption) : Type 0 where
  pub by_maximum : IsAtMost (pass_on s a limiting own) a.max_follow_policy
  pub by_limiting : (r : FollowOption) → s.follow ≡ Some r
      → IsAtMost (pass_on s a limiting own) limiting
  pub by_stated : (r : FollowOption) → s.follow ≡ Some r → IsAtMost (pass_on s a limiting own) r
  pub by_own : s.follow ≡ None → IsAtMost (pass_on s a limiting own) own

-- this policy alone states this
abbrev pub AloneStates : Policy → Stated → Type 0
AloneStates p s = stated (p ∷ []) ≡ Ok s

-- Each policy states the field of its name, and no other: what can be read of its value.
pub record EachStatesItsField : Type 0 where
  pub alone : (f : Field) (p : Policy) (x : FieldValue f) → p.name ≡ name_of f
      → stated_value (kind_of f) p ≡ Ok (Some x) → AloneStates p (put f (Some x) nothing)
  pub there : (f : Field) (x : Option (FieldValue f)) (s : Stated) → value_in f (put f x s) ≡ x
  pub apart : (f g : Field) → bytes_eq (name_of g) (name_of f) ≡ false → (x : Option (FieldValue g))
      (s : Stated)
      → value_in f (put g x s) ≡ value_in f s
