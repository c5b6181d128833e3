-- The limit of changes is the last cause that refuses one.
use Rattle.std.proofs.Common.{◌≡◌, ℕ, true, false, Some, None, refl}
use Rattle.td_ops.specs.declared.call.Change.{Change}
use Rattle.td_ops.specs.declared.outcome.Reply.{Reply}
use Rattle.td_register.specs.Causes.{Cause, unless, unless_full}
use Rattle.td_register.specs.Stores.{Store}
use Rattle.td_changes.specs.Applying.{acceptance, cause_of, comes_to, count_change, is_at_limit, with_change}
use Rattle.td_changes.specs.Laws.{refused_at_limit}
use Rattle.td_changes.specs.declared.bounds.Bounds.{Bounds}

last : (cause : Cause) (content : Reply) (after : Store)
    → unless_full true cause content after ≡ refused_at_limit (unless cause content after)
last None content after = refl
last (Some f) content after = refl

none : (cause : Cause) (content : Reply) (after : Store) → unless_full false cause content after ≡ unless cause content after
none None content after = refl
none (Some f) content after = refl

pub at-limit : (b : Bounds) (n : ℕ) (s : Store) (c : Change) → is_at_limit b n ≡ true
    → count_change b n s c ≡ refused_at_limit (comes_to s c)
unfolding count_change comes_to
at-limit b n s c h = rw h (last (cause_of s c) (acceptance s c) (with_change s c))

pub below : (b : Bounds) (n : ℕ) (s : Store) (c : Change) → is_at_limit b n ≡ false → count_change b n s c ≡ comes_to s c
unfolding count_change comes_to
below b n s c h = rw h (none (cause_of s c) (acceptance s c) (with_change s c))
