-- What a line's words are taken for, or why they are refused.
use Rattle.std.specs.Prelude.{◌≡◌, Bool, if◌then◌else◌, Option, Some, None, Result, Ok, Err}
use Rattle.td_lines.specs.declared.cause.LineCause.{LineCause}
use Rattle.td_lines.specs.declared.cause.Misfit.{Misfit}
use Rattle.td_lines.specs.declared.cause.Misfit.TheVariants.{Is, Memory}

-- what was found, and else this cause
abbrev pub or_cause : {A : Type 0} → LineCause → Option A → Result A LineCause
or_cause cause (Some x) = Ok x
or_cause cause None = Err cause

-- refused for this cause where the test holds
abbrev pub refused_if : {A : Type 0} → Bool → LineCause → Result A LineCause → Result A LineCause
refused_if test cause content = if test then Err cause else content

-- what a reader of words answers
abbrev pub ParsesLine : {A : Type 0} → Result A LineCause → Result A Misfit → Type 0
ParsesLine content (Ok x) = content ≡ Ok x
ParsesLine content (Err (Is cause)) = content ≡ Err cause
ParsesLine content (Err Memory) = Unit {0}
