-- Texts by their names.
use Rattle.std.specs.Prelude.{◌≡◌, ℕ, ◌≤◌, ◌<◌, List, length, Option, Some, IfSome, IsSomeAnd, Result, Ok, Err, ⊤}
use Rattle.std.specs.List.{find}
use Rattle.std.specs.Str.{bytes_eq}
use Rattle.std.specs.Option.{option_map}
use Rattle.td_out.specs.declared.fault.TextFault.{TextFault}
use Rattle.td_out.specs.declared.fault.TextFault.TheVariants.{Failed, TooLong, Memory}
use Rattle.td_out.specs.Causes.{Rose}

pub record NamedText : Type 0 where
  pub name : List ℕ
  pub bytes : List ℕ

-- how long a text may be: 64 MiB
abbrev pub longest_text : ℕ
longest_text = 67108864

-- the text of a name; of two texts of one name the first counts. Names are compared as bytes
abbrev pub text_named : List ℕ → List NamedText → Option (List ℕ)
text_named name texts = option_map (λ t. t.bytes) (find (λ t. bytes_eq t.name name) texts)

-- What `text` may answer, by what the object tells of its texts and by its count of faults before and after:
-- the text of that name, and only one that isn't too long; that it is too long; a fault that raised the count;
-- or running out of memory.
abbrev pub HasText : Option (List NamedText) → List ℕ → (before now : ℕ) → Result (List ℕ) TextFault
    → Type 0
HasText content name before now (Ok text) =
    (length text ≤ longest_text) × IfSome content (λ texts. text_named name texts ≡ Some text)
HasText content name before now (Err Failed) = Rose before now
HasText content name before now (Err TooLong) =
    IfSome content (λ texts. IsSomeAnd (text_named name texts) (λ text. longest_text < length text))
HasText content name before now (Err Memory) = ⊤
