-- Trading Object Service, "Proxy", on recipes.
-- The constraint that a proxy offer passes on, as the concatenation of what the recipe's parts give.
use Rattle.std.specs.Prelude.{ℕ, suc, ℤ, pos, negsuc, nat_le, Bool, true, false, if◌then◌else◌, List, [], ◌∷◌, ◌++◌}
use Rattle.std.specs.Prelude.{length, codes, Option, None, Some, option_and_then}
use Rattle.std.specs.Fmt.{decimal}
use Rattle.std.specs.Ordering.{int_eq}
use Rattle.td_cdr.specs.Text.{has_nul}
use Rattle.td_lang.specs.Spelling.{inside_quotes}
use Rattle.td_lang.specs.declared.expr.Part.{Part}
use Rattle.td_lang.specs.declared.expr.Part.TheVariants as part
use Rattle.td_value.specs.declared.structures.Property.{Property}
use Rattle.td_eval.specs.declared.simple.Simple.{Simple}
use Rattle.td_eval.specs.declared.simple.Simple.TheVariants.{Number, Text, Truth}
use Rattle.td_eval.specs.Properties.{content_named}
use Rattle.td_eval.specs.Values.{operand}

-- ---- literals

abbrev pub number_literal : ℤ → List ℕ
number_literal (pos n) = decimal n
number_literal (negsuc n) = 45 ∷ decimal (suc n)

-- in quotes, with a `\` before each quote and each `\`
abbrev pub text_literal : List ℕ → List ℕ
text_literal t = 39 ∷ (inside_quotes t ++ 39 ∷ [])

abbrev pub truth_literal : Bool → List ℕ
truth_literal true = codes "TRUE"
truth_literal false = codes "FALSE"

-- a fraction that isn't whole and a text with a NUL have none
abbrev pub literal : Simple → Option (List ℕ)
literal (Number n d) = if int_eq d (pos 1) then Some (number_literal n) else None
literal (Text t) = if has_nul t then None else Some (text_literal t)
literal (Truth b) = Some (truth_literal b)

-- ---- parts

-- the importer's constraint; an empty one asks for nothing
abbrev pub importer_text : List ℕ → List ℕ
importer_text [] = codes "TRUE"
importer_text (b ∷ bytes) = b ∷ bytes

abbrev pub in_front : Option (List ℕ) → Option (List ℕ) → Option (List ℕ)
in_front None rest = None
in_front (Some t) None = None
in_front (Some t) (Some rest) = Some (t ++ rest)

-- at most 65,536 bytes
abbrev pub if_short : Option (List ℕ) → Option (List ℕ)
if_short None = None
if_short (Some t) = if nat_le (length t) 65536 then Some t else None

module _ (constraint : List ℕ) (map : List Property) where
  -- what a part gives; a property that is absent, dynamic or a list gives nothing
  unfoldable pub part_text : Part → Option (List ℕ)
  part_text (part.Byte b) = Some (b ∷ [])
  part_text part.Constraint = Some (importer_text constraint)
  part_text (part.Property name) = option_and_then literal (operand (content_named map name))

  -- what all parts give, where each gives something
  abbrev pub concatenation : List Part → Option (List ℕ)
  concatenation [] = Some []
  concatenation (p ∷ parts) = in_front (part_text p) (concatenation parts)

  abbrev pub expansion : List Part → Option (List ℕ)
  expansion parts = if_short (concatenation parts)
