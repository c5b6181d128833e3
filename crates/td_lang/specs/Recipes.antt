-- Trading Object Service, "Proxy": the recipe by which a proxy offer makes the constraint that it
-- passes on. `$*` is the importer's constraint, `$(name)` the property of that name, `\c` the byte c, and
-- any other byte itself.
use Rattle.std.specs.Prelude.{◌≡◌, ◌≢◌, ℕ, zero, suc, ◌+◌, ◌<◌, ◌≤◌, nat_eq, nat_le, List, [], ◌∷◌, ◌++◌, ◌⊎◌, length}
use Rattle.std.specs.Prelude.{take, drop, if◌then◌else◌, codes, Option, None, Some, Result, Ok, Err, option_and_then}
use Rattle.std.specs.Prelude.{option_map}
use Rattle.std.specs.List.{position}
use Rattle.td_cdr.specs.Names.{identifier, IsIdentifier}
use Rattle.td_lang.specs.declared.expr.Part.{Part}
use Rattle.td_lang.specs.declared.expr.Part.TheVariants as part
use Rattle.td_lang.specs.declared.expr.Recipe.{Recipe}
use Rattle.td_lang.specs.declared.fault.LangFault.{LangFault}
use Rattle.td_lang.specs.declared.fault.LangFault.TheVariants as fault

-- the bytes are a spelling of the part; 36 is `$` and 92 is `\`
abbrev pub SpellsPart : Part → List ℕ → Type 0
SpellsPart (part.Byte b) bytes = ((b ≢ 36) × (b ≢ 92) × (bytes ≡ b ∷ [])) ⊎ (bytes ≡ 92 ∷ b ∷ [])
SpellsPart part.Constraint bytes = bytes ≡ codes "$*"
SpellsPart (part.Property name) bytes = IsIdentifier name
    × (bytes ≡ codes "$(" ++ (name ++ codes ")"))

-- the bytes begin with a spelling of the part, and then there is the rest
pub record BeginsWithPart (bytes : List ℕ) (p : Part) (rest : List ℕ) : Type 0 where
  pub piece : List ℕ
  pub spells : SpellsPart p piece
  pub whole : bytes ≡ piece ++ rest

-- the text is spellings of the parts, in order
abbrev pub SpellsParts : List Part → List ℕ → Type 0
SpellsParts [] text = text ≡ []
SpellsParts (p ∷ parts) text = (rest : List ℕ) × BeginsWithPart text p rest × SpellsParts parts rest

-- the bytes begin with no part
abbrev pub BeginsNone : List ℕ → Type 0
BeginsNone bytes = (p : Part) (rest : List ℕ) → BeginsWithPart bytes p rest → ⊥

-- up to this place the text is spellings of parts, and no part begins there
pub record IsRefusedAt (text : List ℕ) (place : ℕ) : Type 0 where
  pub front : List ℕ
  pub parts : List Part
  pub rest : List ℕ
  pub before : SpellsParts parts front
  pub whole : text ≡ front ++ rest
  pub there : place ≡ length front
  pub goes_on : rest ≢ []
  pub none : BeginsNone rest

-- What a reader of recipes answers: the parts that the text spells, or the fault.
abbrev pub ReadsRecipe : List ℕ → Result Recipe LangFault → Type 0
ReadsRecipe text (Ok recipe) = (length text ≤ 4096) × SpellsParts recipe.parts text
ReadsRecipe text (Err fault.TooLong) = 4096 < length text
ReadsRecipe text (Err (fault.Syntax place)) = (length text ≤ 4096) × IsRefusedAt text place
ReadsRecipe text (Err fault.Memory) = Unit {0}
ReadsRecipe text (Err e) = ⊥

-- ---- the part that stands in front, and how many bytes it takes

abbrev pub escape_part : List ℕ → Option (Part × ℕ)
escape_part [] = None
escape_part (b ∷ more) = Some (part.Byte b, 2)

abbrev pub named_part : List ℕ → ℕ → Option (Part × ℕ)
named_part more size = if identifier (take size more) then Some
    (part.Property (take size more), size + 3) else None

-- the name of a property stands before the first `)`
unfoldable pub property_part : List ℕ → Option (Part × ℕ)
property_part more = option_and_then (named_part more) (position (λ b. nat_eq b 41) more)

abbrev pub dollar_part : List ℕ → Option (Part × ℕ)
dollar_part [] = None
dollar_part (b ∷ more) =
    if nat_eq b 42 then Some (part.Constraint, 2) else if nat_eq b 40 then property_part more
    else None

abbrev pub part_in_front : List ℕ → Option (Part × ℕ)
part_in_front [] = None
part_in_front (b ∷ more) =
    if nat_eq b 92 then escape_part more else if nat_eq b 36 then dollar_part more else Some
    (part.Byte b, 1)

-- ---- the parts of a text

abbrev pub part_before : (List ℕ → Option (List Part)) → List ℕ → Option (Part × ℕ)
    → Option (List Part)
part_before rest text None = None
part_before rest text (Some found) = option_map (λ parts. found.0 ∷ parts)
    (rest (drop found.1 text))

-- the parts that stand one behind the other up to the end; there are no more of them than bytes
abbrev pub parts_of : (most : ℕ) → List ℕ → Option (List Part)
parts_of most [] = Some []
parts_of zero (b ∷ text) = None
parts_of (suc most) (b ∷ text) = part_before (parts_of most) (b ∷ text) (part_in_front (b ∷ text))

-- the parts of a recipe, if the text is one: the parts that it spells, where it has at most 4,096 bytes
unfoldable pub recipe_of : List ℕ → Option (List Part)
recipe_of text = if nat_le (length text) 4096 then parts_of (length text) text else None
