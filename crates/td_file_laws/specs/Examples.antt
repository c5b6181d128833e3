-- Worked examples: which changes the lines of a file tell.
use Rattle.std.specs.Prelude.{◌^◌, true, [], ◌∷◌, codes, List, ℕ}
use Rattle.td_typecode.specs.declared.reference.Ior.{Ior}
use Rattle.td_lines.specs.Parsing.{IsParsedChange, IsParsedEntry}
use Rattle.td_lines.specs.declared.entry.FileEntry.TheVariants as entry
use Rattle.td_ops.specs.declared.attribute.NumberAttribute.TheVariants.{MaxList}
use Rattle.td_ops.specs.declared.call.Change.TheVariants as change
use Rattle.td_value.specs.declared.enumerations.FollowOption.TheVariants.{Always}
use Rattle.td_value.specs.declared.structures.Policy.{Policy}

pub record WorkedTelling : Type 0 where
  -- an attribute's number is a ulong
  pub number : IsParsedChange (change.SetNumber MaxList 7)
  pub wide : IsParsedChange (change.SetNumber MaxList (2 ^ 32)) → ⊥
  -- an interface's name has no NUL, and a type's name may be any words
  pub named : IsParsedChange (change.AddType (0 ∷ []) (codes "IDL:Item:1.0") [] [])
  pub nul : IsParsedChange (change.AddType (codes "Item") (0 ∷ []) [] []) → ⊥
  -- a proxy's line tells no policies
  pub policies : (target : Ior) (p : Policy)
      → IsParsedChange (change.ExportProxy target (codes "Item") [] true [] (p ∷ [])) → ⊥
  -- a link's line names a trader, and no line withdraws
  pub link : (trader : List ℕ) → IsParsedEntry (entry.Link (codes "l") trader Always Always)
  pub withdrawn : (id : List ℕ) → IsParsedChange (change.Withdraw id) → ⊥
