-- Names of types and of properties.
use Rattle.std.proofs.Common.{◌≡◌, ℕ, Bool, true, false, ◌||◌, cond, List, [], ◌∷◌, map, refl, ◌∙◌, Option, Some}
use Rattle.std.specs.Option.{is_some}
use Rattle.std.specs.Str.{bytes_eq}
use Rattle.td_types.specs.Kept.{entry_type}
use Rattle.td_types.specs.Repository.{has_type}
use Rattle.td_types.specs.Sought.{entry_named}
use Rattle.td_types.specs.declared.entry.TypeEntry.{TypeEntry}

found_or : (e : TypeEntry) (b : Bool) (found : Option TypeEntry) (any : Bool) → any ≡ is_some found
    → (b || any) ≡ is_some (cond b (Some e) found)
found_or e true found any h = refl
found_or e false found any h = h

pub is_found : (es : List TypeEntry) (name : List ℕ) → has_type (map entry_type es) name ≡ is_some (entry_named es name)
is_found [] name = refl
is_found (e ∷ es) name = found_or e (bytes_eq e.service_type.name name) (entry_named es name) _ (is_found es name)

pub no_type : (es : List TypeEntry) (name : List ℕ) → is_some (entry_named es name) ≡ false
    → has_type (map entry_type es) name ≡ false
no_type es name h = is_found es name ∙ h

pub some_type : (es : List TypeEntry) (name : List ℕ) → is_some (entry_named es name) ≡ true
    → has_type (map entry_type es) name ≡ true
some_type es name h = is_found es name ∙ h
