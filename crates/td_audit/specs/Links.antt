-- The register of a link that a log adds: the target's own where it is a trader of the network, and else nil. A target
-- without an IIOP profile has none (OMG's Trading Object Service, interface Link, add_link).
use Rattle.std.specs.Prelude.{ℕ, List, if◌then◌else◌, is_some, Option, None, Some}
use Rattle.td_typecode.specs.declared.reference.Ior.{Ior}
use Rattle.td_ior.specs.Nil.{nil}
use Rattle.td_ior.specs.Profiles.{iiop_of}
use Rattle.td_log.specs.Lines.{trader_named}
use Rattle.td_objects.specs.References.{register_reference}
use Rattle.td_targets.specs.Targets.{home_key}
use Rattle.td_value.specs.declared.key.Kind.{Kind}
use Rattle.td_value.specs.declared.key.Kind.TheVariants.{Lookup}
use Rattle.td_value.specs.declared.key.ObjectKey.{ObjectKey}
use Rattle.td_walk.specs.declared.trace.Address.{Address}

-- of the trader of this name
abbrev pub register_named : Address → (names : List (List ℕ)) → (name : List ℕ) → Ior
register_named home names name = if is_some (trader_named names name)
    then register_reference home name else nil

-- of the object of a kind that the trader of this name has
abbrev pub register_of_object : Address → (names : List (List ℕ)) → (name : List ℕ) → Kind → Ior
register_of_object home names name Lookup = register_named home names name
register_of_object home names name other = nil

abbrev pub register_keyed : Address → (names : List (List ℕ)) → Option ObjectKey → Ior
register_keyed home names None = nil
register_keyed home names (Some key) = register_of_object home names key.trader key.kind

abbrev pub register_of : Address → (names : List (List ℕ)) → (target : Ior) → Option Ior
register_of home names target =
    if is_some (iiop_of target) then Some (register_keyed home names (home_key home target))
    else None
