-- What a server replies: a result, or the repository id of an exception and its members in the order of their
-- declaration (OMG's Naming Service, module CosNaming; CORBA, chapter on General Inter-ORB Protocol, "Reply Body", and
-- chapter "Standard Exceptions").
use Rattle.std.specs.Prelude.{ℕ, Bool, true, false, List, [], Option, Some, None, length, nat_eq}
use Rattle.td_cdr.specs.Format.{Piece, ◌then◌, none}
use Rattle.td_cdr.specs.Sound.{◌&◌, boolean, sequence, text, ulong}
use Rattle.td_typecode.specs.Formats.{is_nonempty}
use Rattle.td_typecode.specs.References.{profile, reference}
use Rattle.td_typecode.specs.declared.reference.Ior.{Ior}
use Rattle.td_typecode.specs.declared.reference.Profile.{Profile}
use Rattle.td_names.specs.Spelling.{NameParts, binding, binding_parts, parts_of}
use Rattle.td_names.specs.declared.component.NameBinding.{NameBinding}
use Rattle.td_ops.specs.Outcomes.{system_piece}
use Rattle.td_name_ops.specs.Exceptions.{exception_piece}
use Rattle.td_name_ops.specs.declared.outcome.NameOutcome.{NameOutcome}
use Rattle.td_name_ops.specs.declared.outcome.NameOutcome.TheVariants.{Done, User, System}
use Rattle.td_name_ops.specs.declared.outcome.NameResult.{NameResult}
use Rattle.td_name_ops.specs.declared.outcome.NameResult.TheVariants as result

-- the status of the reply that carries it: NO_EXCEPTION, USER_EXCEPTION, SYSTEM_EXCEPTION
abbrev pub outcome_status : NameOutcome → ℕ
outcome_status (Done r) = 0
outcome_status (User e) = 1
outcome_status (System kind minor completion) = 2

-- next_one: that it is a binding and the binding; past the end a name of no components, of an object
abbrev pub next_one_parts : Option NameBinding → Bool × NameParts
next_one_parts (Some b) = (true, parts_of b)
next_one_parts None = (false, ([], false))

abbrev pub next_one_piece : Option NameBinding → Piece
next_one_piece b = (boolean & binding_parts).format.writes (next_one_parts b)

-- next_n: whether there is a binding, and the bindings
abbrev pub next_n_piece : List NameBinding → Piece
next_n_piece bindings = (boolean & sequence binding).format.writes (is_nonempty bindings, bindings)

-- list: the bindings, and the iterator of those behind them
abbrev pub list_piece : List NameBinding → Ior → Piece
list_piece bindings iterator = (sequence binding & reference).format.writes (bindings, iterator)

-- what is written for a result
abbrev pub result_piece : NameResult → Piece
result_piece result.Nothing = none
result_piece (result.Object object) = reference.format.writes object
result_piece (result.Truth truth) = boolean.format.writes truth
result_piece (result.List bindings iterator) = list_piece bindings iterator
result_piece (result.NextOne b) = next_one_piece b
result_piece (result.NextN bindings) = next_n_piece bindings

-- what is written for an outcome
abbrev pub outcome_piece : NameOutcome → Piece
outcome_piece (Done r) = result_piece r
outcome_piece (User e) = exception_piece e
outcome_piece (System kind minor completion) = system_piece kind minor completion

-- ---- outcomes that a server answers even where it has no memory left, in room that it has

-- a reference of one profile, as the contexts of a server have
abbrev pub has_one_profile : Ior → Bool
has_one_profile object = nat_eq (length object.profiles) 1

abbrev pub profile_piece : Profile → Piece
profile_piece p = profile.format.writes p

abbrev pub only_profile_piece : Profile → Piece
only_profile_piece p = ulong.format.writes 1 then profile_piece p

abbrev pub one_profile_piece : List ℕ → Profile → Piece
one_profile_piece id p = text.format.writes id then only_profile_piece p

abbrev pub is_plain_result : NameResult → Bool
is_plain_result result.Nothing = true
is_plain_result (result.Object object) = has_one_profile object
is_plain_result (result.Truth truth) = true
is_plain_result _ = false

abbrev pub is_plain : NameOutcome → Bool
is_plain (Done r) = is_plain_result r
is_plain (User e) = false
is_plain (System kind minor completion) = true
