-- What holds of all exceptions: the repository id tells which one it is.
use Rattle.std.specs.Prelude.{◌≡◌, ℕ, ◌^◌, ◌<◌, List, ◌++◌, length, codes}
use Rattle.td_cdr.specs.declared.order.Order.{Order}
use Rattle.td_cdr.specs.Place.{At}
use Rattle.td_cdr.specs.Text.{HasNoNul}
use Rattle.td_exceptions.specs.declared.exception.UserException.{UserException}
use Rattle.td_exceptions.specs.Exceptions.{row_of, user_id, exception_piece}

-- the id of an exception as IDL's repository ids are written: the prefix of OMG, the scope, the name and the version
-- (CORBA, chapter "The Interface Repository", "OMG IDL Format")
abbrev pub IdIsOfScopeAndName : Type 0
IdIsOfScopeAndName = (e : UserException)
    → user_id e ≡ codes "IDL:omg.org/" ++ (row_of e).scope ++ codes "/" ++ (row_of e).name
    ++ codes ":1.0"

-- the id is a string
abbrev pub IdHasNoNul : Type 0
IdHasNoNul = (e : UserException) → HasNoNul (user_id e)

-- no id is that of two exceptions: those of one id have the same members, which are read as values of one variant
abbrev pub IdTellsMembers : Type 0
IdTellsMembers = (e f : UserException) → user_id e ≡ user_id f
    → (a : At) → (row_of e).members.format.reads a ≡ (row_of f).members.format.reads a

-- the members can be written
abbrev pub IsWritable : UserException → Order → ℕ → Type 0
IsWritable e order place = (row_of e).members.format.admits e
    × (length (exception_piece e order place) < 2 ^ 32)

-- no two exceptions are written alike, nor is one written as what another begins with
abbrev pub WrittenApart : Type 0
WrittenApart =
    (e f : UserException) (order : Order) (place : ℕ) (more others : List ℕ)
    → IsWritable e order place
    → IsWritable f order place → exception_piece e order place ++ more
    ≡ exception_piece f order place ++ others → e ≡ f
