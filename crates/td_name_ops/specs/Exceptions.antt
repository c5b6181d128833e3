-- User exceptions: the repository id and the members in the order of their declaration (OMG's Naming Service, interface
-- CosNaming::NamingContext; CORBA, chapter on General Inter-ORB Protocol, "Reply Body").
use Rattle.std.specs.Prelude.{ℕ, List, ◌++◌, codes, Some, None, nat_lt, refl}
use Rattle.td_cdr.specs.Format.{Piece, ◌then◌}
use Rattle.td_cdr.specs.Sound.{Sound, ◌&◌, bad_value, constant, restriction, text, ulong, variant}
use Rattle.td_cdr.specs.declared.value_fault.ValueFault.{ValueFault}
use Rattle.td_typecode.specs.References.{reference}
use Rattle.td_names.specs.Spelling.{name}
use Rattle.td_names.specs.declared.act.NameException.{NameException}
use Rattle.td_names.specs.declared.act.NameException.TheVariants as fault

abbrev pub exception_name : NameException → List ℕ
exception_name (fault.NotFound _ _) = codes "NotFound"
exception_name (fault.CannotProceed _ _) = codes "CannotProceed"
exception_name fault.InvalidName = codes "InvalidName"
exception_name fault.AlreadyBound = codes "AlreadyBound"
exception_name fault.NotEmpty = codes "NotEmpty"

-- the prefix of OMG, the scope, the name and the version (CORBA, chapter "The Interface Repository", "OMG IDL Format")
abbrev pub exception_id : NameException → List ℕ
exception_id e = codes "IDL:omg.org/CosNaming/NamingContext/" ++ exception_name e ++ codes ":1.0"

-- NotFoundReason: missing_node, not_context and not_object
abbrev pub not_found_reason : Sound ValueFault ℕ
not_found_reason = restriction (λ n. nat_lt n 3) bad_value ulong

abbrev pub members_of : NameException → Sound ValueFault NameException
members_of (fault.NotFound _ _) =
    variant (λ p. fault.NotFound p.0 p.1)
    (elim [ fault.NotFound why rest ↦ Some (why, rest) | _ ↦ None ]) (λ _. refl)
    (not_found_reason & name)
members_of (fault.CannotProceed _ _) =
    variant (λ p. fault.CannotProceed p.0 p.1)
    (elim [ fault.CannotProceed o rest ↦ Some (o, rest) | _ ↦ None ]) (λ _. refl) (reference & name)
members_of fault.InvalidName = constant fault.InvalidName
members_of fault.AlreadyBound = constant fault.AlreadyBound
members_of fault.NotEmpty = constant fault.NotEmpty

-- what is written: the repository id and the members
abbrev pub exception_piece : NameException → Piece
exception_piece e = text.format.writes (exception_id e) then (members_of e).format.writes e
