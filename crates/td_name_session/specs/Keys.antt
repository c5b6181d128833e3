-- The keys of a naming server's objects, and the references of a connection's iterators (CORBA's chapter on the General
-- Inter-ORB Protocol, "IIOP IOR Profiles"; OMG's Naming Service, interface CosNaming::BindingIterator).
use Rattle.std.specs.Prelude.{ℕ, if◌then◌else◌, Option, Some, None, List, ◌++◌, take, drop, codes}
use Rattle.std.specs.Fmt.{decimal}
use Rattle.std.specs.Str.{bytes_eq}
use Rattle.td_typecode.specs.declared.reference.Ior.{Ior}
use Rattle.td_ior.specs.Number.{number_of}
use Rattle.td_ior.specs.Profiles.{made_reference}
use Rattle.td_name_ops.specs.declared.operation.NameKind.{NameKind}
use Rattle.td_name_ops.specs.declared.operation.NameKind.TheVariants as kind
use Rattle.td_names.specs.References.{context_number, from_one}
use Rattle.td_names.specs.declared.address.Address.{Address as Home}
use Rattle.td_name_session.specs.declared.keys.NameKey.{NameKey}
use Rattle.td_name_session.specs.declared.keys.NameKey.TheVariants.{Context, Iterator}

-- what the desk has as the name of each iterator
abbrev pub desk_label : List ℕ
desk_label = codes "N"

abbrev pub iterator_id : List ℕ
iterator_id = codes "IDL:omg.org/CosNaming/BindingIterator:1.0"

-- N/I/n, in decimal
abbrev pub iterator_key : ℕ → List ℕ
iterator_key n = codes "N/I/" ++ decimal n

abbrev pub iterator_reference : Home → ℕ → Ior
iterator_reference home n = made_reference iterator_id home.host home.port (iterator_key n) 0

-- ---- how they are read

abbrev pub iterator_number : List ℕ → Option ℕ
iterator_number key = if bytes_eq (take 4 key) (codes "N/I/") then from_one (number_of (drop 4 key))
    else None

abbrev pub or_iterator : Option ℕ → Option ℕ → Option NameKey
or_iterator (Some n) i = Some (Context n)
or_iterator None (Some n) = Some (Iterator n)
or_iterator None None = None

-- the object whose key these octets are
abbrev pub key_of : List ℕ → Option NameKey
key_of key = or_iterator (context_number key) (iterator_number key)

-- ---- objects

abbrev pub kind_of : NameKey → NameKind
kind_of (Context n) = kind.Context
kind_of (Iterator n) = kind.Iterator

-- the number of a context, and of an iterator
abbrev pub context_in : NameKey → ℕ
context_in (Context n) = n
context_in (Iterator n) = 0

abbrev pub iterator_in : NameKey → ℕ
iterator_in (Context n) = 0
iterator_in (Iterator n) = n

-- the interfaces of an object: its own, and that of every object
abbrev pub interface_id : NameKind → List ℕ
interface_id kind.Context = codes "IDL:omg.org/CosNaming/NamingContext:1.0"
interface_id kind.Iterator = iterator_id

abbrev pub object_id : List ℕ
object_id = codes "IDL:omg.org/CORBA/Object:1.0"
