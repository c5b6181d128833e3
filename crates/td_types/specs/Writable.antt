-- Which repositories can be written, as what they tell goes into replies (CORBA, chapter on the General Inter-ORB
-- Protocol, "CDR Transfer Syntax"): no text has a NUL, each property's TypeCode is one that is read and written, and
-- no list is longer than its count can say. The declared interfaces are told by no reply.
use Rattle.std.specs.Prelude.{ℕ, ◌<◌, ◌≤◌, ◌^◌, List, length, Ok, Err}
use Rattle.std.specs.List.{AllByRecursion}
use Rattle.td_cdr.specs.Sound.{◌&◌, text, sequence}
use Rattle.td_value.specs.Structures.{incarnation_number, prop_struct, type_struct}
use Rattle.td_value.specs.declared.structures.PropStruct.{PropStruct}
use Rattle.td_types.specs.Adding.{most_types}
use Rattle.td_types.specs.Calls.{RepositoryResult}
use Rattle.td_types.specs.Conforming.{ancestors}
use Rattle.td_types.specs.Descriptions.{description}
use Rattle.td_types.specs.Properties.{full_properties}
use Rattle.td_types.specs.Repository.{Repository, ServiceType, halves}
use Rattle.td_types.specs.declared.fault.RepoFault.{RepoFault}
use Rattle.td_types.specs.declared.fault.RepoFault.TheVariants as fault
use Rattle.td_types.specs.declared.fault.TypesFault.TheVariants.{User, Full, Memory}
use Rattle.td_types.specs.declared.reply.TypesReply.{TypesReply}
use Rattle.td_types.specs.declared.reply.TypesReply.TheVariants as reply

-- ---- repositories

-- a type: its name, and its description with interface, own properties and listed supertypes
pub record IsWritableType (t : ServiceType) : Type 0 where
  pub name : text.format.admits t.name
  pub described : type_struct.format.admits (description t)

-- what a type has by its supertypes isn't longer than its count can say
pub record IsCounted (types : List ServiceType) (name : List ℕ) : Type 0 where
  pub properties : length (full_properties types name) < 2 ^ 32
  pub supertypes : length (ancestors types name) < 2 ^ 32

pub record IsWritable (r : Repository) : Type 0 where
  pub types : AllByRecursion IsWritableType r.types
  pub few : length r.types ≤ most_types
  pub counted : (name : List ℕ) → IsCounted r.types name

-- ---- calls

-- the parameters of add_type, as they stand in a request
abbrev pub AreWritable : (name if_name : List ℕ) → List PropStruct → List (List ℕ) → Type 0
AreWritable name if_name props supers =
    (text & text & sequence prop_struct & sequence text).format.admits
    (name, (if_name, (props, supers)))

-- a reply, whose members the result of the operation has
abbrev pub IsWritableReply : TypesReply → Type 0
IsWritableReply (reply.Added incarnation) = incarnation_number.format.admits (halves incarnation)
IsWritableReply reply.Removed = Unit {0}
IsWritableReply reply.Masked = Unit {0}
IsWritableReply reply.Unmasked = Unit {0}
IsWritableReply (reply.Names names) = (sequence text).format.admits names
IsWritableReply (reply.Described d) = type_struct.format.admits d

-- an exception, by its members
abbrev pub IsWritableFault : RepoFault → Type 0
IsWritableFault (fault.IllegalServiceType name) = text.format.admits name
IsWritableFault (fault.UnknownServiceType name) = text.format.admits name
IsWritableFault (fault.ServiceTypeExists name) = text.format.admits name
IsWritableFault (fault.IllegalPropertyName name) = text.format.admits name
IsWritableFault (fault.DuplicatePropertyName name) = text.format.admits name
IsWritableFault (fault.DuplicateServiceTypeName name) = text.format.admits name
IsWritableFault (fault.InterfaceTypeMismatch base base_if derived derived_if) =
    (text & text & text & text).format.admits (base, (base_if, (derived, derived_if)))
IsWritableFault (fault.ValueTypeRedefinition type_1 definition_1 type_2 definition_2) =
    (text & prop_struct & text & prop_struct).format.admits
    (type_1, (definition_1, (type_2, definition_2)))
IsWritableFault (fault.HasSubTypes the_type sub_type) = (text & text).format.admits
    (the_type, sub_type)
IsWritableFault (fault.AlreadyMasked name) = text.format.admits name
IsWritableFault (fault.NotMasked name) = text.format.admits name

-- what a call comes to: a reply and a repository, or an exception
abbrev pub StaysWritable : RepositoryResult → Type 0
StaysWritable (Ok p) = IsWritableReply p.0 × IsWritable p.1
StaysWritable (Err (User f)) = IsWritableFault f
StaysWritable (Err Full) = Unit {0}
StaysWritable (Err Memory) = Unit {0}
