-- The Requests that a client writes: in big order, with no contexts, a reply expected, and no principal (CORBA, chapter
-- on General Inter-ORB Protocol, "Request Message").
use Rattle.std.specs.Prelude.{ℕ, true, nat_eq, if◌then◌else◌, List, ◌++◌, length, codes}
use Rattle.td_cdr.specs.declared.order.Order.TheVariants.{Big}
use Rattle.td_cdr.specs.Format.{Piece}
use Rattle.td_cdr.specs.Sound.{◌&◌, text}
use Rattle.td_typecode.specs.Outermost.{type_code}
use Rattle.td_typecode.specs.Values.{any_value}
use Rattle.td_typecode.specs.declared.code.Any.{Any}
use Rattle.td_typecode.specs.declared.code.TypeCode.{TypeCode}
use Rattle.td_giop.specs.Written.{request_start, seal_size}
use Rattle.td_ior.specs.declared.profile.Iiop.{Iiop}
use Rattle.td_ops.specs.declared.call.Call.{Call}
use Rattle.td_ops.specs.Called.{operation_in}
use Rattle.td_ops.specs.Calls.{call_piece}
use Rattle.td_ops.specs.Operations.{name_of}

-- The minor version of GIOP that an object is called in, by that of its profile: a server of IIOP 1.0 is called in 1.0,
-- any later one in 1.1 (chapter on General Inter-ORB Protocol, "IIOP IOR Profiles").
abbrev pub spoken_minor : (minor : ℕ) → ℕ
spoken_minor minor = if nat_eq minor 0 then 0 else 1

-- a Request for an operation of the object with this profile, and what is written for its parameters
unfoldable pub request_bytes : (id : ℕ) → Iiop → (operation : List ℕ) → (parameters : Piece)
    → List ℕ
request_bytes id p operation parameters =
    let start : List ℕ = request_start Big (spoken_minor p.minor) id true p.key operation in
    seal_size Big (start ++ parameters Big (length start))

-- the Request for a call
abbrev pub request_of : (id : ℕ) → Iiop → Call → List ℕ
request_of id p c = request_bytes id p (name_of (operation_in c)) (call_piece c)

-- the parameters of evalDP: name, returned_type, extra_info (OMG's Trading Object Service, interface DynamicPropEval)
abbrev pub evaluation_piece : (name : List ℕ) → TypeCode → Any → Piece
evaluation_piece name returned extra = (text & type_code & any_value).format.writes
    (name, (returned, extra))

-- the Request for an evaluation
abbrev pub evaluation_of : (id : ℕ) → Iiop → (name : List ℕ) → TypeCode → Any → List ℕ
evaluation_of id p name returned extra = request_bytes id p (codes "evalDP")
    (evaluation_piece name returned extra)
