-- The change that an add_link comes to can be written: its register is the server's own, one that a peer gave, or none.
use Rattle.std.proofs.Common.{◌≡◌, ℕ, Bool, true, false, cond, List, [], ◌∷◌, Option, Some, None, Ok}
use Rattle.std.proofs.Common.{Err, IfOk, refl, sym, subst, arith}
use Rattle.td_cdr.specs.Text.{HasNoNul}
use Rattle.td_typecode.specs.References.{profile, reference}
use Rattle.td_typecode.specs.declared.reference.Ior.{Ior}
use Rattle.td_ior.specs.Keys.{written_key}
use Rattle.td_ior.specs.Nil.{is_nil}
use Rattle.td_ior.specs.Profiles.{made_profile, made_reference}
use Rattle.td_objects.specs.Interfaces.{interface_id}
use Rattle.td_objects.specs.References.{register_reference}
use Rattle.td_objects.specs.declared.interface.Interface.TheVariants.{Register}
use Rattle.td_ops.specs.Calls.{AdmitsCall}
use Rattle.td_ops.specs.Parameters.{add_link}
use Rattle.td_ops.specs.declared.call.AddLink.{AddLink}
use Rattle.td_ops.specs.declared.call.Call.TheVariants as call
use Rattle.td_ops.specs.declared.call.Change.{Change}
use Rattle.td_servant.specs.Linking.{Gave, link_change, register_given}
use Rattle.td_trader.specs.Admitted.{AdmitsChange, AdmitsRegister}
use Rattle.td_types.proofs.Sequences.{sequence-from}
use Rattle.td_value.specs.declared.key.Kind.TheVariants as kind
use Rattle.td_walk.specs.declared.trace.Address.{Address}

-- a link that is read from a request
pub read_link : (l : AddLink) → AdmitsCall (call.AddLink l) → add_link.format.admits l
read_link l h =
    let is : call.AddLink h.0 ≡ call.AddLink l = h.1 in
    let same : h.0 ≡ l = cc in
    subst add_link.format.admits same h.2

pub link_admitted : (l : AddLink) (register : Option Ior) → AdmitsCall (call.AddLink l) → AdmitsRegister register
    → AdmitsChange (link_change l register)
link_admitted l register h r = (read_link l h, r)

-- ---- registers

-- a reference that the server makes
pub made_writes : (id host : List ℕ) (port : ℕ) (key : List ℕ) (minor : ℕ) → HasNoNul id
    → reference.format.admits (made_reference id host port key minor)
made_writes id host port key minor n =
    (n, sequence-from profile (made_profile host port key minor ∷ []) (omega arith) ((omega arith, tt), tt))

-- the server's own
pub register_writes : (home : Address) (name : List ℕ) → reference.format.admits (register_reference home name)
register_writes home name =
    made_writes (interface_id Register) home.host home.port
    (written_key (record { trader = name; kind = kind.Register })) home.minor refl

pub own_admitted : (home : Address) (name : List ℕ) (r : Ior) → r ≡ register_reference home name
    → AdmitsRegister (Some r)
own_admitted home name r is = subst reference.format.admits (sym is) (register_writes home name)

unless-nil : (nil : Bool) (r : Ior) → reference.format.admits r → AdmitsRegister (cond nil None (Some r))
unless-nil true r h = tt
unless-nil false r h = h

-- what a peer gave
given-admitted : (gave : Gave) → IfOk gave (λ r. reference.format.admits r) → AdmitsRegister (register_given gave)
given-admitted (Ok r) h = unless-nil (is_nil r) r h
given-admitted (Err f) h = tt

pub register_admitted : (gave : Gave) (register : Option Ior) → register ≡ register_given gave
    → IfOk gave (λ r. reference.format.admits r) → AdmitsRegister register
register_admitted gave register is h = subst AdmitsRegister (sym is) (given-admitted gave h)
