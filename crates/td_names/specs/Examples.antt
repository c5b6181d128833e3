-- Worked examples: calls from the root on, where it stands alone at h, port 1, and a name that goes round in a cycle.
use Rattle.std.specs.Prelude.{◌≡◌, ℕ, true, false, [], ◌∷◌, codes, None, Some}
use Rattle.td_typecode.specs.declared.reference.Ior.{Ior}
use Rattle.td_names.specs.Applying.{apply_act, done}
use Rattle.td_names.specs.References.{context_key, context_number, context_of_reference, reference_of}
use Rattle.td_names.specs.Stores.{Store, is_live, start}
use Rattle.td_names.specs.Walking.{missing_node, not_context, not_found}
use Rattle.td_names.specs.declared.act.NameAct.TheVariants as act
use Rattle.td_names.specs.declared.act.NameAnswer.TheVariants.{Done, User, System}
use Rattle.td_names.specs.declared.act.NameException.TheVariants as fault
use Rattle.td_names.specs.declared.act.NameRefusal.TheVariants.{NoImplement, ObjectNotExist}
use Rattle.td_names.specs.declared.act.NameReply.TheVariants as reply
use Rattle.td_names.specs.declared.address.Address.{Address}
use Rattle.td_names.specs.declared.component.NameComponent.{NameComponent}

abbrev pub home : Address
home = record { host = codes "h"; port = 1 }

abbrev pub part : ℕ → NameComponent
part letter = record { id = letter ∷ []; kind = [] }

abbrev pub a : NameComponent
a = part 97

abbrev pub up : NameComponent
up = part 117

abbrev pub x : NameComponent
x = part 120

abbrev pub y : NameComponent
y = part 121

-- an object elsewhere
abbrev pub p1 : Ior
p1 = record { id = codes "P"; profiles = [] }

-- the context 2 is made and bound as a in the root, the root is bound as up in it, and p1 as x in the root
abbrev pub made : Store
made = (apply_act (start home) 1 (act.BindNewContext (a ∷ []))).0

abbrev pub cycle : Store
cycle = (apply_act made 2 (act.BindContext (up ∷ []) (reference_of home 1))).0

abbrev pub bound : Store
bound = (apply_act cycle 1 (act.Bind (x ∷ []) p1)).0

pub record WorkedCalls : Type 0 where
  pub makes : (apply_act (start home) 1 (act.BindNewContext (a ∷ []))).1
      ≡ Done (reply.Object (reference_of home 2))
  pub binds : (apply_act cycle 1 (act.Bind (x ∷ []) p1)).1 ≡ done
  -- through the cycle, and twice
  pub resolves : (apply_act bound 1 (act.Resolve (a ∷ up ∷ a ∷ up ∷ x ∷ []))).1
      ≡ Done (reply.Object p1)
  pub missing : (apply_act bound 1 (act.Resolve (a ∷ y ∷ x ∷ []))).1
      ≡ not_found missing_node (y ∷ x ∷ [])
  pub no_context : (apply_act bound 1 (act.Resolve (x ∷ y ∷ []))).1
      ≡ not_found not_context (x ∷ y ∷ [])
  pub no_name : (apply_act bound 1 (act.Resolve [])).1 ≡ User fault.InvalidName
  pub already : (apply_act bound 1 (act.BindNewContext (x ∷ []))).1 ≡ User fault.AlreadyBound
  pub root : (apply_act (start home) 1 act.Destroy).1 ≡ System NoImplement
  pub none : (apply_act bound 3 act.List).1 ≡ System ObjectNotExist
  -- in the order of binding
  pub lists : (apply_act bound 1 act.List).1 ≡ Done (reply.Bindings
      (record { name = a; context = true } ∷ record { name = x; context = false } ∷ []))
  pub live : is_live bound 2 ≡ true
  -- it has a binding, until that is unbound
  pub not_empty : (apply_act bound 2 act.Destroy).1 ≡ User fault.NotEmpty
  pub dead : is_live (apply_act (apply_act bound 2 (act.Unbind (up ∷ []))).0 2 act.Destroy).0 2
      ≡ false
  pub changes : bound.changes ≡ 3

pub record WorkedKeys : Type 0 where
  pub key : context_key 12 ≡ codes "N/12"
  pub number : context_number (codes "N/12") ≡ Some 12
  pub zero : context_number (codes "N/0") ≡ None
  pub leads : context_of_reference home (reference_of home 12) ≡ Some 12
  pub elsewhere : context_of_reference home
      (reference_of (record { host = codes "i"; port = 1 }) 12) ≡ None
  pub id : (reference_of home 12).id ≡ codes "IDL:omg.org/CosNaming/NamingContext:1.0"
