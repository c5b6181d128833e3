-- Worked examples: bodies of requests and of replies, big-endian, from a place that is a multiple of four on.
use Rattle.std.specs.Prelude.{◌≡◌, ℕ, true, List, [], ◌∷◌, ◌++◌, codes, length, None, Some, Ok, Err}
use Rattle.td_cdr.specs.Place.{At}
use Rattle.td_cdr.specs.Reading.{after}
use Rattle.td_cdr.specs.declared.order.Order.TheVariants.{Big}
use Rattle.td_names.specs.declared.act.NameAct.TheVariants as act
use Rattle.td_names.specs.declared.act.NameException.TheVariants as fault
use Rattle.td_names.specs.declared.component.NameBinding.{NameBinding}
use Rattle.td_names.specs.declared.component.NameComponent.{NameComponent}
use Rattle.td_typecode.specs.declared.reference.Ior.{Ior}
use Rattle.td_ops.specs.declared.fault.OpsFault.TheVariants.{BadOperation, Marshal, NoImplement}
use Rattle.td_ops.specs.declared.outcome.SystemKind.TheVariants.{ImpLimit}
use Rattle.td_name_ops.specs.Calls.{call_read}
use Rattle.td_name_ops.specs.Outcomes.{outcome_piece, outcome_status}
use Rattle.td_name_ops.specs.declared.call.IteratorCall.TheVariants as iter
use Rattle.td_name_ops.specs.declared.call.NameCall.TheVariants as call
use Rattle.td_name_ops.specs.declared.operation.NameKind.TheVariants as kind
use Rattle.td_name_ops.specs.declared.outcome.NameOutcome.TheVariants.{Done, User, System}
use Rattle.td_name_ops.specs.declared.outcome.NameResult.TheVariants as result

-- a component of this id, without a kind
abbrev pub y : NameComponent
y = record { id = codes "y"; kind = [] }

-- what is bound under it is a context
abbrev pub y_context : NameBinding
y_context = record { name = y; context = true }

abbrev pub nil : Ior
nil = record { id = []; profiles = [] }

-- the name of y alone: its number of components, the id and the kind
abbrev pub y_name : List ℕ
y_name = 0 ∷ 0 ∷ 0 ∷ 1 ∷ 0 ∷ 0 ∷ 0 ∷ 2 ∷ 121 ∷ 0 ∷ 0 ∷ 0 ∷ 0 ∷ 0 ∷ 0 ∷ 1 ∷ 0 ∷ []

-- four octets of 0
abbrev pub zero_long : List ℕ
zero_long = 0 ∷ 0 ∷ 0 ∷ 0 ∷ []

-- a reader that stands in front of these bytes
abbrev pub in_front_of : List ℕ → At
in_front_of bytes = record { rest = bytes; place = 0; origin = 0; order = Big }

abbrev pub behind : List ℕ → At
behind bytes = after (length bytes) (in_front_of bytes)

pub record WorkedBodies : Type 0 where
  pub resolve : call_read kind.Context (codes "resolve") (in_front_of y_name)
      ≡ Ok (call.Act (act.Resolve (y ∷ [])), behind y_name)
  -- the nil reference: an empty id, and no profiles
  pub bind : let bytes : List ℕ = y_name ++ (0 ∷ 0 ∷ 0 ∷ 0 ∷ 0 ∷ 0 ∷ 1 ∷ 0 ∷ 0 ∷ 0 ∷ 0 ∷ [])
      ++ zero_long in
      call_read kind.Context (codes "bind") (in_front_of bytes)
      ≡ Ok (call.Act (act.Bind (y ∷ []) nil), behind bytes)
  pub list : let bytes : List ℕ = 0 ∷ 0 ∷ 0 ∷ 5 ∷ [] in
      call_read kind.Context (codes "list") (in_front_of bytes) ≡ Ok (call.List 5, behind bytes)
  pub destroy_context : call_read kind.Context (codes "destroy") (in_front_of [])
      ≡ Ok (call.Act act.Destroy, behind [])
  pub destroy_iterator : call_read kind.Iterator (codes "destroy") (in_front_of [])
      ≡ Ok (call.Iterator iter.Destroy, behind [])
  pub short : call_read kind.Context (codes "list") (in_front_of (0 ∷ [])) ≡ Err (Marshal 0)
  pub not_implemented : call_read kind.Context (codes "rebind_context") (in_front_of [])
      ≡ Err NoImplement
  pub of_iterators : call_read kind.Context (codes "next_n") (in_front_of []) ≡ Err BadOperation

pub record WorkedReplies : Type 0 where
  -- the component y wasn't bound: the id of the exception has 48 bytes with its NUL
  pub not_found : outcome_piece (User (fault.NotFound 0 (y ∷ []))) Big 24
      ≡ 0 ∷ 0 ∷ 0 ∷ 49 ∷ codes "IDL:omg.org/CosNaming/NamingContext/NotFound:1.0" ++ 0 ∷ 0 ∷ 0 ∷ 0
      ∷ zero_long ++ y_name
  pub not_empty : outcome_piece (User fault.NotEmpty) Big 24
      ≡ 0 ∷ 0 ∷ 0 ∷ 49 ∷ codes "IDL:omg.org/CosNaming/NamingContext/NotEmpty:1.0" ++ 0 ∷ []
  -- a binding comes with TRUE, and past the end FALSE with an empty name
  pub next : outcome_piece (Done (result.NextOne (Some y_context))) Big 24
      ≡ 1 ∷ 0 ∷ 0 ∷ 0 ∷ y_name ++ 0 ∷ 0 ∷ 0 ∷ 0 ∷ 0 ∷ 0 ∷ 1 ∷ []
  pub past_the_end : outcome_piece (Done (result.NextOne None)) Big 24 ≡ 0 ∷ 0 ∷ 0 ∷ 0 ∷ zero_long
      ++ zero_long
  pub some : outcome_piece (Done (result.NextN (y_context ∷ []))) Big 24
      ≡ 1 ∷ 0 ∷ 0 ∷ 0 ∷ 0 ∷ 0 ∷ 0 ∷ 1 ∷ y_name ++ 0 ∷ 0 ∷ 0 ∷ 0 ∷ 0 ∷ 0 ∷ 1 ∷ []
  pub no_more : outcome_piece (Done (result.NextN [])) Big 24 ≡ 0 ∷ 0 ∷ 0 ∷ 0 ∷ zero_long
  -- bindings, and the nil reference
  pub list : outcome_piece (Done (result.List [] nil)) Big 24
      ≡ zero_long ++ 0 ∷ 0 ∷ 0 ∷ 1 ∷ 0 ∷ 0 ∷ 0 ∷ 0 ∷ zero_long
  pub limit : outcome_piece (System ImpLimit 0 1) Big 24
      ≡ 0 ∷ 0 ∷ 0 ∷ 32 ∷ codes "IDL:omg.org/CORBA/IMP_LIMIT:1.0" ++ 0 ∷ zero_long ++ 0 ∷ 0 ∷ 0 ∷ 1
      ∷ []
  pub statuses : (outcome_status (Done result.Nothing) ≡ 0)
      × (outcome_status (User fault.NotEmpty) ≡ 1) × (outcome_status (System ImpLimit 0 1) ≡ 2)
