-- The octets of an encapsulation (CORBA's chapter on the General Inter-ORB Protocol, "CDR Transfer
-- Syntax", on encapsulation): the first tells the order of the value behind it, and alignment counts
-- from it. They are counted by an unsigned long, so there are fewer than 2 ^ 32.
use Rattle.std.specs.Prelude.{◌≡◌, ℕ, ◌+◌, ◌^◌, ◌<◌, nat_eq, nat_lt, Bool, true, false, List, [], ◌∷◌, ◌++◌, length}
use Rattle.std.specs.Prelude.{if◌then◌else◌, Option, Some, None, Ok, Err}
use Rattle.td_cdr.specs.declared.order.Order.TheVariants.{Big}
use Rattle.td_cdr.specs.Gap.{flag}
use Rattle.td_cdr.specs.Place.{At}
use Rattle.td_cdr.specs.Spelling.{IsFlag}
use Rattle.td_cdr.specs.Truth.{order_of}
use Rattle.td_cdr.specs.Format.{Read}
use Rattle.td_cdr.specs.Sound.{Sound}
use Rattle.td_cdr.specs.declared.value_fault.ValueFault.{ValueFault}
use Rattle.td_ior.specs.Keys.{◌>>=◌}

-- these octets hold a value, which other octets may follow
pub record Encloses {Y : Type 0} (g : Sound ValueFault Y) (octets : List ℕ) (v : Y) : Type 0 where
  pub little : Bool
  pub order_octet : ℕ
  pub body : List ℕ
  pub ignored : List ℕ
  pub order_of_flag : IsFlag little order_octet
  pub parts : octets ≡ order_octet ∷ (body ++ ignored)
  pub short : length octets < 2 ^ 32
  pub spelled : g.format.spells (order_of little) 1 v body

-- behind the value
abbrev pub behind : {Y : Type 0} (g : Sound ValueFault Y) (octets : List ℕ) (v : Y)
    → Encloses g octets v → At
behind g octets v e =
    record { rest = e.ignored; place = 1 + length e.body; origin = 0; order = order_of e.little }

-- ---- how they are read

-- behind the octet that tells the order
abbrev pub start : Bool → List ℕ → At
start little body = record { rest = body; place = 1; origin = 0; order = order_of little }

abbrev pub start_of : List ℕ → Option At
start_of [] = None
start_of (octet ∷ body) =
    if nat_lt (length body + 1) (2 ^ 32)
    then (if nat_eq octet 0 then Some (start false body) else if nat_eq octet 1 then Some
    (start true body) else None)
    else None

abbrev pub value_in : {Y : Type 0} → Read ValueFault Y → Option Y
value_in (Ok x) = Some x.0
value_in (Err e) = None

abbrev pub enclosed_in : {Y : Type 0} → Sound ValueFault Y → List ℕ → Option Y
enclosed_in g octets = start_of octets >>= λ a. value_in (g.format.reads a)

-- ---- how they are written, in big order

abbrev pub encapsulate_value : {Y : Type 0} → Sound ValueFault Y → Y → List ℕ
encapsulate_value g v = flag Big ∷ g.format.writes v Big 1
