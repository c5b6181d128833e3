-- What stands in the place of a kind is read as a kind is, but for an indirection.
use Rattle.std.specs.Prelude.{◌≡◌, ℕ, Bool, true, false, cond, if◌then◌else◌, nat_lt, ◌==◌, Option, Some, None}
use Rattle.std.specs.Prelude.{Result, Ok, Err, option_map, refl}
use Rattle.std.proofs.Common.{sym, ap, subst}
use Rattle.std.proofs.lemmas.Bool.{eqb-true}
use Rattle.td_cdr.specs.declared.fault.CdrFault.{CdrFault}
use Rattle.td_cdr.specs.declared.value_fault.ValueFault.{ValueFault}
use Rattle.td_cdr.specs.declared.value_fault.ValueFault.TheVariants as fault
use Rattle.td_cdr.specs.Place.{At}
use Rattle.td_cdr.specs.Reading.{next_aligned}
use Rattle.td_cdr.specs.Format.{◌>>=◌, Read, as_fault, or_fault, number}
use Rattle.td_typecode.specs.declared.kinds.CodeKind.{CodeKind}
use Rattle.td_typecode.specs.declared.mode.Mode.{Mode}
use Rattle.td_typecode.specs.declared.mode.Mode.TheVariants.{Outer, Inner, Switch}
use Rattle.td_typecode.specs.Kinds.{all_kinds, kind_by_number, indirection as indirection_number, last_number}
use Rattle.td_typecode.specs.Kinds.{may_stand}
use Rattle.td_typecode.specs.Kinds.{omission_fault, kind_at}
use Rattle.td_typecode.specs.Known.{KnownState}
use Rattle.td_typecode.specs.GraphCodes.{may_be_there, kind_or_indirection}
use Rattle.td_typecode.specs.Extension.{ReadsLike, same}
use Rattle.td_typecode.specs.Followed.{LeadsOn}
use Rattle.td_typecode.specs.Extending.{indirection-any}

-- next: where the long of an indirection stands
abbrev pub from_kind : Read ValueFault CodeKind → At → Read ValueFault (Option CodeKind)
from_kind (Ok k) next = Ok (Some k.0, k.1)
from_kind (Err (fault.Indirection p)) next = Ok (None, next)
from_kind (Err e) next = Err e

-- the fault of a number that is neither a kind's nor that of an indirection
abbrev no_kind : Mode → ℕ → ℕ → ValueFault
no_kind mode n p = if nat_lt last_number n then fault.BadKind p else omission_fault mode n p

abbrev checked_kind : Mode → ℕ → Read ValueFault CodeKind → Read ValueFault CodeKind
checked_kind mode p r = r >>= λ x. if may_stand mode x.0 then Ok x else Err (fault.BadValue p)

abbrev checked_place : Mode → ℕ → Read ValueFault (Option CodeKind)
    → Read ValueFault (Option CodeKind)
checked_place mode p r = r >>= λ x. if may_be_there mode x.0 then Ok x else Err (fault.BadValue p)

no_kind-stays : (mode : Mode) (n p : ℕ) (next : At) (b : Bool)
    → (let r : Read ValueFault (Option CodeKind) = Err (if b then fault.BadKind p
    else omission_fault mode n p) in r)
    ≡ from_kind (Err (if b then fault.BadKind p else omission_fault mode n p)) next
no_kind-stays mode n p next true = refl
no_kind-stays Switch n p next false = refl
no_kind-stays Inner n p next false = refl
no_kind-stays Outer n p next false = refl

allowed-stays : (p : ℕ) (k : CodeKind) (next end : At) (b : Bool)
    → (let r : Read ValueFault (Option CodeKind) = if b then Ok (
      Some
          k,
      next,
    ) else Err (fault.BadValue p) in r)
    ≡ from_kind (if b then Ok (k, next) else Err (fault.BadValue p)) end
allowed-stays p k next end true = refl
allowed-stays p k next end false = refl

by-number : (mode : Mode) (n p : ℕ) (next : At) (c : Bool) (o : Option CodeKind)
    → (c ≡ true → o ≡ None)
    → checked_place mode p (or_fault (cond c (Some None) (option_map (λ k. Some k) o))
    (cond c (fault.Indirection p) (no_kind mode n p)) next)
    ≡ from_kind (checked_kind mode p
    (or_fault o (cond c (fault.Indirection p) (no_kind mode n p)) next)) next
by-number mode n p next true None none = refl
by-number mode n p next true (Some k) none = absurd
    (let gone : Some k ≡ None = none refl in cc (gone))
by-number mode n p next false (Some k) none = allowed-stays p k next next (may_stand mode k)
by-number mode n p next false None none = no_kind-stays mode n p next (nat_lt last_number n)

none-there : (n : ℕ) → (n == indirection_number) ≡ true → kind_by_number all_kinds n ≡ None
none-there n is = ap (kind_by_number all_kinds) (eqb-true n indirection_number is)

abbrev kinds_read : Mode → At → Result (ℕ × At) CdrFault → Read ValueFault CodeKind
kinds_read mode a r =
    checked_kind mode (next_aligned 4 a)
    (as_fault fault.Cdr r >>= λ x. or_fault (kind_by_number all_kinds x.0)
    (cond (x.0 == indirection_number) (fault.Indirection (next_aligned 4 a))
    (no_kind mode x.0 (next_aligned 4 a))) x.1)

abbrev places_read : Mode → At → Result (ℕ × At) CdrFault → Read ValueFault (Option CodeKind)
places_read mode a r =
    checked_place mode (next_aligned 4 a)
    (as_fault fault.Cdr r >>= λ x. or_fault (cond (x.0 == indirection_number) (Some None)
    (option_map (λ k. Some k) (kind_by_number all_kinds x.0)))
    (cond (x.0 == indirection_number) (fault.Indirection (next_aligned 4 a))
    (no_kind mode x.0 (next_aligned 4 a))) x.1)

read-as-kind : (mode : Mode) (a : At) (r : Result (ℕ × At) CdrFault)
    → (next : At) × (places_read mode a r ≡ from_kind (kinds_read mode a r) next)
read-as-kind mode a (Ok x) = (
  x.1,
  by-number mode x.0 (next_aligned 4 a) x.1 (x.0 == indirection_number)
      (kind_by_number all_kinds x.0)
      (none-there x.0),
)
read-as-kind mode a (Err e) = (a, refl)

pub kinds-extended : (mode : Mode) (a : At)
    → (next : At) × ((kind_or_indirection mode).format.reads a
    ≡ from_kind ((kind_at mode).format.reads a) next)
kinds-extended mode a = read-as-kind mode a ((number 4).reads a)

-- what goes on behind a kind, and behind a kind or an indirection
kind-at : {Y W : Type 0} (Q : Y → W → KnownState → Type 0) (q : Read ValueFault CodeKind)
    (next : At) (f : CodeKind × At → Read ValueFault Y)
    (h : Option CodeKind → At → Read ValueFault (W × KnownState))
    → LeadsOn (h None next) → ((k : CodeKind × At) → ReadsLike Q (f k) (h (Some k.0) k.1))
    → ReadsLike Q (q >>= f) (from_kind q next >>= λ k. h k.0 k.1)
kind-at Q (Ok k) next f h l s = s k
kind-at Q (Err (fault.Indirection p)) next f h l s = indirection-any Q (fault.Indirection p)
    (h None next) tt l
kind-at Q (Err (fault.Cdr e)) next f h l s = same refl
kind-at Q (Err (fault.BadKind p)) next f h l s = same refl
kind-at Q (Err (fault.BadValue p)) next f h l s = same refl
kind-at Q (Err (fault.Unsupported p)) next f h l s = same refl
kind-at Q (Err (fault.Depth p)) next f h l s = same refl
kind-at Q (Err fault.Memory) next f h l s = same refl

pub kind-extends : {Y W : Type 0} (Q : Y → W → KnownState → Type 0) (q : Read ValueFault CodeKind)
    (r : Read ValueFault (Option CodeKind)) (next : At) (f : CodeKind × At → Read ValueFault Y)
    (h : Option CodeKind → At → Read ValueFault (W × KnownState)) → r ≡ from_kind q next
    → LeadsOn (h None next)
    → ((k : CodeKind × At) → ReadsLike Q (f k) (h (Some k.0) k.1))
    → ReadsLike Q (q >>= f) (r >>= λ k. h k.0 k.1)
kind-extends Q q r next f h is l s =
    subst (λ (r : Read ValueFault (Option CodeKind)). ReadsLike Q (q >>= f) (r >>= λ k. h k.0 k.1))
    (sym is) (kind-at Q q next f h l s)
