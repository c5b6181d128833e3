-- The changes of the tests can be written.
use Rattle.std.proofs.Common.{ℕ, ◌^◌, ◌<◌, List, [], refl, arith}
use Rattle.td_cdr.specs.Sound.{text}
use Rattle.td_cdr.specs.Text.{HasNoNul}
use Rattle.td_typecode.specs.References.{profile, reference}
use Rattle.td_typecode.specs.declared.reference.Ior.{Ior}
use Rattle.td_ops.specs.declared.call.Change.TheVariants as change
use Rattle.td_trader.specs.Admitted.{AdmitsChange}
use Rattle.td_types.proofs.Sequences.{sequence-from}
use Rattle.td_value.specs.Structures.{prop_struct, property}

pub added : (name if_name : List ℕ) → HasNoNul name → HasNoNul if_name
    → AdmitsChange (change.AddType name if_name [] [])
added name if_name n i = (
  (name, (if_name, ([], []))),
  refl,
  (n, (i, (sequence-from prop_struct [] (omega arith) tt, sequence-from text [] (omega arith) tt))),
)

pub exported : (r : Ior) (service_type : List ℕ) → reference.format.admits r → HasNoNul service_type
    → AdmitsChange (change.Export r service_type [])
exported r service_type h n =
    ((r, (service_type, [])), refl, (h, (n, sequence-from property [] (omega arith) tt)))

pub empty : (id : List ℕ) → HasNoNul id → reference.format.admits (record { id = id; profiles = [] })
empty id n = (n, sequence-from profile [] (omega arith) tt)
