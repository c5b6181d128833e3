-- The reference of an iterator is small.
use Rattle.std.proofs.Common.{codes, ◌≡◌, ℕ, ◌^◌, ◌<◌, ◌≤◌, length, Result, Ok, Err, refl, sym, subst, arith}
use Rattle.std.proofs.Common.{length-append}
use Rattle.std.proofs.lemmas.Fmt.{length-decimal-le}
use Rattle.std.specs.Fmt.{decimal}
use Rattle.std.specs.Prelude.{IfOk}
use Rattle.td_cdr.specs.declared.memory.Memory.{Memory as OutOfMemory}
use Rattle.td_cdr.specs.declared.order.Order.TheVariants.{Big}
use Rattle.td_typecode.specs.declared.reference.Ior.{Ior}
use Rattle.td_iter.specs.Heads.{IsSmallReference}
use Rattle.td_name_session.specs.Keys.{iterator_id, iterator_key, iterator_reference}
use Rattle.td_names.proofs.Lengths.{made_reference-short}
use Rattle.td_names.specs.References.{IsAddress}
use Rattle.td_names.specs.declared.address.Address.{Address as Home}

key-short : (n : ℕ) → n < 2 ^ 64 → length (iterator_key n) ≤ 24
key-short n h =
    let digits : length (decimal n) ≤ 20 = length-decimal-le 20 n (omega arith) (omega (arith, h)) h in
    let front : length (codes "N/I/") ≡ 4 = refl in
    omega (arith, digits, front, length-append (codes "N/I/") (decimal n))

small : (home : Home) (n : ℕ) → IsAddress home → n < 2 ^ 64 → IsSmallReference (iterator_reference home n)
small home n a h =
    let key = key-short n h in
    let whole = made_reference-short iterator_id home.host (iterator_key n) home.port Big 0 in
    let id : length iterator_id ≡ 41 = refl in
    omega (arith, key, whole, id, a.short)

pub if_small : (home : Home) (n : ℕ) (r : Result Ior OutOfMemory) → IsAddress home → n < 2 ^ 64
    → IfOk r (λ x. x ≡ iterator_reference home n) → IfOk r IsSmallReference
if_small home n (Ok x) a h e = subst IsSmallReference (sym e) (small home n a h)
if_small home n (Err x) a h e = tt
