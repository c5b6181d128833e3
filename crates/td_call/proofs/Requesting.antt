-- A Request begins with a whole header.
use Rattle.std.proofs.Common.{◌≡◌, ℕ, ◌+◌, ◌≤◌, Bool, List, ◌++◌, length, sym, ap, subst, ◌∙◌, arith, lit≤}
use Rattle.std.proofs.Common.{length-append}
use Rattle.td_cdr.specs.declared.order.Order.{Order}
use Rattle.td_giop.specs.Written.{octets_end, request_size, request_start}
use Rattle.td_giop.proofs.ByField.{request_is}
use Rattle.td_giop.proofs.Lengths.{request_length}

ends_behind : (n place len : ℕ) → n ≤ place → n ≤ octets_end place len
ends_behind n place len h = omega (arith, h)

start_long : (order : Order) (minor id : ℕ) (answered : Bool) (key operation : List ℕ)
    → 12 ≤ length (request_start order minor id answered key operation)
start_long order minor id answered key operation =
    let size : length (request_start order minor id answered key operation)
    ≡ request_size (length key) (length operation) =
    ap (length {A = ℕ}) (sym (request_is order minor id answered key operation))
    ∙ request_length order minor id answered key operation in
    let key_end : ℕ = octets_end 21 (length key) in
    let operation_end : ℕ = octets_end key_end (length operation + 1) in
    let least : 12 ≤ octets_end operation_end 0 =
    ends_behind 12 operation_end 0
    (ends_behind 12 key_end (length operation + 1) (ends_behind 12 21 (length key) (lit≤ tt))) in
    subst (λ (n : ℕ). 12 ≤ n) (sym size) least

-- what is written behind the start keeps its header
pub has_header : (order : Order) (minor id : ℕ) (answered : Bool) (key operation before bytes all more : List ℕ)
    → bytes ≡ before ++ request_start order minor id answered key operation → all ≡ bytes ++ more → 12 ≤ length all
has_header order minor id answered key operation before bytes all more started grown =
    omega (
      arith,
      ap (length {A = ℕ}) started,
      ap (length {A = ℕ}) grown,
      length-append bytes more,
      length-append before (request_start order minor id answered key operation),
      start_long order minor id answered key operation,
    )
