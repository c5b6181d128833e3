-- How long a reply is whose head was written.
use Rattle.std.proofs.Common.{◌≡◌, ◌≤◌, List, ◌++◌, length, ℕ, ap, arith, length-append}
use Rattle.td_cdr.specs.declared.order.Order.{Order}
use Rattle.td_giop.proofs.Lengths.{reply_start_length}
use Rattle.td_giop.specs.Written.{reply_start}
use Rattle.td_giop.specs.declared.header.TheConstants.{HEADER_SIZE}
use Rattle.td_iter.specs.declared.limits.TheConstants.{REPLY_START}

pub start_length : (order : Order) (minor id status : ℕ) (bytes : List ℕ) → bytes ≡ reply_start order minor id status
    → length bytes ≡ REPLY_START
start_length order minor id status bytes e =
    omega (arith, ap (length {A = ℕ}) e, reply_start_length order minor id status)

-- what is written behind it keeps its header
pub header_stays : (before all more : List ℕ) → length before ≡ REPLY_START → all ≡ before ++ more
    → HEADER_SIZE ≤ length all
header_stays before all more e grown = omega (arith, ap (length {A = ℕ}) grown, length-append before more)
