-- The fields of a Request have room, once so much was reserved as it takes whole.
use Rattle.std.proofs.Common.{◌≡◌, ℕ, zero, suc, ◌+◌, ◌<◌, ◌≤◌, List, [], ◌∷◌, ◌++◌, length, ap, subst, arith, ◌∙◌}
use Rattle.std.proofs.Common.{length-append}
use Rattle.td_cdr.specs.declared.order.Order.{Order}
use Rattle.td_cdr.specs.Writing.{Draft, written_number, written_octets}
use Rattle.td_giop.specs.declared.message_type.TheConstants.{REQUEST}
use Rattle.td_giop.specs.Heads.{reserved_field}
use Rattle.td_giop.specs.Written.{header_written, octets_end, request_size}
use Rattle.td_giop.proofs.Lengths.{written_number_length, written_octets_length}
use Rattle.td_giop.proofs.Reserved.{some-reserved}

longer : (new old more : List ℕ) (m n : ℕ) → new ≡ old ++ more → length old ≡ m → length more ≡ n → length new ≡ m + n
longer new old more m n e l k = omega (arith, ap (length {A = ℕ}) e, length-append old more, l, k)

-- a number behind so many bytes
numbered : (new old : List ℕ) (size place : ℕ) (order : Order) (v m : ℕ)
    → new ≡ old ++ written_number size order (length old) v → length old ≡ place
    → length (written_number size order place v) ≡ m → length new ≡ place + m
numbered new old size place order v m e l k =
    longer new old (written_number size order (length old) v) place m e l
    (ap (λ (p : ℕ). length (written_number size order p v)) l ∙ k)

octeted : (new old : List ℕ) (place : ℕ) (order : Order) (v : List ℕ)
    → new ≡ old ++ written_octets order (length old) v → length old ≡ place → length new ≡ octets_end place (length v)
octeted new old place order v e l =
    longer new old (written_octets order (length old) v) place _ e l
    (ap (λ (p : ℕ). length (written_octets order p v)) l ∙ written_octets_length order place v)

keyed : (minor : ℕ) (order after : Order) (d4 d5 d6 key : List ℕ) → length d4 ≡ 21
    → d5 ≡ d4 ++ (reserved_field minor).format.writes tt order (length d4)
    → d6 ≡ d5 ++ written_octets after (length d5) key → length d6 ≡ octets_end 21 (length key)
keyed zero order after d4 d5 d6 key l e f =
    octeted d6 d5 21 after key f (longer d5 d4 [] 21 0 e l (omega arith))
keyed (suc newer) order after d4 d5 d6 key l e f =
    let three = ap (length {A = ℕ}) (some-reserved newer order (length d4)) in
    let there : length d5 ≡ 24 =
    longer d5 d4 ((reserved_field (suc newer)).format.writes tt order (length d4)) 21 3 e l three in
    let end : octets_end 24 (length key) ≡ octets_end 21 (length key) = omega arith in
    octeted d6 d5 24 after key f there ∙ end

pub key_written : (d0 d1 d2 d3 d4 d5 d6 : Draft) (minor id flag : ℕ) (key : List ℕ) → d0.bytes ≡ []
    → d1.bytes ≡ d0.bytes ++ header_written d0.order minor REQUEST
    → d2.bytes ≡ d1.bytes ++ written_number 4 d1.order (length d1.bytes) 0
    → d3.bytes ≡ d2.bytes ++ written_number 4 d2.order (length d2.bytes) id
    → d4.bytes ≡ d3.bytes ++ written_number 1 d3.order (length d3.bytes) flag
    → d5.bytes ≡ d4.bytes ++ (reserved_field minor).format.writes tt d4.order (length d4.bytes)
    → d6.bytes ≡ d5.bytes ++ written_octets d5.order (length d5.bytes) key
    → length d6.bytes ≡ octets_end 21 (length key)
key_written d0 d1 d2 d3 d4 d5 d6 minor id flag key none a b c d e f =
    let one : length d1.bytes ≡ 12 =
    omega (
      arith,
      ap (length {A = ℕ}) a,
      ap (length {A = ℕ}) none,
      length-append d0.bytes (header_written d0.order minor REQUEST),
    ) in
    let two = numbered d2.bytes d1.bytes 4 12 d1.order 0 4 b one (written_number_length 4 d1.order 12 0) in
    let three = numbered d3.bytes d2.bytes 4 16 d2.order id 4 c two (written_number_length 4 d2.order 16 id) in
    let four = numbered d4.bytes d3.bytes 1 20 d3.order flag 1 d three (written_number_length 1 d3.order 20 flag) in
    keyed minor d4.order d5.order d4.bytes d5.bytes d6.bytes key four e f

-- the operation has room behind the key
pub text_fits : (d6 : Draft) (key operation : List ℕ) (room : ℕ) → length d6.bytes ≡ octets_end 21 (length key)
    → request_size (length key) (length operation) ≤ room → room ≤ d6.room
    → d6.room < length d6.bytes + length (written_octets d6.order (length d6.bytes) (operation ++ 0 ∷ [])) → ⊥
text_fits d6 key operation room l fits more refused =
    let place = octets_end 21 (length key) in
    let long : length (written_octets d6.order (length d6.bytes) (operation ++ 0 ∷ []))
    ≡ length (written_octets d6.order place (operation ++ 0 ∷ [])) =
    ap (λ (p : ℕ). length (written_octets d6.order p (operation ++ 0 ∷ []))) l in
    omega (
      arith,
      l,
      long,
      written_octets_length d6.order place (operation ++ 0 ∷ []),
      length-append operation (0 ∷ []),
      fits,
      more,
      refused,
    )

-- and so has the principal behind the operation
pub principal_fits : (d6 d7 : Draft) (key operation : List ℕ) (room : ℕ) → length d6.bytes ≡ octets_end 21 (length key)
    → d7.bytes ≡ d6.bytes ++ written_octets d6.order (length d6.bytes) (operation ++ 0 ∷ [])
    → request_size (length key) (length operation) ≤ room → room ≤ d7.room
    → d7.room < length d7.bytes + length (written_octets d7.order (length d7.bytes) []) → ⊥
principal_fits d6 d7 key operation room l e fits more refused =
    let there = octeted d7.bytes d6.bytes (octets_end 21 (length key)) d6.order (operation ++ 0 ∷ []) e l in
    let one : length (operation ++ 0 ∷ []) ≡ length operation + 1 = length-append operation (0 ∷ []) in
    let end : length d7.bytes ≡ octets_end (octets_end 21 (length key)) (length operation + 1) =
    there ∙ ap (octets_end (octets_end 21 (length key))) one in
    let long : length (written_octets d7.order (length d7.bytes) [])
    ≡ length (written_octets d7.order (octets_end (octets_end 21 (length key)) (length operation + 1)) []) =
    ap (λ (p : ℕ). length (written_octets d7.order p [])) end in
    omega (
      arith,
      end,
      long,
      written_octets_length d7.order (octets_end (octets_end 21 (length key)) (length operation + 1)) [],
      fits,
      more,
      refused,
    )
