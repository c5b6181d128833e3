-- How long what is written is.
use Rattle.std.proofs.Common.{◌≡◌, ℕ, zero, suc, ◌+◌, Bool, List, [], ◌∷◌, ◌++◌, length, replicate, arith}
use Rattle.std.proofs.Common.{length-append, ap, sym}
use Rattle.std.proofs.Common.{refl, ◌∙◌}
use Rattle.std.specs.Int.{from_bool}
use Rattle.std.proofs.lemmas.List.{append-nil, length-replicate}
use Rattle.td_cdr.specs.declared.order.Order.{Order}
use Rattle.td_cdr.specs.Gap.{gap, bytes_of}
use Rattle.td_cdr.specs.Joined.{length-bytes_of}
use Rattle.td_cdr.specs.Writing.{written_number, written_octets}
use Rattle.td_giop.specs.declared.message_type.TheConstants.{REQUEST, REPLY, LOCATE_REQUEST, LOCATE_REPLY}
use Rattle.td_giop.specs.Fields as field
use Rattle.td_giop.specs.Heads.{reserved_field as some_reserved}
use Rattle.td_giop.proofs.Reserved.{some-reserved}
use Rattle.td_giop.proofs.ByField.{◌▹◌, request_by_field, reply_by_field, locate_by_field, locate_reply_by_field}
use Rattle.td_giop.proofs.ByField.{reply_is, locate_reply_is}
use Rattle.td_giop.specs.Written.{reply_start, locate_reply_written, octets_end, request_size, header_written}

abbrev ulong : Order → ℕ → ℕ → List ℕ
ulong order v = field.ulong.format.writes v order

abbrev boolean : Order → Bool → ℕ → List ℕ
boolean order v = field.boolean.format.writes v order

abbrev octets : Order → List ℕ → ℕ → List ℕ
octets order v = field.octets.format.writes v order

abbrev text : Order → List ℕ → ℕ → List ℕ
text order v = field.text.format.writes v order

pub written_number_length : (size : ℕ) (order : Order) (place v : ℕ)
    → length (written_number size order place v) ≡ gap size place + size
written_number_length size order place v =
    let zeros : length {A = ℕ} (replicate (gap size place) 0) ≡ gap size place = length-replicate (gap size place) 0 in
    omega (
      arith,
      length-append (replicate (gap size place) 0) (bytes_of order size v),
      zeros,
      length-bytes_of order size v,
    )

pub written_octets_length : (order : Order) (place : ℕ) (v : List ℕ)
    → length (written_octets order place v) ≡ gap 4 place + 4 + length v
written_octets_length order place v =
    omega (
      arith,
      length-append (written_number 4 order place (length v)) v,
      written_number_length 4 order place (length v),
    )

-- a ulong at a place that its bytes go to without padding
ulong_length : (bytes : List ℕ) (order : Order) (place v : ℕ) → length bytes ≡ place → gap 4 place ≡ 0
    → length (bytes ▹ ulong order v) ≡ place + 4
ulong_length bytes order place v e aligned =
    let n = written_number_length 4 order place v in
    let here : length (ulong order v (length bytes)) ≡ 4 = rw e (omega (arith, n, aligned)) in
    omega (arith, length-append bytes (ulong order v (length bytes)), here)

pub reply_length : (order : Order) (minor id status : ℕ) → length (reply_by_field order minor id status) ≡ 24
reply_length order minor id status =
    let a = ulong_length (header_written order minor REPLY) order 12 0 refl refl in
    let b = ulong_length (header_written order minor REPLY ▹ ulong order 0) order 16 id a refl in
    ulong_length (header_written order minor REPLY ▹ ulong order 0 ▹ ulong order id) order 20 status b refl

pub locate_reply_length : (order : Order) (minor id status : ℕ)
    → length (locate_reply_by_field order minor id status) ≡ 20
locate_reply_length order minor id status =
    let a = ulong_length (header_written order minor LOCATE_REPLY) order 12 id refl refl in
    ulong_length (header_written order minor LOCATE_REPLY ▹ ulong order id) order 16 status a refl

octets_length : (bytes : List ℕ) (order : Order) (place : ℕ) (v : List ℕ) → length bytes ≡ place
    → length (bytes ▹ octets order v) ≡ octets_end place (length v)
octets_length bytes order place v e =
    let here : length (octets order v (length bytes)) ≡ gap 4 place + 4 + length v =
    rw e (written_octets_length order place v) in
    omega (arith, length-append bytes (octets order v (length bytes)), here)

text_length : (bytes : List ℕ) (order : Order) (place : ℕ) (v : List ℕ) → length bytes ≡ place
    → length (bytes ▹ text order v) ≡ octets_end place (length v + 1)
text_length bytes order place v e =
    let one : length (v ++ 0 ∷ []) ≡ length v + 1 = length-append v (0 ∷ []) in
    octets_length bytes order place (v ++ 0 ∷ []) e ∙ ap (octets_end place) one

boolean_length : (bytes : List ℕ) (order : Order) (place : ℕ) (v : Bool) → length bytes ≡ place → gap 1 place ≡ 0
    → length (bytes ▹ boolean order v) ≡ place + 1
boolean_length bytes order place v e aligned =
    let n = written_number_length 1 order place (from_bool v) in
    let here : length (boolean order v (length bytes)) ≡ 1 = rw e (omega (arith, n, aligned)) in
    omega (arith, length-append bytes (boolean order v (length bytes)), here)

pub locate_length : (order : Order) (minor id : ℕ) (key : List ℕ)
    → length (locate_by_field order minor id key) ≡ 20 + length key
locate_length order minor id key =
    let a = ulong_length (header_written order minor LOCATE_REQUEST) order 12 id refl refl in
    let b = octets_length (header_written order minor LOCATE_REQUEST ▹ ulong order id) order 16 key a in
    omega (arith, b)

abbrev reserved : Order → ℕ → ℕ → List ℕ
reserved order minor = (some_reserved minor).format.writes tt order

same_end : (n : ℕ) → octets_end 24 n ≡ octets_end 21 n
same_end n = omega arith

-- the key begins at one place, whether padding or reserved octets stand before it
key_end : (front : List ℕ) (order : Order) (minor : ℕ) (key : List ℕ) → length front ≡ 21
    → length (front ▹ reserved order minor ▹ octets order key) ≡ octets_end 21 (length key)
key_end front order zero key e =
    octets_length (front ▹ reserved order 0) order 21 key (ap (length {A = ℕ}) (append-nil front) ∙ e)
key_end front order (suc newer) key e =
    let three : length (reserved order (suc newer) (length front)) ≡ 3 =
    ap (length {A = ℕ}) (some-reserved newer order (length front)) in
    let there : length (front ▹ reserved order (suc newer)) ≡ 24 =
    omega (arith, length-append front (reserved order (suc newer) (length front)), three, e) in
    octets_length (front ▹ reserved order (suc newer)) order 24 key there ∙ same_end (length key)

abbrev keyed : Order → (minor id : ℕ) → Bool → List ℕ → List ℕ
keyed order minor id answered key =
    header_written order minor REQUEST ▹ ulong order 0 ▹ ulong order id ▹ boolean order answered ▹ reserved order minor
    ▹ octets order key

-- up to the key, up to the operation, and the whole start
pub keyed_length : (order : Order) (minor id : ℕ) (answered : Bool) (key : List ℕ)
    → length (keyed order minor id answered key) ≡ octets_end 21 (length key)
keyed_length order minor id answered key =
    let h = header_written order minor REQUEST in
    let a = ulong_length h order 12 0 refl refl in
    let b = ulong_length (h ▹ ulong order 0) order 16 id a refl in
    let c = boolean_length (h ▹ ulong order 0 ▹ ulong order id) order 20 answered b refl in
    key_end (h ▹ ulong order 0 ▹ ulong order id ▹ boolean order answered) order minor key c

pub named_length : (order : Order) (minor id : ℕ) (answered : Bool) (key operation : List ℕ)
    → length (keyed order minor id answered key ▹ text order operation)
    ≡ octets_end (octets_end 21 (length key)) (length operation + 1)
named_length order minor id answered key operation =
    text_length (keyed order minor id answered key) order (octets_end 21 (length key)) operation
    (keyed_length order minor id answered key)

pub request_length : (order : Order) (minor id : ℕ) (answered : Bool) (key operation : List ℕ)
    → length (request_by_field order minor id answered key operation) ≡ request_size (length key) (length operation)
request_length order minor id answered key operation =
    octets_length (keyed order minor id answered key ▹ text order operation) order
    (octets_end (octets_end 21 (length key)) (length operation + 1)) []
    (named_length order minor id answered key operation)

pub ruleset request_lengths = (keyed_length, named_length, request_length)

-- ---- of what is written whole

pub reply_start_length : (order : Order) (minor id status : ℕ) → length (reply_start order minor id status) ≡ 24
reply_start_length order minor id status =
    ap (length {A = ℕ}) (sym (reply_is order minor id status)) ∙ reply_length order minor id status

pub locate_reply_written_length : (order : Order) (minor id status : ℕ)
    → length (locate_reply_written order minor id status) ≡ 20
locate_reply_written_length order minor id status =
    ap (length {A = ℕ}) (sym (locate_reply_is order minor id status)) ∙ locate_reply_length order minor id status
