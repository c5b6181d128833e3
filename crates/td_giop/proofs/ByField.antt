-- Fields that are appended one behind the other are the head that its format writes.
use Rattle.std.proofs.Common.{◌≡◌, ℕ, ◌+◌, Bool, List, [], ◌++◌, length, sym, ap, ◌∙◌, append_assoc, length-append}
use Rattle.std.proofs.lemmas.List.{append-nil}
use Rattle.td_cdr.specs.declared.order.Order.{Order}
use Rattle.td_cdr.specs.Format.{Piece, ◌then◌, row}
use Rattle.td_giop.specs.declared.message_type.TheConstants.{REQUEST, REPLY, LOCATE_REQUEST, LOCATE_REPLY}
use Rattle.td_giop.specs.Fields.{ulong, boolean, octets, text}
use Rattle.td_giop.specs.Heads.{reserved_field}
use Rattle.td_giop.specs.Written.{header_written, request_start, reply_start, locate_written, locate_reply_written}

-- a field behind these bytes, at the place where they end
infixl 10 ◌▹◌
abbrev pub ◌▹◌ : List ℕ → (ℕ → List ℕ) → List ℕ
bytes ▹ field = bytes ++ field (length bytes)

abbrev pub request_by_field : Order → (minor : ℕ) → ℕ → Bool → List ℕ → List ℕ → List ℕ
request_by_field order minor id answered key operation =
    header_written order minor REQUEST
    ▹ ulong.format.writes 0 order
    ▹ ulong.format.writes id order
    ▹ boolean.format.writes answered order
    ▹ (reserved_field minor).format.writes tt order
    ▹ octets.format.writes key order
    ▹ text.format.writes operation order
    ▹ octets.format.writes [] order

abbrev pub reply_by_field : Order → (minor : ℕ) → ℕ → ℕ → List ℕ
reply_by_field order minor id status =
    header_written order minor REPLY
    ▹ ulong.format.writes 0 order
    ▹ ulong.format.writes id order
    ▹ ulong.format.writes status order

abbrev pub locate_by_field : Order → (minor : ℕ) → ℕ → List ℕ → List ℕ
locate_by_field order minor id key =
    header_written order minor LOCATE_REQUEST ▹ ulong.format.writes id order ▹ octets.format.writes key order

abbrev pub locate_reply_by_field : Order → (minor : ℕ) → ℕ → ℕ → List ℕ
locate_reply_by_field order minor id status =
    header_written order minor LOCATE_REPLY ▹ ulong.format.writes id order ▹ ulong.format.writes status order

-- ---- pieces one behind the other are their row

abbrev onto : List ℕ → Piece → Order → List ℕ
onto b p order = b ++ p order (length b)

onto-then : (p q : Piece) (order : Order) (b : List ℕ) → onto b (p then q) order ≡ onto (onto b p order) q order
onto-then p q order b =
    rw (length-append b (p order (length b)))
    (sym (append_assoc b (p order (length b)) (q order (length b + length (p order (length b))))))

three_onto : (p q r : Piece) (order : Order) (b : List ℕ)
    → onto b (p then q then r) order ≡ onto (onto (onto b p order) q order) r order
three_onto p q r order b = onto-then p (q then r) order b ∙ onto-then q r order (onto b p order)

seven_onto : (p q r s t u v : Piece) (order : Order) (b : List ℕ)
    → onto b (p then q then r then s then t then u then v) order
    ≡ onto (onto (onto (onto (onto (onto (onto b p order) q order) r order) s order) t order) u order) v order
seven_onto p q r s t u v order b =
    let c = onto b p order in
    let d = onto c q order in
    let e = onto d r order in
    let f = onto e s order in
    onto-then p (q then r then s then t then u then v) order b ∙ onto-then q (r then s then t then u then v) order c
    ∙ onto-then r (s then t then u then v) order d ∙ onto-then s (t then u then v) order e
    ∙ three_onto t u v order f

-- no contexts are their number alone
no_row : (order : Order) (b : List ℕ)
    → onto b (ulong.format.writes 0 then row []) order ≡ onto b (ulong.format.writes 0) order
no_row order b = ap (λ (c : List ℕ). b ++ c) (append-nil (ulong.format.writes 0 order (length b)))

pub request_is : (order : Order) (minor id : ℕ) (answered : Bool) (key operation : List ℕ)
    → request_by_field order minor id answered key operation ≡ request_start order minor id answered key operation
unfolding request_start
request_is order minor id answered key operation =
    let head = header_written order minor REQUEST in
    let rest : List ℕ → List ℕ = λ c.
    onto (onto (onto (onto (onto (onto c (ulong.format.writes id) order) (boolean.format.writes answered) order)
    ((reserved_field minor).format.writes tt) order)
    (octets.format.writes key) order)
    (text.format.writes operation) order)
    (octets.format.writes []) order in
    sym (seven_onto (ulong.format.writes 0 then row []) (ulong.format.writes id) (boolean.format.writes answered)
    ((reserved_field minor).format.writes tt) (octets.format.writes key) (text.format.writes operation)
    (octets.format.writes []) order head
    ∙ ap rest (no_row order head))

pub reply_is : (order : Order) (minor id status : ℕ)
    → reply_by_field order minor id status ≡ reply_start order minor id status
unfolding reply_start
reply_is order minor id status =
    let head = header_written order minor REPLY in
    sym (three_onto (ulong.format.writes 0 then row []) (ulong.format.writes id) (ulong.format.writes status) order head
    ∙ ap (λ (c : List ℕ). onto (onto c (ulong.format.writes id) order) (ulong.format.writes status) order)
    (no_row order head))

pub locate_is : (order : Order) (minor id : ℕ) (key : List ℕ)
    → locate_by_field order minor id key ≡ locate_written order minor id key
unfolding locate_written
locate_is order minor id key =
    sym (onto-then (ulong.format.writes id) (octets.format.writes key) order
    (header_written order minor LOCATE_REQUEST))

pub locate_reply_is : (order : Order) (minor id status : ℕ)
    → locate_reply_by_field order minor id status ≡ locate_reply_written order minor id status
unfolding locate_reply_written
locate_reply_is order minor id status =
    sym (onto-then (ulong.format.writes id) (ulong.format.writes status) order
    (header_written order minor LOCATE_REPLY))
