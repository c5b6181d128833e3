-- The lines that are told of events, of a query and of its reply are read as what they tell.
use Rattle.std.proofs.Common.{rules, codes, ◌≡◌, ℕ, ◌/◌, ◌%◌, ◌^◌, ◌<◌, nat_eq, nat_le, true, false, List, [], ◌∷◌}
use Rattle.std.proofs.Common.{◌++◌, append_assoc, length, Some, None, refl, ap, ◌∙◌, arith, ◌&&◌}
use Rattle.std.proofs.lemmas.Bool.Decides.{nat_tests}
use Rattle.std.proofs.lemmas.Fmt.{digits_decimal}
use Rattle.std.proofs.lemmas.Str.Parse.{IsNumeralModel, numerals_by_fold}
use Rattle.std.specs.Fmt.{decimal}
use Rattle.std.specs.List.{list_all}
use Rattle.std.specs.Result.{result_ok}
use Rattle.hex.proofs.HexLemmas.{decode_of-encode_lower}
use Rattle.hex.specs.Hex.{encode_lower, encode_with, lower_digits}
use Rattle.td_audit.specs.Making.{answer_line, ask_line, deliver_line, form, no_value_line, reply_line, request_to}
use Rattle.td_audit.specs.Replies.{spelled_reply}
use Rattle.td_cdr.specs.Lawful.{AreOctets}
use Rattle.td_cdr.specs.Names.{is_digit, is_trader_byte, trader_name}
use Rattle.td_drill.specs.Drills.{drill_query}
use Rattle.td_ior.proofs.Numbers.{and-right, below-only}
use Rattle.td_ior.specs.Number.{number_after, number_of}
use Rattle.td_log.specs.Keywords.{begin_of}
use Rattle.td_log.specs.Lines.{answer_line as answer_text, ask_of, deliver_line as deliver_text, line_of}
use Rattle.td_log.specs.Lines.{reply_line as reply_of_line, trader_named, value_of, words_of}
use Rattle.td_log.specs.Messages.{octets_of, reply_of, request_of}
use Rattle.td_log.specs.Words.{one_number}
use Rattle.td_log.specs.declared.line.Line.TheVariants.{Ask, Deliver, Value, Answer, Reply}
use Rattle.td_log.specs.declared.message.Recorded.{Recorded}
use Rattle.td_log_laws.proofs.Cutting.{lacks, lacks-append, lacks-kind, index-other, one-is, two-are, word-cut}
use Rattle.td_ops.specs.declared.call.Call.TheVariants as call
use Rattle.td_ops.specs.declared.operation.Operation.TheVariants.{Query}
use Rattle.td_ops.specs.declared.outcome.Outcome.{Outcome}

-- ---- the bytes of the parts

own : IsNumeralModel (λ ds. list_all is_digit ds ≡ true) (number_after 0)
own = numerals_by_fold (λ ds. list_all is_digit ds ≡ true) (search rules) number_after (search rules)

-- spaces and line feeds are no digits, and don't stand in names
digit-space : (x : ℕ) → is_digit x ≡ true → nat_eq x 32 ≡ false
digit-space x e = grind (arith, nat_tests)

digit-feed : (x : ℕ) → is_digit x ≡ true → nat_eq x 10 ≡ false
digit-feed x e = grind (arith, nat_tests)

byte-space : (x : ℕ) → is_trader_byte x ≡ true → nat_eq x 32 ≡ false
byte-space x e = grind (arith, nat_tests)

byte-feed : (x : ℕ) → is_trader_byte x ≡ true → nat_eq x 10 ≡ false
byte-feed x e = grind (arith, nat_tests)

decimal-space : (n : ℕ) → n < 2 ^ 64 → lacks 32 (decimal n) ≡ true
decimal-space n h = lacks-kind 32 is_digit digit-space (decimal n) (digits_decimal own n h)

decimal-feed : (n : ℕ) → n < 2 ^ 64 → lacks 10 (decimal n) ≡ true
decimal-feed n h = lacks-kind 10 is_digit digit-feed (decimal n) (digits_decimal own n h)

name-bytes : (name : List ℕ) → trader_name name ≡ true → list_all is_trader_byte name ≡ true
name-bytes name e = and-right (nat_le 1 (length name) && nat_le (length name) 32) (list_all is_trader_byte name) e

name-space : (name : List ℕ) → trader_name name ≡ true → lacks 32 name ≡ true
name-space name e = lacks-kind 32 is_trader_byte byte-space name (name-bytes name e)

name-feed : (name : List ℕ) → trader_name name ≡ true → lacks 10 name ≡ true
name-feed name e = lacks-kind 10 is_trader_byte byte-feed name (name-bytes name e)

-- no hexadecimal digit is b
hex-lacks : (b : ℕ) → lacks b lower_digits ≡ true → nat_eq 0 b ≡ false → (xs : List ℕ)
    → lacks b (encode_lower xs) ≡ true
unfolding encode_with
hex-lacks b h z [] = refl
hex-lacks b h z (x ∷ xs) =
    let high = index-other b lower_digits (x / 16) h z in
    let low = index-other b lower_digits (x % 16) h z in
    let later = hex-lacks b h z xs in
    rw (high, low) later

-- ---- hexadecimal digits

octets-back : (xs : List ℕ) → AreOctets xs → octets_of (encode_lower xs) ≡ Some xs
octets-back xs h = ap (λ (r : _). result_ok r) (decode_of-encode_lower xs h.each)

-- ---- first words

deliver-is : (names : List (List ℕ)) (rest : List ℕ) → line_of names (codes "deliver" ++ 32 ∷ rest) ≡ deliver_text rest
unfolding line_of begin_of
deliver-is names rest = rw (word-cut (codes "deliver") rest refl) refl

answer-is : (names : List (List ℕ)) (rest : List ℕ) → line_of names (codes "answer" ++ 32 ∷ rest) ≡ answer_text rest
unfolding line_of begin_of
answer-is names rest = rw (word-cut (codes "answer") rest refl) refl

value-is : (names : List (List ℕ)) (rest : List ℕ) → line_of names (codes "value" ++ 32 ∷ rest) ≡ value_of rest
unfolding line_of begin_of
value-is names rest = rw (word-cut (codes "value") rest refl) refl

ask-is : (names : List (List ℕ)) (rest : List ℕ) → line_of names (codes "ask" ++ 32 ∷ rest) ≡ ask_of names rest
unfolding line_of begin_of
ask-is names rest = rw (word-cut (codes "ask") rest refl) refl

reply-is : (names : List (List ℕ)) (rest : List ℕ) → line_of names (codes "reply" ++ 32 ∷ rest) ≡ reply_of_line rest
unfolding line_of begin_of
reply-is names rest = rw (word-cut (codes "reply") rest refl) refl

-- an Ask's line tells no random words
ask-alone : (rest : List ℕ) → words_of (codes "ask" ++ 32 ∷ rest) ≡ None
unfolding words_of begin_of
ask-alone rest = rw (word-cut (codes "ask") rest refl) refl

-- ---- events

number-back : (n : ℕ) → n < 2 ^ 64 → number_of (decimal n) ≡ Some n
number-back n h = below-only (2 ^ 64) (decimal n) n (omega arith) (record { below = h; printed = refl })

one-back : (n : ℕ) → n < 2 ^ 64 → one_number (decimal n) ≡ Some n
one-back n h = rw (one-is (decimal n) (decimal-space n h)) (number-back n h)

pub deliver-read : (names : List (List ℕ)) (c : ℕ) → c < 2 ^ 64 → line_of names (deliver_line c) ≡ Some (Deliver c)
deliver-read names c h = deliver-is names (decimal c) ∙ rw (one-back c h) refl

pub answer-read : (names : List (List ℕ)) (c : ℕ) → c < 2 ^ 64 → line_of names (answer_line c) ≡ Some (Answer c)
answer-read names c h = answer-is names (decimal c) ∙ rw (one-back c h) refl

none-back : (c : ℕ) → c < 2 ^ 64 → value_of (decimal c ++ 32 ∷ codes "-") ≡ Some (Value c None)
unfolding value_of
none-back c h = rw (two-are (decimal c) (codes "-") (decimal-space c h) refl, number-back c h) refl

pub value-read : (names : List (List ℕ)) (c : ℕ) → c < 2 ^ 64 → line_of names (no_value_line c) ≡ Some (Value c None)
value-read names c h = value-is names (decimal c ++ 32 ∷ codes "-") ∙ none-back c h

-- ---- a query and its reply

ask-parts : (name : List ℕ) → ask_line name ≡ codes "ask" ++ 32 ∷ (name ++ 32 ∷ encode_lower (request_to name))
ask-parts name =
    ap (λ (x : List ℕ). codes "ask " ++ x) (append_assoc name (32 ∷ []) (encode_lower (request_to name)))

reply-parts : (c : ℕ) (o : Outcome)
    → reply_line c o ≡ codes "reply" ++ 32 ∷ (decimal c ++ 32 ∷ encode_lower (spelled_reply form o))
reply-parts c o =
    ap (λ (x : List ℕ). codes "reply " ++ x) (append_assoc (decimal c) (32 ∷ []) (encode_lower (spelled_reply form o)))

ask-back : (names : List (List ℕ)) (n : ℕ) (name : List ℕ) → trader_name name ≡ true
    → trader_named names name ≡ Some n → AreOctets (request_to name)
    → request_of name (request_to name) ≡ Some (form, call.Query drill_query)
    → ask_of names (name ++ 32 ∷ encode_lower (request_to name)) ≡ Some (Ask n form drill_query)
unfolding ask_of
ask-back names n name e at o f =
    let digits = encode_lower (request_to name) in
    rw (two-are name digits (name-space name e) (hex-lacks 32 refl refl (request_to name)), at)
    (rw (octets-back (request_to name) o) (rw f refl))

pub ask-read : (names : List (List ℕ)) (n : ℕ) (name : List ℕ) → trader_name name ≡ true
    → trader_named names name ≡ Some n → AreOctets (request_to name)
    → request_of name (request_to name) ≡ Some (form, call.Query drill_query)
    → line_of names (ask_line name) ≡ Some (Ask n form drill_query)
ask-read names n name e at o f =
    ap (line_of names) (ask-parts name)
    ∙ ask-is names (name ++ 32 ∷ encode_lower (request_to name))
    ∙ ask-back names n name e at o f

-- it tells no random words
pub ask-no-words : (name : List ℕ) → words_of (ask_line name) ≡ None
unfolding words_of
ask-no-words name =
    ap words_of (ask-parts name) ∙ ask-alone (name ++ 32 ∷ encode_lower (request_to name))

reply-back : (c : ℕ) (bytes : List ℕ) (r : Recorded) → c < 2 ^ 64 → AreOctets bytes → reply_of Query bytes ≡ Some r
    → reply_of_line (decimal c ++ 32 ∷ encode_lower bytes) ≡ Some (Reply c r)
unfolding reply_of_line
reply-back c bytes r h o f =
    rw (two-are (decimal c) (encode_lower bytes) (decimal-space c h) (hex-lacks 32 refl refl bytes), number-back c h)
    (rw (octets-back bytes o) (rw f refl))

pub reply-read : (names : List (List ℕ)) (c : ℕ) (o : Outcome) (r : Recorded) → c < 2 ^ 64 → AreOctets (spelled_reply form o)
    → reply_of Query (spelled_reply form o) ≡ Some r → line_of names (reply_line c o) ≡ Some (Reply c r)
reply-read names c o r h octets f =
    ap (line_of names) (reply-parts c o)
    ∙ reply-is names (decimal c ++ 32 ∷ encode_lower (spelled_reply form o))
    ∙ reply-back c (spelled_reply form o) r h octets f

-- ---- the lines lack line feeds

pub deliver-feed : (c : ℕ) → c < 2 ^ 64 → lacks 10 (deliver_line c) ≡ true
deliver-feed c h = lacks-append 10 (codes "deliver ") (decimal c) refl (decimal-feed c h)

pub answer-feed : (c : ℕ) → c < 2 ^ 64 → lacks 10 (answer_line c) ≡ true
answer-feed c h = lacks-append 10 (codes "answer ") (decimal c) refl (decimal-feed c h)

pub value-feed : (c : ℕ) → c < 2 ^ 64 → lacks 10 (no_value_line c) ≡ true
value-feed c h =
    lacks-append 10 (codes "value ") (decimal c ++ codes " -") refl
    (lacks-append 10 (decimal c) (codes " -") (decimal-feed c h) refl)

pub ask-feed : (name : List ℕ) → trader_name name ≡ true → lacks 10 (ask_line name) ≡ true
ask-feed name e =
    let digits = encode_lower (request_to name) in
    ap (lacks 10) (ask-parts name)
    ∙ lacks-append 10 (codes "ask ") (name ++ 32 ∷ digits) refl
    (lacks-append 10 name (32 ∷ digits) (name-feed name e) (hex-lacks 10 refl refl (request_to name)))

pub reply-feed : (c : ℕ) (o : Outcome) → c < 2 ^ 64 → lacks 10 (reply_line c o) ≡ true
reply-feed c o h =
    let digits = encode_lower (spelled_reply form o) in
    ap (lacks 10) (reply-parts c o)
    ∙ lacks-append 10 (codes "reply ") (decimal c ++ 32 ∷ digits) refl
    (lacks-append 10 (decimal c) (32 ∷ digits) (decimal-feed c h) (hex-lacks 10 refl refl (spelled_reply form o)))
