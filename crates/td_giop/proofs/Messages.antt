-- What the writers wrote and sealed is a whole good message, and its head is read back.
use Rattle.std.proofs.Common.{◌≡◌, ℕ, zero, suc, ◌%◌, ◌+◌, ◌-◌, ◌^◌, ◌<◌, ◌≤◌, Bool, List, [], ◌∷◌, ◌++◌}
use Rattle.std.proofs.Common.{length, drop, Result, Ok}
use Rattle.std.proofs.Common.{refl, sym, ap, subst, ◌∙◌, arith, length-append}
use Rattle.std.proofs.lemmas.List.{drop_at, append-nil}
use Rattle.byteorder.specs.Numbers.{big_number-reads_back, little_number-reads_back}
use Rattle.td_cdr.specs.declared.order.Order.{Order}
use Rattle.td_cdr.specs.declared.order.Order.TheVariants.{Big, Little}
use Rattle.td_cdr.specs.declared.fault.CdrFault.{CdrFault}
use Rattle.td_cdr.specs.Place.{At}
use Rattle.td_cdr.specs.Gap.{bytes_of, flag}
use Rattle.td_cdr.specs.Text.{HasNoNul}
use Rattle.td_cdr.specs.Reading.{number}
use Rattle.td_cdr.specs.Sound.{Sound, ◌&◌}
use Rattle.td_cdr.specs.Joined.{written_number-spelled, written_octets-spelled}
use Rattle.td_cdr.specs.Written.{written_boolean-spelled, written_string-spelled}
use Rattle.td_giop.specs.declared.header.TheConstants.{NEWEST_MINOR}
use Rattle.td_giop.specs.declared.message_type.TheConstants.{REQUEST, REPLY, LOCATE_REQUEST, LOCATE_REPLY}
use Rattle.td_giop.specs.Header.{GoodHeader, TellsOrder}
use Rattle.td_giop.specs.Fields.{ulong, octet, boolean, octets, text}
use Rattle.td_giop.specs.Heads.{Request, Reply, alone, behind_header, contexts, principal, reserved_field, request}
use Rattle.td_giop.specs.Heads.{request_at, reply}
use Rattle.td_giop.specs.Heads.{reply_at, locate_request, locate_at, locate_reply, locate_reply_at}
use Rattle.td_giop.specs.Written.{header_written, message, request_start, reply_start, locate_written}
use Rattle.td_giop.specs.Written.{locate_reply_written, seal_size, at_body, IsSealed}
use Rattle.td_cdr.specs.Joined.{length-bytes_of}
use Rattle.td_giop.proofs.Heads.{read-alone}

-- ---- the header once it is sealed

abbrev front : Order → ℕ → ℕ → List ℕ
front order minor kind = 71 ∷ 73 ∷ 79 ∷ 80 ∷ 1 ∷ minor ∷ flag order ∷ kind ∷ []

sealed_parts : (order : Order) (minor kind : ℕ) (x : List ℕ)
    → seal_size order (header_written order minor kind ++ x) ≡ front order minor kind ++ bytes_of order 4 (length x) ++ x
sealed_parts order minor kind x =
    let size : length (header_written order minor kind ++ x) - 12 ≡ length x =
    omega (arith, length-append (header_written order minor kind) x) in
    ap (λ (n : ℕ). front order minor kind ++ bytes_of order 4 n ++ x) size

number_back : (order : Order) (n : ℕ) (rest : List ℕ) → n < 256 ^ 4 → number order 4 (bytes_of order 4 n ++ rest) ≡ n
number_back Big n rest lt = big_number-reads_back 4 n rest lt
number_back Little n rest lt = little_number-reads_back 4 n rest lt

flag_tells : (order : Order) → TellsOrder (flag order) order
flag_tells Big = refl
flag_tells Little = refl

-- the flags that are written tell no fragments
whole_flag : (order : Order) → 2 ≤ flag order % 4 → ⊥
whole_flag Big f = omega (arith, f)
whole_flag Little f = omega (arith, f)

sealed_good : (limit minor : ℕ) (order : Order) (kind : ℕ) (x : List ℕ) → minor ≤ NEWEST_MINOR → kind ≤ 6
    → length x < 2 ^ 32 → length x ≤ limit
    → GoodHeader limit (front order minor kind ++ bytes_of order 4 (length x) ++ x) minor order kind (length x)
sealed_good limit minor order kind x newest known short small = record {
  whole = omega (arith, length-append (bytes_of order 4 (length x)) x, length-bytes_of order 4 (length x));
  magic = record { g = refl; i = refl; o = refl; p = refl };
  version = record { major = refl; minor = newest };
  minor_octet = refl;
  unfragmented = λ f. whole_flag order f.flag;
  order_octet = flag_tells order;
  type_octet = (refl, known);
  size_field = number_back order (length x) x short;
  within = small;
}

-- what a start and a body behind it become
pub sealed_message : (limit minor : ℕ) (order : Order) (kind : ℕ) (start back body : List ℕ)
    → start ≡ header_written order minor kind ++ back → minor ≤ NEWEST_MINOR → kind ≤ 6
    → length (start ++ body) < 2 ^ 32
    → length (start ++ body) ≤ limit + 12
    → GoodHeader limit (seal_size order (start ++ body)) minor order kind (length (start ++ body) - 12)
sealed_message limit minor order kind start back body e newest known short small =
    let x = back ++ body in
    let long : length (start ++ body) ≡ 12 + length x =
    ap (λ (s : List ℕ). length (s ++ body)) e
    ∙ (let n : length (header_written order minor kind ++ x) ≡ 12 + length x =
    omega (arith, length-append (header_written order minor kind) x) in
    n) in
    let size : length x ≡ length (start ++ body) - 12 = omega (arith, long) in
    let parts : front order minor kind ++ bytes_of order 4 (length x) ++ x ≡ seal_size order (start ++ body) =
    sym (ap (λ (s : List ℕ). seal_size order (s ++ body)) e ∙ sealed_parts order minor kind x) in
    let good =
    sealed_good limit minor order kind x newest known (omega (arith, long, short)) (omega (arith, long, small)) in
    subst (λ (n : ℕ). GoodHeader limit (seal_size order (start ++ body)) minor order kind n) size
    (subst (λ (m : List ℕ). GoodHeader limit m minor order kind (length x)) parts good)

-- behind the header stands what was written there
behind_sealed : (order : Order) (minor kind : ℕ) (start back body : List ℕ)
    → start ≡ header_written order minor kind ++ back
    → drop 12 (seal_size order (start ++ body)) ≡ back ++ body
behind_sealed order minor kind start back body e =
    let x = back ++ body in
    ap (λ (s : List ℕ). drop 12 (seal_size order (s ++ body))) e ∙ ap (drop 12) (sealed_parts order minor kind x)
    ∙ drop_at (bytes_of order 4 (length x)) x 4 (length-bytes_of order 4 (length x))

-- ---- what is written of a head spells it

abbrev IsWritten : {Y : Type 0} → Sound CdrFault Y → Y → Type 0
IsWritten g v = (order : Order) (place : ℕ) → g.format.spells order place v (g.format.writes v order place)

both-written : {X Y : Type 0} (f : Sound CdrFault X) (g : Sound CdrFault Y) (v : X) (w : Y) → IsWritten f v
    → IsWritten g w → IsWritten (f & g) (v, w)
both-written f g v w s t order place =
    let front = f.format.writes v order place in
    let there = place + length front in
    record {
      front = front;
      back = g.format.writes w order there;
      parts = refl;
      spelled = s order place;
      then_spelled = t order there;
    }

ulong-written : (v : ℕ) → v < 2 ^ 32 → IsWritten ulong v
ulong-written v small order place = written_number-spelled 4 order place v small

octets-written : (v : List ℕ) → length v < 2 ^ 32 → IsWritten octets v
octets-written v short order place = written_octets-spelled order place v short

no_contexts-written : IsWritten contexts tt
no_contexts-written order place =
    let count = ulong.format.writes 0 order place in (
      [],
      record {
        front = count;
        back = [];
        parts = refl;
        spelled = ulong-written 0 (omega arith) order place;
        then_spelled = (refl, refl);
      },
    )

no_principal-written : IsWritten principal tt
no_principal-written order place = ([], octets-written [] (omega arith) order place)

octet-written : (v : ℕ) → v < 2 ^ 8 → IsWritten octet v
octet-written v small order place = written_number-spelled 1 order place v small

reserved-written : (minor : ℕ) → IsWritten (reserved_field minor) tt
reserved-written zero order place = (refl, refl)
reserved-written (suc newer) order place =
    let zero-written = octet-written 0 (omega arith) in (
      (0, (0, 0)),
      both-written octet (octet & octet) 0 (0, 0) zero-written (both-written octet octet 0 0 zero-written zero-written)
          order place,
    )

request-written : (minor : ℕ) (v : Request) → v.id < 2 ^ 32 → length v.key < 2 ^ 32 → length v.operation + 1 < 2 ^ 32
    → HasNoNul v.operation → IsWritten (request minor) v
request-written minor v small short brief free =
    both-written contexts (ulong & boolean & reserved_field minor & octets & text & principal) tt
    (v.id, (v.answered, (tt, (v.key, (v.operation, tt))))) no_contexts-written
    (both-written ulong (boolean & reserved_field minor & octets & text & principal) v.id
    (v.answered, (tt, (v.key, (v.operation, tt)))) (ulong-written v.id small)
    (both-written boolean (reserved_field minor & octets & text & principal) v.answered (tt, (v.key, (v.operation, tt)))
    (λ order place. written_boolean-spelled order place v.answered)
    (both-written (reserved_field minor) (octets & text & principal) tt (v.key, (v.operation, tt)) (reserved-written minor)
    (both-written octets (text & principal) v.key (v.operation, tt) (octets-written v.key short)
    (both-written text principal v.operation tt
    (λ order place. written_string-spelled order place v.operation free brief) no_principal-written)))))

reply-written : (v : Reply) → v.id < 2 ^ 32 → v.status < 2 ^ 32 → IsWritten reply v
reply-written v small low =
    both-written contexts (ulong & ulong) tt (v.id, v.status) no_contexts-written
    (both-written ulong ulong v.id v.status (ulong-written v.id small) (ulong-written v.status low))

-- ---- a head is read back

head_back : {Y : Type 0} (g : Sound CdrFault Y) (order : Order) (minor kind : ℕ) (v : Y) (body : List ℕ) → IsWritten g v
    → g.format.reads (behind_header order (seal_size order (message minor kind (g.format.writes v) order ++ body)))
    ≡ Ok (v, at_body order (message minor kind (g.format.writes v) order) body)
head_back {Y = Y} g order minor kind v body w =
    let b = g.format.writes v order 12 in
    let start = message minor kind (g.format.writes v) order in
    let m = seal_size order (start ++ body) in
    let rest : drop 12 m ≡ b ++ body = behind_sealed order minor kind start b body refl in
    let read = g.lawful.only (behind_header order m) v b body (omega arith) (w order 12) rest in
    let place : 12 + length b ≡ length start = omega (arith, length-append (header_written order minor kind) b) in
    let left : drop (length b) (drop 12 m) ≡ body = ap (drop (length b)) rest ∙ drop_at b body (length b) refl in
    let answered : List ℕ → ℕ → Result (Y × At) CdrFault =
    λ r n. Ok (v, record { rest = r; place = n; origin = 0; order = order }) in
    read ∙ ap (λ (r : List ℕ). answered r (12 + length b)) left ∙ ap (answered body) place

alone_back : {Y : Type 0} (g : Sound CdrFault Y) (order : Order) (minor kind : ℕ) (v : Y) → IsWritten g v
    → alone (g.format.reads (behind_header order (seal_size order (message minor kind (g.format.writes v) order)))) ≡ Ok v
alone_back g order minor kind v w =
    let b = g.format.writes v order 12 in
    let start = message minor kind (g.format.writes v) order in
    let rest : drop 12 (seal_size order start) ≡ b ++ [] =
    sym (ap (λ (m : List ℕ). drop 12 (seal_size order m)) (append-nil start))
    ∙ behind_sealed order minor kind start b [] refl in
    (read-alone g).only (behind_header order (seal_size order start)) v b [] (omega arith) (w order 12) rest

-- ---- each message

pub request_back : (order : Order) (minor id : ℕ) (answered : Bool) (key operation body : List ℕ) → id < 2 ^ 32
    → length key < 2 ^ 32 → length operation + 1 < 2 ^ 32 → HasNoNul operation
    → request_at minor
    (behind_header order (seal_size order (request_start order minor id answered key operation ++ body)))
    ≡ Ok (
      record { id = id; answered = answered; key = key; operation = operation },
      at_body order (request_start order minor id answered key operation) body,
    )
unfolding request_at request_start
request_back order minor id answered key operation body small short brief free =
    let v : Request = record { id = id; answered = answered; key = key; operation = operation } in
    head_back (request minor) order minor REQUEST v body (request-written minor v small short brief free)

pub reply_back : (order : Order) (minor id status : ℕ) (body : List ℕ) → id < 2 ^ 32 → status < 2 ^ 32
    → reply_at (behind_header order (seal_size order (reply_start order minor id status ++ body)))
    ≡ Ok (record { id = id; status = status }, at_body order (reply_start order minor id status) body)
unfolding reply_at reply_start
reply_back order minor id status body small low =
    let v : Reply = record { id = id; status = status } in
    head_back reply order minor REPLY v body (reply-written v small low)

pub locate_back : (order : Order) (minor id : ℕ) (key : List ℕ) → id < 2 ^ 32 → length key < 2 ^ 32
    → locate_at (behind_header order (seal_size order (locate_written order minor id key))) ≡ Ok (id, key)
unfolding locate_at locate_written
locate_back order minor id key small short =
    alone_back locate_request order minor LOCATE_REQUEST (id, key)
    (both-written ulong octets id key (ulong-written id small) (octets-written key short))

pub locate_reply_back : (order : Order) (minor id status : ℕ) → id < 2 ^ 32 → status < 2 ^ 32
    → locate_reply_at (behind_header order (seal_size order (locate_reply_written order minor id status)))
    ≡ Ok (id, status)
unfolding locate_reply_at locate_reply_written
locate_reply_back order minor id status small low =
    alone_back locate_reply order minor LOCATE_REPLY (id, status)
    (both-written ulong ulong id status (ulong-written id small) (ulong-written status low))

-- ---- each is a whole good message

pub request_whole : (order : Order) (minor id : ℕ) (answered : Bool) (key operation body : List ℕ) (limit : ℕ)
    → minor ≤ NEWEST_MINOR
    → IsSealed limit minor order REQUEST (request_start order minor id answered key operation ++ body)
unfolding request_start
request_whole order minor id answered key operation body limit newest =
    record {
      good = sealed_message limit minor order REQUEST (request_start order minor id answered key operation)
          ((request minor).format.writes (record { id = id; answered = answered; key = key; operation = operation }) order 12)
          body refl newest (omega arith);
    }

pub reply_whole : (order : Order) (minor id status : ℕ) (body : List ℕ) (limit : ℕ)
    → minor ≤ NEWEST_MINOR → IsSealed limit minor order REPLY (reply_start order minor id status ++ body)
unfolding reply_start
reply_whole order minor id status body limit newest =
    record {
      good = sealed_message limit minor order REPLY (reply_start order minor id status)
          (reply.format.writes (record { id = id; status = status }) order 12) body refl newest (omega arith);
    }

sealed_alone : (order : Order) (minor kind : ℕ) (whole back : List ℕ) (limit : ℕ)
    → whole ≡ header_written order minor kind ++ back
    → minor ≤ NEWEST_MINOR → kind ≤ 6 → IsSealed limit minor order kind whole
sealed_alone order minor kind whole back limit e newest known =
    subst (λ (m : List ℕ). IsSealed limit minor order kind m) (append-nil whole)
    (record { good = sealed_message limit minor order kind whole back [] e newest known })

pub locate_whole : (order : Order) (minor id : ℕ) (key : List ℕ) (limit : ℕ)
    → minor ≤ NEWEST_MINOR → IsSealed limit minor order LOCATE_REQUEST (locate_written order minor id key)
unfolding locate_written
locate_whole order minor id key limit newest =
    sealed_alone order minor LOCATE_REQUEST (locate_written order minor id key)
    (locate_request.format.writes (id, key) order 12)
    limit refl newest (omega arith)

pub locate_reply_whole : (order : Order) (minor id status : ℕ) (limit : ℕ)
    → minor ≤ NEWEST_MINOR → IsSealed limit minor order LOCATE_REPLY (locate_reply_written order minor id status)
unfolding locate_reply_written
locate_reply_whole order minor id status limit newest =
    sealed_alone order minor LOCATE_REPLY (locate_reply_written order minor id status)
    (locate_reply.format.writes (id, status) order 12) limit refl newest (omega arith)

pub plain_whole : (order : Order) (kind : ℕ) (limit : ℕ) → kind ≤ 6
    → IsSealed limit 0 order kind (header_written order 0 kind)
plain_whole order kind limit known =
    sealed_alone order 0 kind (header_written order 0 kind) [] limit refl (omega arith) known
