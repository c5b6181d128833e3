-- What bytes come to, where what a reply tells has a property.
use Rattle.std.proofs.Common.{ℕ, ◌+◌, Bool, true, false, cond, List, length, take, Option, Some, None}
use Rattle.std.proofs.Common.{option_and_then}
use Rattle.std.specs.Prelude.{IfSome, ⊤, nat_lt, Result, Ok, Err}
use Rattle.td_cdr.specs.Place.{At}
use Rattle.td_giop.specs.declared.fault.FrameFault.{FrameFault}
use Rattle.td_giop.specs.declared.header.Header.{Header}
use Rattle.td_giop.specs.declared.header.TheConstants.{HEADER_SIZE}
use Rattle.td_giop.specs.Header.{header_at}
use Rattle.td_call.specs.Replies.{ReplyResult, Reading, content, strange, short, by_header, comes_of, message_read}
use Rattle.td_call.specs.Replies.{reply_value}
use Rattle.td_call.specs.Replies.{reply_body, reply_limit}

abbrev pub AllContent : {A : Type 0} → (A → Type 0) → ReplyResult A → Type 0
AllContent P (content a size) = P a
AllContent P strange = ⊤
AllContent P short = ⊤

body_in_reply : {A : Type 0} (P : A → Type 0) (reads : Reading A) → ((status : ℕ) (a : At) → IfSome (reads status a) P)
    → (found : Option (ℕ × At)) → IfSome (option_and_then (λ (b : ℕ × At). reads b.0 b.1) found) P
body_in_reply P reads h (Some b) = h b.0 b.1
body_in_reply P reads h None = tt

comes_content : {A : Type 0} (P : A → Type 0) (found : Option A) (size : ℕ) → IfSome found P
    → AllContent P (comes_of found size)
comes_content P (Some a) size p = p
comes_content P None size p = tt

whole_content : {A : Type 0} (P : A → Type 0) (b : Bool) (x : ReplyResult A) → AllContent P x → AllContent P (cond b short x)
whole_content P true x p = tt
whole_content P false x p = p

header_content : {A : Type 0} (P : A → Type 0) (reads : Reading A) → ((status : ℕ) (a : At) → IfSome (reads status a) P)
    → (id : ℕ) (given : List ℕ) (r : Result (Option Header) FrameFault) → AllContent P (by_header reads id given r)
header_content P reads h id given (Ok (Some g)) =
    let message = take (HEADER_SIZE + g.size) given in
    whole_content P (nat_lt (length given) (HEADER_SIZE + g.size)) _
    (comes_content P (message_read reads id g.kind g.order message) (HEADER_SIZE + g.size)
    (body_in_reply P reads h (reply_body id g.kind g.order message)))
header_content P reads h id given (Ok None) = tt
header_content P reads h id given (Err f) = tt

-- what the bytes tell
pub replied_content : {A : Type 0} (P : A → Type 0) (reads : Reading A)
    → ((status : ℕ) (a : At) → IfSome (reads status a) P) → (id : ℕ) (given : List ℕ)
    → AllContent P (reply_value reads id given)
unfolding reply_value
replied_content P reads h id given = header_content P reads h id given (header_at reply_limit given)
