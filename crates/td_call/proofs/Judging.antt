-- What the message in front comes to, whatever follows it.
use Rattle.std.proofs.Common.{◌≡◌, ◌∙◌, ℕ, ◌+◌, ◌-◌, ◌≤◌, Bool, true, false, cond, nat_lt, List, ◌++◌, length, take}
use Rattle.std.proofs.Common.{Option, Some, None, Result, Ok, Err, refl, sym, ap, subst, arith, le-ltb, length-append}
use Rattle.std.proofs.lemmas.List.{take-append-le}
use Rattle.td_cdr.specs.declared.order.Order.{Order}
use Rattle.td_giop.specs.FramerLends.{IsRaw}
use Rattle.td_giop.specs.Header.{header_at, JudgesHeader}
use Rattle.td_giop.specs.Heads.{IsReadable}
use Rattle.td_giop.specs.Stream.{Stream, first_at, whole_within}
use Rattle.td_giop.specs.declared.fault.FrameFault.{FrameFault}
use Rattle.td_giop.specs.declared.header.Header.{Header}
use Rattle.td_giop.specs.declared.raw.Raw.{Raw}
use Rattle.td_giop.proofs.Framing.{whole, bad_header}
use Rattle.td_giop.proofs.Judged.{judged, header_at-append}
use Rattle.td_walk.specs.declared.fault.PeerFault.{PeerFault}
use Rattle.td_walk.specs.declared.fault.PeerFault.TheVariants as fault
use Rattle.td_call.specs.Replies.{Reading, ReplyResult, strange, short, comes_of, message_read, by_header, reply_value}
use Rattle.td_call.specs.Replies.{reply_limit}
use Rattle.td_call.specs.Fetching.{IsReadOrFault, ReadsFront}

-- what is in front, by the limit of a client
pub at_limit : (s : Stream) (r : Result (Option ℕ) FrameFault) → s.limit ≡ reply_limit → first_at s.limit s.rest ≡ r
    → first_at reply_limit s.rest ≡ r
at_limit s r limited e = subst (λ (n : ℕ). first_at n s.rest ≡ r) limited e

-- ---- a whole message

pub readable : (s : Stream) (m : Raw) → s.limit ≡ reply_limit → IsRaw s m → IsReadable m.bytes.now
readable s m limited raw = record {
  header = raw.least;
  places = let most = raw.most in omega (arith, limited, most);
}

by_whole : {A : Type 0} (reads : Reading A) (id : ℕ) (given message : List ℕ) (kind : ℕ) (order : Order)
    (body size minor : ℕ)
    → 12 + body ≡ size → nat_lt (length given) size ≡ false → take size given ≡ message
    → by_header reads id given (Ok (Some (record { kind = kind; order = order; size = body; minor = minor })))
    ≡ comes_of (message_read reads id kind order message) size
by_whole reads id given message kind order body size minor total fits front =
    ap (λ (n : ℕ). cond (nat_lt (length given) n) short (comes_of (message_read reads id kind order (take n given)) n))
    total
    ∙ ap (λ (b : Bool). cond b short (comes_of (message_read reads id kind order (take size given)) size)) fits
    ∙ ap (λ (x : List ℕ). comes_of (message_read reads id kind order x) size) front

pub first_of_raw : (s : Stream) (m : Raw) → s.limit ≡ reply_limit → IsRaw s m
    → first_at reply_limit s.rest ≡ Ok (Some (length m.bytes.now))
first_of_raw s m limited raw =
    subst (λ (n : ℕ). first_at n s.rest ≡ Ok (Some (length m.bytes.now))) limited raw.whole

front_content : {A : Type 0} (reads : Reading A) (id : ℕ) (s : Stream) (m : Raw) (more : List ℕ) → s.limit ≡ reply_limit
    → IsRaw s m
    → reply_value reads id (s.rest ++ more)
    ≡ comes_of (message_read reads id m.kind m.order m.bytes.now) (length m.bytes.now)
unfolding reply_value
front_content reads id s m more limited raw =
    let size : ℕ = length m.bytes.now in
    let w = whole reply_limit s.rest size (first_of_raw s m limited raw) in
    let within : size ≤ length s.rest = w.within in
    let content : Header = record { kind = m.kind; order = m.order; size = size - 12; minor = m.minor } in
    let header : header_at reply_limit s.rest ≡ Ok (Some content) =
    subst (λ (n : ℕ). header_at n s.rest ≡ Ok (Some content)) limited raw.header in
    let there : header_at reply_limit (s.rest ++ more) ≡ Ok (Some content) =
    header_at-append reply_limit s.rest more w.good.whole ∙ header in
    let total : 12 + (size - 12) ≡ size = let least = raw.least in omega (arith, least) in
    let fits : nat_lt (length (s.rest ++ more)) size ≡ false =
    le-ltb (length (s.rest ++ more)) size (omega (arith, within, length-append s.rest more)) in
    let front : take size (s.rest ++ more) ≡ m.bytes.now =
    take-append-le size s.rest more within ∙ sym raw.bytes in
    ap (by_header reads id (s.rest ++ more)) there
    ∙ by_whole reads id (s.rest ++ more) m.bytes.now m.kind m.order (size - 12) size m.minor total fits front

pub reads_message : {A : Type 0} (reads : Reading A) (id : ℕ) (s : Stream) (m : Raw) (result : Result A PeerFault)
    → s.limit ≡ reply_limit → IsRaw s m → IsReadOrFault (message_read reads id m.kind m.order m.bytes.now) result
    → ReadsFront reads id s.rest result
reads_message {A = A} reads id s m (Ok a) limited raw read = (
  length m.bytes.now,
  first_of_raw s m limited raw,
  λ more. front_content reads id s m more limited raw ∙ ap (λ (o : Option A). comes_of o (length m.bytes.now)) read,
)
reads_message {A = A} reads id s m (Err fault.Grammar) limited raw read =
    λ more. front_content reads id s m more limited raw ∙ ap (λ (o : Option A). comes_of o (length m.bytes.now)) read
reads_message reads id s m (Err fault.Memory) limited raw read = tt
reads_message reads id s m (Err fault.Wire) limited raw read = absurd read
reads_message reads id s m (Err fault.Exception) limited raw read = absurd read

-- ---- none

pub bad_front : {A : Type 0} (reads : Reading A) (id : ℕ) (held more : List ℕ) (f : FrameFault)
    → first_at reply_limit held ≡ Err f → reply_value reads id (held ++ more) ≡ strange
unfolding reply_value
bad_front reads id held more f e =
    let h = bad_header reply_limit held f e in
    let long = (subst (JudgesHeader reply_limit held) h (judged reply_limit held)).0 in
    ap (by_header reads id (held ++ more)) (header_at-append reply_limit held more long ∙ h)

pub reads_bad : {A : Type 0} (reads : Reading A) (id : ℕ) (s : Stream) (f : FrameFault) → s.limit ≡ reply_limit
    → first_at s.limit s.rest ≡ Err f → ReadsFront {A = A} reads id s.rest (Err fault.Grammar)
reads_bad reads id s f limited e =
    λ more. bad_front reads id s.rest more f (subst (λ (n : ℕ). first_at n s.rest ≡ Err f) limited e)

-- the size of a message of so many bytes, where these have come
abbrev size_when : (too_few : Bool) → ℕ → Result (Option ℕ) FrameFault
size_when too_few size = cond too_few (Ok None) (Ok (Some size))

-- the bytes end before a message is whole
pub short_front : {A : Type 0} (reads : Reading A) (id : ℕ) (held : List ℕ) → first_at reply_limit held ≡ Ok None
    → reply_value reads id held ≡ short
unfolding reply_value first_at
short_front {A = A} reads id held e = by_result (header_at reply_limit held) e
  where
    by_size : (b : Bool) (n : ℕ) (other : ReplyResult A) → size_when b n ≡ Ok None → cond b short other ≡ short
    by_size true n other e = refl
    by_size false n other e = absurd cc

    by_result : (r : Result (Option Header) FrameFault) → whole_within (length held) r ≡ Ok None
        → by_header reads id held r ≡ short
    by_result (Err f) e = absurd cc
    by_result (Ok None) e = refl
    by_result (Ok (Some h)) e = by_size (nat_lt (length held) (12 + h.size)) (12 + h.size) _ e
