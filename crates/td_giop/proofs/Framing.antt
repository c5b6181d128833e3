-- The whole message in front of a stream.
use Rattle.std.specs.Global.{Vec}
use Rattle.std.proofs.Common.{vec_capacity, ◌⊎◌, inl, inr, ◌^◌, min, ◌≡◌, ℕ, ◌+◌, ◌-◌, ◌<◌, ◌≤◌, ltb, List, ◌++◌}
use Rattle.std.proofs.Common.{length, take, slice_index, Option, Some, None, Result, Ok, Err, refl, sym, ap, subst, ◌∙◌}
use Rattle.std.proofs.Common.{arith, length-append, append_assoc}
use Rattle.std.proofs.lemmas.Bool.{ltb-false, le-ltb}
use Rattle.std.proofs.lemmas.List.{take_at}
use Rattle.std.proofs.Math.Seq.{take-length}
use Rattle.td_cdr.specs.declared.order.Order.{Order}
use Rattle.td_giop.specs.declared.fault.FrameFault.{FrameFault}
use Rattle.td_giop.specs.declared.header.Header.{Header}
use Rattle.td_giop.specs.Header.{GoodHeader, header_at, JudgesHeader, order_of_flag}
use Rattle.td_giop.specs.declared.raw.Raw.{Raw}
use Rattle.td_giop.specs.Stream.{Stream, first_at, whole_within, IsFrontOfStream}
use Rattle.td_giop.specs.FramerLends.{IsRaw}
use Rattle.td_giop.proofs.Cond.{cond_case}
use Rattle.td_giop.proofs.Judged.{judged, only_content, header_at-append, octet-append}

abbrev header_result : Type 0
header_result = Result (Option Header) FrameFault

abbrev size_result : Type 0
size_result = Result (Option ℕ) FrameFault

abbrev is_size : ℕ → size_result
is_size n = Ok (Some n)

pub same_size : (m n : ℕ) → is_size m ≡ is_size n → m ≡ n
same_size m n e = cc

-- a size was told because a header was there, and so many bytes had come
record Sized (held n : ℕ) (r : header_result) : Type 0 where
  pub header : Header
  pub was : r ≡ Ok (Some header)
  pub size : n ≡ 12 + header.size
  pub within : n ≤ held

sized : (held n : ℕ) (r : header_result) → whole_within held r ≡ Ok (Some n) → Sized held n r
sized held n (Err f) e = absurd cc
sized held n (Ok None) e = absurd cc
sized held n (Ok (Some h)) e =
    cond_case (λ (r : size_result). r ≡ Ok (Some n) → Sized held n (Ok (Some h)))
    (ltb held (12 + h.size)) (Ok None) (Ok (Some (12 + h.size)))
    (λ _ x. absurd cc)
    (λ fits x. let m : 12 + h.size ≤ held = ltb-false _ _ fits in let k = same_size (12 + h.size) n x in
    record { header = h; was = refl; size = sym k; within = omega (arith, k, m) })
    e

-- the header in front, and that so many bytes have come
pub record Whole (limit : ℕ) (s : List ℕ) (n : ℕ) : Type 0 where
  pub header : Header
  pub was : header_at limit s ≡ Ok (Some header)
  pub good : GoodHeader limit s header.minor header.order header.kind header.size
  pub size : n ≡ 12 + header.size
  pub within : n ≤ length s

pub whole : (limit : ℕ) (s : List ℕ) (n : ℕ) → first_at limit s ≡ Ok (Some n) → Whole limit s n
unfolding first_at
whole limit s n e =
    let w = sized (length s) n (header_at limit s) e in
    record {
      header = w.header;
      was = w.was;
      good = subst (JudgesHeader limit s) w.was (judged limit s);
      size = w.size;
      within = w.within;
    }

-- where a header and so many bytes are there, the size is told
pub first_of : (limit : ℕ) (s : List ℕ) (h : Header) → header_at limit s ≡ Ok (Some h) → 12 + h.size ≤ length s
    → first_at limit s ≡ Ok (Some (12 + h.size))
unfolding first_at
first_of limit s h e fits = rw (e, le-ltb (length s) (12 + h.size) fits) refl

bad_case : (held : ℕ) (f : FrameFault) (r : header_result) → whole_within held r ≡ Err f → r ≡ Err f
bad_case held f (Err g) e = cc
bad_case held f (Ok None) e = absurd cc
bad_case held f (Ok (Some h)) e =
    cond_case (λ (r : size_result). r ≡ Err f → Ok (Some h) ≡ Err f) (ltb held (12 + h.size)) (Ok None)
    (Ok (Some (12 + h.size)))
    (λ _ x. absurd cc) (λ _ x. absurd cc) e

-- a bad header was judged so
pub bad_header : (limit : ℕ) (s : List ℕ) (f : FrameFault) → first_at limit s ≡ Err f → header_at limit s ≡ Err f
unfolding first_at
bad_header limit s f e = bad_case (length s) f (header_at limit s) e

pub bad_first : (limit : ℕ) (s : List ℕ) (f : FrameFault) → header_at limit s ≡ Err f → first_at limit s ≡ Err f
unfolding first_at
bad_first limit s f e = rw e refl

-- ---- what is in front stays there, whatever follows

pub first-append : (limit : ℕ) (s p : List ℕ) (n : ℕ) → first_at limit s ≡ Ok (Some n)
    → first_at limit (s ++ p) ≡ Ok (Some n)
first-append limit s p n e =
    let w = whole limit s n e in
    let there = header_at-append limit s p w.good.whole ∙ w.was in
    let fits : 12 + w.header.size ≤ length (s ++ p) = omega (arith, w.size, w.within, length-append s p) in
    first_of limit (s ++ p) w.header there fits ∙ ap is_size (sym w.size)

pub bad-append : (limit : ℕ) (s p : List ℕ) (f : FrameFault) → first_at limit s ≡ Err f
    → first_at limit (s ++ p) ≡ Err f
bad-append limit s p f e =
    let h = bad_header limit s f e in
    let there = subst (JudgesHeader limit s) h (judged limit s) in
    bad_first limit (s ++ p) f (header_at-append limit s p there.0 ∙ h)

-- ---- the framer

abbrev is_header : Header → header_result
is_header h = Ok (Some h)

abbrev header_of : ℕ → Order → ℕ → ℕ → Header
header_of kind order size minor = record { kind = kind; order = order; size = size; minor = minor }

pub same_header : (h : Header) (kind : ℕ) (order : Order) (size minor : ℕ) → h.kind ≡ kind → h.order ≡ order
    → h.size ≡ size → h.minor ≡ minor → h ≡ record { kind = kind; order = order; size = size; minor = minor }
same_header h kind order size minor p q r t =
    ap (λ (x : ℕ). header_of x h.order h.size h.minor) p ∙ ap (λ (x : Order). header_of kind x h.size h.minor) q
    ∙ ap (λ (x : ℕ). header_of kind order x h.minor) r ∙ ap (header_of kind order size) t

-- what the ring holds once a piece fitted in
pub filled : (old kept new piece : List ℕ) (count room : ℕ) → count ≡ min (length piece) (room - length kept)
    → new ≡ kept ++ take count piece → kept ≡ old → length old + length piece ≤ room → new ≡ old ++ piece
filled old kept new piece count room e f g fits =
    let all : count ≡ length piece = omega (arith, e, fits, ap (length {A = ℕ}) g) in
    f ∙ ap (λ (x : List ℕ). x ++ take count piece) g ∙ ap (λ (n : ℕ). old ++ take n piece) all
    ∙ ap (λ (x : List ℕ). old ++ x) (take-length piece)

-- a piece goes behind what the ring held
pub fed : (limit : ℕ) (message : Vec ℕ) (old ring piece : List ℕ)
    → (length message.items ≡ 0) ⊎ (first_at limit (message.items ++ old) ≡ Ok (Some (length message.items)))
    → ring ≡ old ++ piece → length ring ≤ vec_capacity message → IsFrontOfStream limit message ring
fed limit message old ring piece (inl empty) e room = record { front = inl empty; room = room }
fed limit message old ring piece (inr front) e room =
    let there : first_at limit (message.items ++ ring) ≡ Ok (Some (length message.items)) =
    rw e (rw (← append_assoc message.items old piece)
    (first-append limit (message.items ++ old) piece (length message.items) front)) in
    record { front = inr there; room = room }

pub bounded : (start : ℕ) (message old piece kept ring : List ℕ) → kept ≡ message → ring ≡ old ++ piece
    → start + (length (message ++ old) + length piece) < 2 ^ 64 → start + length (kept ++ ring) < 2 ^ 64
bounded start message old piece kept ring e f h =
    let long : length (kept ++ ring) ≡ length (message ++ old) + length piece =
    rw (e, f) (rw (← append_assoc message old piece) (length-append (message ++ old) piece)) in
    omega (arith, long, h)

-- what is lent is the message in front, with what its header tells
pub is_raw : (s : Stream) (message ring : List ℕ) (m : Raw) → s.rest ≡ message ++ ring
    → first_at s.limit s.rest ≡ Ok (Some (length message)) → m.bytes.now ≡ message → m.start ≡ s.start
    → m.kind ≡ slice_index message 7 → m.order ≡ order_of_flag (slice_index message 6)
    → m.minor ≡ slice_index message 5 → IsRaw s m
is_raw s message ring m parts first bytes place kind order minor =
    let w = whole s.limit s.rest (length message) first in
    let long : 12 ≤ length message = omega (arith, w.size) in
    let kind_is : w.header.kind ≡ m.kind =
    sym w.good.type_octet.0 ∙ ap (λ (x : List ℕ). slice_index x 7) parts
    ∙ octet-append message ring 7 long (omega arith) ∙ sym kind in
    let order_is : w.header.order ≡ m.order =
    only_content (slice_index s.rest 6) w.header.order w.good.order_octet
    ∙ ap (λ (x : List ℕ). order_of_flag (slice_index x 6)) parts
    ∙ ap order_of_flag (octet-append message ring 6 long (omega arith)) ∙ sym order in
    let minor_is : w.header.minor ≡ m.minor =
    sym w.good.minor_octet ∙ ap (λ (x : List ℕ). slice_index x 5) parts
    ∙ octet-append message ring 5 long (omega arith) ∙ sym minor in
    let size_is : w.header.size ≡ length message - 12 = omega (arith, w.size) in
    let header_is =
    same_header w.header m.kind m.order (length message - 12) m.minor kind_is order_is size_is minor_is in
    record {
      whole = rw bytes first;
      bytes = rw (bytes, parts) (sym (take_at message ring (length message) refl));
      header = rw bytes (w.was ∙ ap is_header header_is);
      place = place;
      least = rw bytes long;
      most = omega (arith, ap (length {A = ℕ}) bytes, w.size, w.good.within);
    }
