-- Bytes that come in pieces, until a whole message is held.
use Rattle.std.proofs.Common.{◌≡◌, ◌∙◌, ℕ, ◌+◌, ◌-◌, ◌<◌, ◌≤◌, ◌^◌, Bool, true, false, cond, ltb}
use Rattle.std.proofs.Common.{ltb-true, List, ◌++◌, length, Option, Some, None, Result, Ok, Err, refl}
use Rattle.std.proofs.Common.{sym, ap, subst, arith, append_assoc, length-append, take, MatchBool}
use Rattle.std.proofs.lemmas.List.{length-take-le}
use Rattle.td_giop.specs.Header.{JudgesHeader, header_at}
use Rattle.td_giop.specs.Stream.{Stream, first_at, whole_within}
use Rattle.td_giop.specs.declared.fault.FrameFault.{FrameFault}
use Rattle.td_giop.specs.declared.header.Header.{Header}
use Rattle.td_giop.proofs.Framing.{bad-append}
use Rattle.td_giop.proofs.Judged.{judged}
use Rattle.td_walk.specs.declared.fault.PeerFault.TheVariants as fault
use Rattle.td_wire.specs.Connections.{Traffic, GivesFront, left_of}
use Rattle.td_wire.proofs.Steps.{gives_more}
use Rattle.td_call.specs.Replies.{reply_limit}
use Rattle.td_call.specs.Fetching.{FetchesBytes, Tries, Fetches, IsWhole, piece_size}

abbrev with_rest : Stream → List ℕ → Stream
with_rest s rest = record s { rest = rest }

-- the most bytes that are held before a whole message is found: a header, what may follow it, and a piece
abbrev pub most_held : ℕ
most_held = 67117068

-- what came so far
pub record Held (old now : Stream) (before after : Option Traffic) (f0 f1 : ℕ) : Type 0 where
  pub brought : FetchesBytes old now before after
  pub later : f0 ≤ f1
  pub room : length now.rest ≤ length old.rest + most_held

-- ---- where no message is whole, fewer bytes are held than one may have

abbrev size_when : (too_few : Bool) → ℕ → Result (Option ℕ) FrameFault
size_when too_few size = cond too_few (Ok None) (Ok (Some size))

too_few : (b : Bool) (n : ℕ) → size_when b n ≡ Ok None → b ≡ true
too_few true n e = refl
too_few false n e = absurd cc

pub unfinished : (held : List ℕ) → first_at reply_limit held ≡ Ok None → length held < 12 + reply_limit
unfolding first_at
unfinished held e = by_result (header_at reply_limit held) (judged reply_limit held) e
  where
    by_result : (r : Result (Option Header) FrameFault) → JudgesHeader reply_limit held r
        → whole_within (length held) r ≡ Ok None → length held < 12 + reply_limit
    by_result (Err f) j e = absurd cc
    by_result (Ok None) j e = omega (arith, j)
    by_result (Ok (Some h)) j e =
        let few : length held < 12 + h.size =
        ltb-true (length held) (12 + h.size) (too_few (ltb (length held) (12 + h.size)) (12 + h.size) e) in
        let within = j.within in omega (arith, few, within)

-- ---- one piece more

rest_of : (old now : Stream) (piece : List ℕ) → now ≡ record old { rest = old.rest ++ piece }
    → now.rest ≡ old.rest ++ piece
rest_of old now piece e = ap (λ (s : Stream). s.rest) e

brought_more : (old now new : Stream) (before mid after : Option Traffic) → FetchesBytes old now before mid
    → FetchesBytes now new mid after → FetchesBytes old new before after
brought_more old now new before mid after a b = record {
  piece = a.piece ++ b.piece;
  held =
      b.held ∙ ap (λ (s : Stream). record s { rest = s.rest ++ b.piece }) a.held
      ∙ ap (with_rest old) (append_assoc old.rest a.piece b.piece);
  gives = gives_more a.piece b.piece before mid after a.gives b.gives;
}

pub held_more : (old now new : Stream) (before mid after : Option Traffic) (f0 f1 f2 : ℕ)
    → Held old now before mid f0 f1 → first_at reply_limit now.rest ≡ Ok None → f1 ≤ f2
    → Tries now new mid after f1 f2 (Ok true) → Held old new before after f0 f2
held_more old now new before mid after f0 f1 f2 held not_whole later tried =
    let size : length new.rest ≡ length now.rest + length tried.0.piece =
    ap (length {A = ℕ}) (rest_of now new tried.0.piece tried.0.held) ∙ length-append now.rest tried.0.piece in
    let few = unfinished now.rest not_whole in
    let most = tried.2 in
    record {
      brought = brought_more old now new before mid after held.brought tried.0;
      later = let first = held.later in omega (arith, first, later);
      room = omega (arith, size, few, most);
    }

-- more is held, and what may still come is less
pub held_closer : (old now new : Stream) (before mid after : Option Traffic) (f0 f1 f2 : ℕ)
    → Held old now before mid f0 f1 → first_at reply_limit now.rest ≡ Ok None
    → Tries now new mid after f1 f2 (Ok true)
    → length old.rest + most_held - length new.rest < length old.rest + most_held - length now.rest
held_closer old now new before mid after f0 f1 f2 held not_whole tried =
    let size : length new.rest ≡ length now.rest + length tried.0.piece =
    ap (length {A = ℕ}) (rest_of now new tried.0.piece tried.0.held) ∙ length-append now.rest tried.0.piece in
    let few = unfinished now.rest not_whole in
    let some = tried.1 in omega (arith, size, few, some)

-- what one read gave
pub brought_piece : (old new : Stream) (before after : Option Traffic) (f0 f1 : ℕ) (filled : List ℕ) (n : ℕ)
    → GivesFront (take n filled) before after → n ≤ length filled → length filled ≤ piece_size → 0 < n
    → new ≡ record old { rest = old.rest ++ take n filled } → Tries old new before after f0 f1 (Ok true)
brought_piece old new before after f0 f1 filled n gives bound room some is =
    let size : length (take n filled) ≡ n = length-take-le n filled bound in (
      record { piece = take n filled; held = is; gives = gives },
      omega (arith, size, some),
      omega (arith, size, bound, room),
    )

-- the framer after a try that gave a piece, where no message was whole before it
pub tried_more : (now mid new : Stream) (before after : Option Traffic) (f0 f1 : ℕ) (b : Bool) → mid ≡ now → b ≡ true
    → Tries mid new before after f0 f1 (Ok b) → Tries now new before after f0 f1 (Ok true)
tried_more now mid new before after f0 f1 b is some tried =
    subst (λ (s : Stream). Tries s new before after f0 f1 (Ok true)) is
    (subst (λ (x : Bool). Tries mid new before after f0 f1 (Ok x)) some tried)

pub none_whole : (s : Stream) (b : Bool) → b ≡ false
    → MatchBool b (IsWhole s.rest) (first_at reply_limit s.rest ≡ Ok None) → first_at reply_limit s.rest ≡ Ok None
none_whole s false is found = found
none_whole s true is found = absurd cc

-- ---- how it ends

-- what is held and what is left are what was held and left first
pub all_given : (old now : Stream) (t : Traffic) (mid : Option Traffic) (b : FetchesBytes old now (Some t) mid)
    → old.rest ++ left_of t ≡ now.rest ++ b.gives.0
all_given old now t mid b =
    ap (λ (x : List ℕ). old.rest ++ x) b.gives.1 ∙ sym (append_assoc old.rest b.piece b.gives.0)
    ∙ ap (λ (x : List ℕ). x ++ b.gives.0) (sym (rest_of old now b.piece b.held))

pub fetched_bad : (old now : Stream) (before mid : Option Traffic) (f0 f1 : ℕ) (f : FrameFault)
    → Held old now before mid f0 f1 → first_at reply_limit now.rest ≡ Err f
    → Fetches old now before mid f0 f1 (Err fault.Grammar)
fetched_bad old now None mid f0 f1 f held bad = tt
fetched_bad old now (Some t) mid f0 f1 f held bad = (
  f,
  ap (first_at reply_limit) (all_given old now t mid held.brought)
      ∙ bad-append reply_limit now.rest held.brought.gives.0 f bad,
)

-- no more bytes came than one message may have, and a piece
pub grows_kept : (old now new : Stream) (before mid : Option Traffic) (f0 f1 : ℕ) → Held old now before mid f0 f1
    → new ≡ now → new.start + length new.rest ≤ old.start + length old.rest + 2 ^ 27
grows_kept old now new before mid f0 f1 held is =
    let place : new.start ≡ now.start = ap (λ (s : Stream). s.start) is in
    let rest : length new.rest ≡ length now.rest = ap (λ (s : Stream). length s.rest) is in
    let start : now.start ≡ old.start = ap (λ (s : Stream). s.start) held.brought.held in
    let room = held.room in omega (arith, place, rest, start, room)

pub limit_kept : (old now new : Stream) (before mid : Option Traffic) (f0 f1 : ℕ) → Held old now before mid f0 f1
    → new ≡ now → new.limit ≡ old.limit
limit_kept old now new before mid f0 f1 held is =
    ap (λ (s : Stream). s.limit) is ∙ ap (λ (s : Stream). s.limit) held.brought.held
