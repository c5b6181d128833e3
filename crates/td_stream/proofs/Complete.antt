-- A stream of whole messages to a server is served up to the first that closes the stream.
use Rattle.std.proofs.Common.{◌≡◌, ◌⊎◌, ℕ, ◌+◌, ◌<◌, Bool, true, false, cond, not, List, [], ◌∷◌, ◌++◌, All, count_by}
use Rattle.std.proofs.Common.{length, take, drop, Option, Some, None, Ok, Err, refl, sym, ap, subst, ◌∙◌, inl, inr}
use Rattle.std.proofs.Common.{arith, length-append, drop_at, one-add}
use Rattle.std.specs.List.{concat, before_first, position_or_len}
use Rattle.std.proofs.lemmas.List.{append-nil}
use Rattle.std.proofs.lemmas.List.Elements.{All-head, All-tail, All-rest}
use Rattle.std.proofs.lemmas.List.Sums.{sum_by-cons, sum_by-append}
use Rattle.std.specs.Io.KnownBytes.{Appends, Consumes, IsAtEnd}
use Rattle.td_giop.specs.declared.fault.FrameFault.{FrameFault}
use Rattle.td_giop.specs.Stream.{first_at}
use Rattle.td_giop.specs.Cut.{IsFirstMessage, Fronts}
use Rattle.td_giop.specs.Header.{JudgesHeader}
use Rattle.td_giop.proofs.Judged.{judged}
use Rattle.td_giop.proofs.Framing.{bad_header, bad-append}
use Rattle.td_giop.proofs.Cuts.{front_within, fronts_fed, message_front}
use Rattle.td_giop.proofs.Cuts.{same_front}
use Rattle.td_stream.specs.Messages.{IsForServer, is_closing, is_request, message_limit}
use Rattle.td_stream.specs.declared.end.Cause.{Cause}
use Rattle.td_stream.specs.declared.end.End.{End}
use Rattle.td_stream.specs.declared.end.End.TheVariants.{Closed, Broken, Truncated, ReadFault, WriteFault, Long}
use Rattle.td_stream.specs.declared.end.End.TheVariants.{Memory}
use Rattle.td_stream.specs.Exchanges.{MessageExchange, Run, messages_of, output, requests}
use Rattle.td_stream.specs.Outside.{Outside}
use Rattle.td_stream.specs.Steps.{MessageStep, closes, breaks, step_of}
use Rattle.td_stream.specs.Streams.{FirstHasStep, HasReason, GivesReplies, Streams, bytes_limit, request_limit}
use Rattle.td_stream.specs.Completeness.{NoneFailed, Completes}
use Rattle.td_stream.proofs.ByType.{never_breaks, closes_only, answered_open}

-- ---- messages in front of a stream

no_front : (limit : ℕ) (s m : List ℕ) → s ≡ [] → IsFirstMessage limit s m → ⊥
no_front limit s m e front =
    let w = front_within limit s m front in
    let none : length s ≡ 0 = ap (length {A = ℕ}) e in
    omega (arith, w.0, w.1, none)

-- messages one after the other stand in front of the stream that they make
fronts_of : (ms : List (List ℕ)) → All IsForServer ms → Fronts message_limit (concat ms) ms []
fronts_of [] each = refl
fronts_of (m ∷ ms) each =
    let left : drop (length m) (m ++ concat ms) ≡ concat ms = drop_at m (concat ms) (length m) refl in
    let first : IsForServer m = All-head IsForServer m ms each in (
      message_front message_limit m (concat ms) first.whole,
      subst (λ (x : List ℕ). Fronts message_limit x ms []) (sym left) (fronts_of ms (All-tail IsForServer m ms each)),
    )

-- which of a stream's messages are left, where some stand in front
record Left (limit : ℕ) (ms ns : List (List ℕ)) (rest : List ℕ) : Type 0 where
  pub more : List (List ℕ)
  pub are : ms ≡ ns ++ more
  pub fronts : Fronts limit rest more []

left_of : (limit : ℕ) (s : List ℕ) (ms ns : List (List ℕ)) (rest : List ℕ) → Fronts limit s ms []
    → Fronts limit s ns rest → Left limit ms ns rest
left_of limit s ms [] rest p q = record {
  more = ms;
  are = refl;
  fronts = subst (λ (x : List ℕ). Fronts limit x ms []) q p;
}
left_of limit s [] (n ∷ ns) rest p q = absurd (no_front limit s n p q.0)
left_of limit s (m ∷ ms) (n ∷ ns) rest p q =
    let mn = same_front limit s m n p.0 q.0 in
    let there : Fronts limit (drop (length m) s) ns rest =
    subst (λ (x : List ℕ). Fronts limit (drop (length x) s) ns rest) (sym mn) q.1 in
    let ih = left_of limit (drop (length m) s) ms ns rest p.1 there in
    record {
      more = ih.more;
      are = ap (λ (x : List ℕ). x ∷ ms) mn ∙ ap (λ (x : List (List ℕ)). n ∷ x) ih.are;
      fronts = ih.fronts;
    }

all_behind : {X : Type 0} (P : X → Type 0) (xs ys zs : List X) → xs ≡ ys ++ zs → All P xs → All P zs
all_behind P xs [] zs e h = subst (All P) e h
all_behind P xs (y ∷ ys) zs e h = all_behind P (ys ++ zs) ys zs refl (All-rest P y (ys ++ zs) xs e h)

-- ---- what stands in front of what is left

-- these messages, or nothing
abbrev Stands : List ℕ → List (List ℕ) → Type 0
Stands s [] = s ≡ []
Stands s (m ∷ more) = IsFirstMessage message_limit s m × IsForServer m

stands : (s : List ℕ) (more : List (List ℕ)) → Fronts message_limit s more [] → All IsForServer more → Stands s more
stands s [] f all = f
stands s (m ∷ more) f all = (f.0, All-head IsForServer m more all)

-- the first of them closes the stream, or there is none
abbrev AtClose : List (List ℕ) → Type 0
AtClose [] = Unit {0}
AtClose (m ∷ more) = is_closing m ≡ true

-- the message that stands in front is the first of them
the_first : (rest later : List ℕ) (step : MessageStep) (more : List (List ℕ)) → FirstHasStep rest step
    → Stands (rest ++ later) more → (P : List (List ℕ) → Type 0)
    → ((m : List ℕ) (others : List (List ℕ)) → IsForServer m → step_of m ≡ step → P (m ∷ others)) → P more
the_first rest later step [] meets there P f =
    let fed =
    fronts_fed message_limit rest later (meets.message ∷ []) (drop (length meets.message) rest)
    (meets.front, refl) in
    absurd (no_front message_limit (rest ++ later) meets.message there fed.0)
the_first rest later step (m ∷ more) meets there P f =
    let fed =
    fronts_fed message_limit rest later (meets.message ∷ []) (drop (length meets.message) rest)
    (meets.front, refl) in
    let same = same_front message_limit (rest ++ later) meets.message m fed.0 there.0 in
    f m more there.1 (sym (ap step_of same) ∙ meets.has_step)

closes_first : (rest later : List ℕ) (more : List (List ℕ)) → FirstHasStep rest closes
    → Stands (rest ++ later) more → AtClose more
closes_first rest later more meets there =
    the_first rest later closes more meets there AtClose (λ m others fit e. closes_only m fit e)

breaks_none : (rest later : List ℕ) (cause : Cause) (more : List (List ℕ))
    → FirstHasStep rest (breaks cause) → Stands (rest ++ later) more → ⊥
breaks_none rest later cause more meets there =
    the_first rest later (breaks cause) more meets there (λ _. ⊥)
    (λ m others fit e. never_breaks m fit cause e)

-- there is no bad header
no_fault : (rest later : List ℕ) (fault : FrameFault) (more : List (List ℕ)) → first_at message_limit rest ≡ Err fault
    → Stands (rest ++ later) more → ⊥
no_fault rest later fault [] bad there =
    let stays = bad-append message_limit rest later fault bad in
    let long =
    (subst (JudgesHeader message_limit (rest ++ later)) (bad_header message_limit (rest ++ later) fault stays)
    (judged message_limit (rest ++ later))).0 in
    let none : length (rest ++ later) ≡ 0 = ap (length {A = ℕ}) there in omega (arith, none, long)
no_fault rest later fault (m ∷ more) bad there =
    let stays = bad-append message_limit rest later fault bad in let front = there.0 in cc (stays, front.size)

-- and the messages that came are whole
no_cut : (rest : List ℕ) (more : List (List ℕ)) → 0 < length rest → first_at message_limit rest ≡ Ok None
    → Stands rest more → ⊥
no_cut rest [] some none there = let empty : length rest ≡ 0 = ap (length {A = ℕ}) there in omega (arith, empty, some)
no_cut rest (m ∷ more) some none there = let front = there.0 in cc (none, front.size)

nothing_left : (s : List ℕ) (more : List (List ℕ)) → Stands s more → s ≡ [] → AtClose more
nothing_left s [] there e = tt
nothing_left s (m ∷ more) there e = absurd (no_front message_limit s m e there.0)

-- ---- what came of the source

abbrev known : List ℕ → Option (List ℕ)
known bytes = Some bytes

known_same : (a b : List ℕ) → known a ≡ known b → a ≡ b
known_same a b e = cc

-- what is left of it now
record Came (stream : List ℕ) (left : Option (List ℕ)) (bytes : List ℕ) : Type 0 where
  pub later : List ℕ
  pub left_is : left ≡ Some later
  pub parts : stream ≡ bytes ++ later

came : (left0 left1 : Option (List ℕ)) (stream bytes : List ℕ) → left0 ≡ Some stream → Consumes left0 left1 bytes
    → Came stream left1 bytes
came None left1 stream bytes e c = absurd cc
came (Some all) None stream bytes e c = absurd c
came (Some all) (Some later) stream bytes e c = record {
  later = later;
  left_is = refl;
  parts = sym (known_same all stream e) ∙ c;
}

at_end : (left : Option (List ℕ)) (later : List ℕ) → left ≡ Some later → IsAtEnd left → later ≡ []
at_end None later e ended = absurd cc
at_end (Some all) later e ended = sym (known_same all later e) ∙ ended

-- ---- how the stream ends

requests_are : (exchanges : List MessageExchange) → requests exchanges ≡ count_by is_request (messages_of exchanges)
requests_are [] = refl
requests_are (t ∷ exchanges) =
    sum_by-cons (λ (u : MessageExchange). cond (is_request u.message) 1 0) t exchanges
    ∙ ap (λ (n : ℕ). cond (is_request t.message) 1 0 + n) (requests_are exchanges)
    ∙ sym (sum_by-cons (λ (m : List ℕ). cond (is_request m) 1 0) t.message (messages_of exchanges))

-- the end is Closed at the first message that closes the stream or behind all, or Memory
abbrev Ends : End → List (List ℕ) → Type 0
Ends end more = ((end ≡ Closed) × AtClose more) ⊎ (end ≡ Memory)

ends_so : (end : End) (before after : Outside) (count asked : ℕ) (rest later : List ℕ)
    (more : List (List ℕ))
    → HasReason end before after count asked rest → after.left ≡ Some later → Stands (rest ++ later) more
    → asked < request_limit → count < bytes_limit → NoneFailed before after → Ends end more
ends_so Closed before after count asked rest later more reason left there few short unhurt =
    elim reason.1 [
      | inl ended ↦
          let none : rest ++ later ≡ [] =
          ap (λ (x : List ℕ). rest ++ x) (at_end after.left later left ended.2) ∙ append-nil rest ∙ ended.1 in
          inl (refl, nothing_left (rest ++ later) more there none)
      | inr meets ↦ inl (refl, closes_first rest later more meets there)
    ]
ends_so (Broken place cause) before after count asked rest later more reason left there few short unhurt =
    elim reason.2 [
      | inl bad ↦ absurd (no_fault rest later bad.0 more bad.2 there)
      | inr meets ↦ absurd (breaks_none rest later cause more meets there)
    ]
ends_so (Truncated place) before after count asked rest later more reason left there few short unhurt =
    let inside = reason.2 in
    let whole : rest ++ later ≡ rest =
    ap (λ (x : List ℕ). rest ++ x) (at_end after.left later left inside.ended) ∙ append-nil rest in
    absurd (no_cut rest more inside.began inside.not_whole (subst (λ (x : List ℕ). Stands x more) whole there))
ends_so ReadFault before after count asked rest later more reason left there few short unhurt =
    absurd (unhurt.reads reason.1.rose)
ends_so WriteFault before after count asked rest later more reason left there few short unhurt =
    absurd (unhurt.writes reason)
ends_so Long before after count asked rest later more reason left there few short unhurt =
    elim reason [
      | inl all ↦ absurd (omega (arith, all, few))
      | inr all ↦ (let taken = all.0 in absurd (omega (arith, taken, short)))
    ]
ends_so Memory before after count asked rest later more reason left there few short unhurt = inr refl

-- ---- the messages that were served

closing_first : (m : List ℕ) (ms : List (List ℕ)) → is_closing m ≡ true → before_first is_closing (m ∷ ms) ≡ []
closing_first m ms e = ap (λ (b : Bool). take (cond (not b) (1 + position_or_len is_closing ms) 0) (m ∷ ms)) e

take_first : (m : List ℕ) (ms : List (List ℕ)) (n : ℕ) → take (1 + n) (m ∷ ms) ≡ m ∷ take n ms
take_first m ms n = rw one-add refl

closing_later : (m : List ℕ) (ms : List (List ℕ)) → is_closing m ≡ false
    → before_first is_closing (m ∷ ms) ≡ m ∷ before_first is_closing ms
closing_later m ms e =
    ap (λ (b : Bool). take (cond (not b) (1 + position_or_len is_closing ms) 0) (m ∷ ms)) e
    ∙ take_first m ms (position_or_len is_closing ms)

-- ---- the law

given_all : (before after : Outside) (exchanges : List MessageExchange) (given : List ℕ) (end : End) → end ≡ Closed
    → GivesReplies end before after exchanges given → given ≡ output exchanges
given_all before after exchanges given end e gives = subst (λ (x : End). GivesReplies x before after exchanges given) e gives

module _ {V : Type 0} (serves : V → List ℕ → List ℕ → V → Type 0) (stays : V → V → Type 0) where
  -- they are those before the first that closes the stream
  before_close : (s u : V) (ts : List MessageExchange) (more : List (List ℕ)) → Run serves s ts u → AtClose more
      → before_first is_closing (messages_of ts ++ more) ≡ messages_of ts
  before_close s u [] [] run at = refl
  before_close s u [] (m ∷ more) run at = closing_first m more at
  before_close s u (t ∷ ts) more run at =
      closing_later t.message (messages_of ts ++ more) (answered_open t.message run.1.step)
      ∙ ap (λ (x : List (List ℕ)). t.message ∷ x) (before_close run.0 u ts more run.2 at)

  pub complete : (s u : V) (end : End) (before after : Outside)
      → Streams serves stays s u end before after → Completes serves stays s u end before after
  complete s u end before after f stream messages left servable unhurt =
      let finish = f.stream in
      let runs = finish.runs in
      let source = came before.left after.left stream finish.taken left runs.took in
      let asked = fronts_fed message_limit finish.taken source.later (messages_of f.exchanges) finish.rest runs.cut in
      let served : Fronts message_limit stream (messages_of f.exchanges) (finish.rest ++ source.later) =
      subst (λ (x : List ℕ). Fronts message_limit x (messages_of f.exchanges) (finish.rest ++ source.later))
      (sym source.parts) asked in
      let all : Fronts message_limit stream messages [] =
      subst (λ (x : List ℕ). Fronts message_limit x messages []) (sym servable.joined)
      (fronts_of messages servable.each) in
      let l =
      left_of message_limit stream messages (messages_of f.exchanges) (finish.rest ++ source.later) all served in
      let there =
      stands (finish.rest ++ source.later) l.more l.fronts
      (all_behind IsForServer messages (messages_of f.exchanges) l.more l.are servable.each) in
      let counted : count_by is_request messages
      ≡ count_by is_request (messages_of f.exchanges) + count_by is_request l.more =
      ap (count_by is_request) l.are
      ∙ sum_by-append (λ (m : List ℕ). cond (is_request m) 1 0) (messages_of f.exchanges) l.more in
      let few : 0 + requests f.exchanges < request_limit =
      omega (arith, counted, requests_are f.exchanges, servable.few) in
      let short : 0 + length finish.taken < bytes_limit =
      omega (
        arith,
        ap (length {A = ℕ}) source.parts,
        length-append finish.taken source.later,
        servable.short,
      ) in
      elim (ends_so end before after (0 + length finish.taken) (0 + requests f.exchanges) finish.rest source.later
      l.more finish.reason source.left_is there few short unhurt) [
        | inl closed ↦
            let each : messages_of f.exchanges ≡ before_first is_closing messages =
            sym (ap (before_first is_closing) l.are ∙ before_close s f.last f.exchanges l.more f.run closed.1) in
            let whole = given_all before after f.exchanges finish.given end closed.0 finish.gives in
            inl (
              closed.0,
              record {
                exchanges = f.exchanges;
                last = f.last;
                run = f.run;
                stayed = f.stayed;
                all = each;
                gave = subst (Appends before.written after.written) whole runs.gave;
              },
            )
        | inr memory ↦ inr memory
      ]
