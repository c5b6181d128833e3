-- What one turn adds to what was done of a stream before, and what a stream is when it has ended.
use Rattle.std.proofs.Common.{◌≡◌, ℕ, ◌+◌, ◌≤◌, ◌⊎◌, Bool, true, false, List, [], ◌∷◌, ◌++◌, length, take, drop, Option}
use Rattle.std.proofs.Common.{refl, sym, ap, subst, ◌∙◌, inl, inr, append_assoc, append-nil, arith, length-append}
use Rattle.std.proofs.KnownBytes.{Appends-nil, Appends-trans, Consumes-nil, Consumes-trans}
use Rattle.std.proofs.lemmas.List.{map-append}
use Rattle.std.proofs.lemmas.List.Concat.{flat_map-append}
use Rattle.std.proofs.lemmas.List.Sums.{sum_by-append}
use Rattle.std.specs.Io.KnownBytes.{Appends}
use Rattle.td_giop.proofs.Cuts.{fronts_fed}
use Rattle.td_out.specs.Causes.{Rose}
use Rattle.td_out.proofs.Steps.{Rose-later}
use Rattle.td_giop.specs.Cut.{Fronts}
use Rattle.td_stream.specs.Messages.{message_error, message_limit}
use Rattle.td_stream.specs.Exchanges.{MessageExchange, messages_of, output, requests}
use Rattle.td_stream.specs.declared.end.Cause.{Cause}
use Rattle.td_stream.specs.declared.end.End.{End}
use Rattle.td_stream.specs.declared.end.End.TheVariants.{Closed, Broken, Truncated, ReadFault, WriteFault, Long}
use Rattle.td_stream.specs.declared.end.End.TheVariants.{Memory}
use Rattle.td_stream.specs.Outbound.{Outbound, outbound, Misses, SendsOrMisses as Moved, PutsReply, IsSent}
use Rattle.td_stream.specs.OutboundLaws.{puts-none, puts-then}
use Rattle.td_stream.specs.Outside.{Outside, outside}
use Rattle.td_stream.specs.Pieces.{WritesFront}
use Rattle.td_stream.specs.Progress.{StreamState, stand, first_stand, outside_of, StreamMoves, EndsAt, WritesLast}
use Rattle.td_stream.specs.Progress.{StreamEnds}
use Rattle.td_stream.specs.Streams.{ServesBytes, HasReason, GivesReplies, StreamFinishes, bytes_limit, request_limit}

-- ---- messages in front of a stream

module _ (limit : ℕ) where
  pub Fronts-then : (s : List ℕ) (ms ns : List (List ℕ)) (mid rest : List ℕ) → Fronts limit s ms mid
      → Fronts limit mid ns rest → Fronts limit s (ms ++ ns) rest
  Fronts-then s [] ns mid rest f g = subst (λ (x : List ℕ). Fronts limit x ns rest) (sym f) g
  Fronts-then s (m ∷ ms) ns mid rest f g = (f.0, Fronts-then (drop (length m) s) ms ns mid rest f.1 g)

-- ---- one move after another

requests-append : (xs ys : List MessageExchange) → requests (xs ++ ys) ≡ requests xs + requests ys
requests-append xs ys = sum_by-append _ xs ys

output-append : (xs ys : List MessageExchange) → output (xs ++ ys) ≡ output xs ++ output ys
output-append xs ys = flat_map-append (λ (x : MessageExchange). x.reply) xs ys

pub moves-none : (a : StreamState) → StreamMoves [] a a
moves-none a = record {
  taken = [];
  took = Consumes-nil a.left;
  cut = append-nil a.rest;
  bytes = omega arith;
  asked = omega arith;
  puts = puts-none a.out;
  reads = omega arith;
}

pub moves-then : (xs ys : List MessageExchange) (a b c : StreamState) → StreamMoves xs a b → StreamMoves ys b c → StreamMoves (xs ++ ys) a c
moves-then xs ys a b c p q = record {
  taken = p.taken ++ q.taken;
  took = Consumes-trans _ _ _ p.taken q.taken p.took q.took;
  cut = let messages : messages_of (xs ++ ys) ≡ messages_of xs ++ messages_of ys = map-append _ xs ys in
      rw (messages, ← append_assoc)
      (Fronts-then message_limit _ _ _ _ c.rest (fronts_fed message_limit _ q.taken _ b.rest p.cut) q.cut);
  bytes = omega (arith, p.bytes, q.bytes, length-append p.taken q.taken);
  asked = omega (arith, p.asked, q.asked, requests-append xs ys);
  puts =
      subst (λ l. PutsReply l a.out c.out) (sym (output-append xs ys))
      (puts-then (output xs) (output ys) a.out b.out c.out p.puts q.puts);
  reads = let l = p.reads in let m = q.reads in omega arith;
}

-- nothing was done of a stream that begins
pub begins : (l w : Option (List ℕ)) (r n : ℕ) (rest held : List ℕ) (taken asked : ℕ) (failed : Bool) → rest ≡ []
    → taken ≡ 0 → asked ≡ 0 → held ≡ [] → failed ≡ false
    → StreamMoves [] (first_stand (outside l r w n)) (stand l r rest taken asked (outbound w n held failed))
begins l w r n rest held taken asked failed e f g h i =
    rw (e, f, g, h, i) (moves-none (first_stand (outside l r w n)))

-- ---- a stream that has ended

-- where all was sent, the replies were written
gives_all : (xs : List MessageExchange) (w : Option (List ℕ)) (n : ℕ) (o : Outbound) (b : Bool) → b ≡ false → o.held ≡ []
    → Moved false b (output xs) (outbound w n [] false) o → Appends w o.written (output xs)
gives_all xs w n o true works held m = absurd cc
gives_all xs w n o false works held m =
    subst (λ l. Appends w o.written l) (sym (append-nil m.sent) ∙ ap (λ l. m.sent ++ l) (sym held) ∙ m.rest) m.gave

-- where a send has failed, a front of them that isn't all
gives_front : (xs : List MessageExchange) (w : Option (List ℕ)) (n : ℕ) (o : Outbound) (b : Bool) → b ≡ true
    → Moved false b (output xs) (outbound w n [] false) o → Misses (output xs) (outbound w n [] false) o
gives_front xs w n o true failed m = m
gives_front xs w n o false failed m = absurd cc

-- a reason stands from an earlier beginning
reason_before : (end : End) (before : Outside) (old at : StreamState) (p : Outbound) → before.reads ≤ old.reads
    → HasReason end (outside_of old) (outside_of at) at.taken at.requests at.rest → (end ≡ WriteFault → ⊥)
    → HasReason end before (outside at.left at.reads p.written p.writes) at.taken at.requests at.rest
reason_before Closed before old at p later h other = h
reason_before (Broken place cause) before old at p later h other = h
reason_before (Truncated place) before old at p later h other = (
  h.0,
  h.1,
  record { few = h.2.few; began = h.2.began; not_whole = h.2.not_whole; ended = h.2.ended },
)
reason_before ReadFault before old at p later h other =
    (h.0, record { few = h.1.few; not_whole = h.1.not_whole; rose = Rose-later _ _ _ later h.1.rose })
reason_before WriteFault before old at p later h other = absurd (other refl)
reason_before Long before old at p later h other = h
reason_before Memory before old at p later h other = tt

-- these bytes were given by an end
ended : (xs : List MessageExchange) (end : End) (before : Outside) (at : StreamState) (p : Outbound) (given : List ℕ)
    → StreamMoves xs (first_stand before) at → at.taken ≤ bytes_limit → at.requests ≤ request_limit
    → Appends before.written p.written given → before.writes ≤ p.writes
    → HasReason end before (outside at.left at.reads p.written p.writes) at.taken at.requests at.rest
    → GivesReplies end before (outside at.left at.reads p.written p.writes) xs given
    → StreamFinishes xs end before (outside at.left at.reads p.written p.writes) [] 0 0
ended xs end before at p given m bytes few gave writes reason gives = record {
  taken = m.taken;
  rest = at.rest;
  given = given;
  runs =
      record { took = m.took; cut = m.cut; gave = gave; reads = m.reads; writes = writes };
  bytes = rw m.bytes at bytes;
  few = rw m.asked at few;
  reason = rw (m.bytes, m.asked) at reason;
  gives = gives;
}

-- all replies were written, and nothing behind them
stopped : (xs : List MessageExchange) (end : End) (before : Outside) (old at : StreamState) (p : Outbound)
    → StreamMoves xs (first_stand before) at → at.taken ≤ bytes_limit → at.requests ≤ request_limit
    → before.reads ≤ old.reads → IsSent at.out → p ≡ at.out
    → HasReason end (outside_of old) (outside_of at) at.taken at.requests at.rest → (end ≡ WriteFault → ⊥)
    → GivesReplies end before (outside at.left at.reads p.written p.writes) xs (output xs)
    → StreamFinishes xs end before (outside at.left at.reads p.written p.writes) [] 0 0
stopped xs end before old at p m bytes few later is last reason other gives =
    ended xs end before at p (output xs) m bytes few
    (subst (λ (x : Outbound). Appends before.written x.written (output xs)) (sym last)
    (gives_all xs before.written before.writes at.out at.out.failed is.works is.held m.puts.moves))
    (subst (λ (x : Outbound). before.writes ≤ x.writes) (sym last) m.puts.later)
    (reason_before end before old at p later reason other) gives

still_rose : (a b c n : ℕ) → a ≤ b → (n ≡ 12) ⊎ Rose b c → (n ≡ 12) ⊎ Rose a c
still_rose a b c n le h = elim h [ inl e ↦ inl e | inr rose ↦ inr (Rose-later a b c le rose) ]

finishes : (xs : List MessageExchange) (end : End) (before : Outside) (old at : StreamState) (p : Outbound)
    → StreamMoves xs (first_stand before) at → at.taken ≤ bytes_limit → at.requests ≤ request_limit
    → before.reads ≤ old.reads → EndsAt end old at → WritesLast end at.out p
    → StreamFinishes xs end before (outside at.left at.reads p.written p.writes) [] 0 0
finishes xs Closed before old at p m bytes few later e last =
    stopped xs Closed before old at p m bytes few later e.sent last e.reason (λ x. cc) refl
finishes xs (Truncated place) before old at p m bytes few later e last =
    stopped xs (Truncated place) before old at p m bytes few later e.sent last e.reason (λ x. cc) refl
finishes xs ReadFault before old at p m bytes few later e last =
    stopped xs ReadFault before old at p m bytes few later e.sent last e.reason (λ x. cc) refl
finishes xs Long before old at p m bytes few later e last =
    stopped xs Long before old at p m bytes few later e.sent last e.reason (λ x. cc) refl
finishes xs Memory before old at p m bytes few later e last =
    stopped xs Memory before old at p m bytes few later e.sent last e.reason (λ x. cc) refl
finishes xs WriteFault before old at p m bytes few later e last =
    let f = gives_front xs before.written before.writes at.out at.out.failed e m.puts.moves in
    ended xs WriteFault before at p (take f.sent (output xs)) m bytes few
    (subst (λ (x : Outbound). Appends before.written x.written (take f.sent (output xs))) (sym last) f.gave)
    (subst (λ (x : Outbound). before.writes ≤ x.writes) (sym last) m.puts.later)
    (subst (λ (x : Outbound). Rose before.writes x.writes) (sym last) f.rose)
    (record { sent = f.sent; short = f.short; is = refl })
finishes xs (Broken place cause) before old at p m bytes few later e last =
    ended xs (Broken place cause) before at p (output xs ++ take last.sent message_error) m bytes few
    (Appends-trans before.written at.out.written p.written (output xs) (take last.sent message_error)
    (gives_all xs before.written before.writes at.out at.out.failed e.sent.works e.sent.held m.puts.moves) last.gave)
    (let a = m.puts.later in let b = last.later in omega arith)
    (reason_before (Broken place cause) before old at p later e.reason (λ x. cc))
    (record { sent = last.sent; is = refl; whole = still_rose _ _ _ _ m.puts.later last.whole })

content_so : (xs : List MessageExchange) (end : End) (before : Outside) (l m : Option (List ℕ)) (q r : ℕ) (w : Option (List ℕ))
    (n : ℕ) → l ≡ m → q ≡ r → StreamFinishes xs end before (outside m r w n) [] 0 0
    → StreamFinishes xs end before (outside l q w n) [] 0 0
content_so xs end before l m q r w n e f h = rw (e, f) h

-- what was done since a stream began, and then its end
pub ends : (xs ys : List MessageExchange) (end : End) (before : Outside) (now at next : StreamState)
    → StreamMoves xs (first_stand before) now → StreamMoves ys now at → StreamEnds end now at next
    → StreamFinishes (xs ++ ys) end before (outside_of next) [] 0 0
ends xs ys end before now at next m n e =
    content_so (xs ++ ys) end before _ _ _ _ _ _ e.left e.reads
    (finishes (xs ++ ys) end before now at next.out (moves-then xs ys (first_stand before) now at m n) e.bytes e.few
    m.reads e.ends e.last)

-- a stream for which there is no memory
pub no_stream : (l w : Option (List ℕ)) (r f : ℕ) → StreamFinishes [] Memory (outside l r w f) (outside l r w f) [] 0 0
no_stream l w r f = record {
  taken = [];
  rest = [];
  given = [];
  runs =
      record {
        took = Consumes-nil l;
        cut = refl;
        gave = Appends-nil w;
        reads = omega arith;
        writes = omega arith;
      };
  bytes = omega arith;
  few = omega arith;
  reason = tt;
  gives = refl;
}
