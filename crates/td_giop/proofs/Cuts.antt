-- Streams as messages and a rest.
use Rattle.std.proofs.Common.{◌≡◌, ℕ, zero, suc, ◌+◌, ◌-◌, ◌<◌, ◌≤◌, List, [], ◌∷◌, ◌++◌, length, take, drop, Option}
use Rattle.std.proofs.Common.{Some, None, Result, Ok, Err, refl, sym, ap, subst, ◌∙◌, append_assoc, arith}
use Rattle.std.proofs.Common.{length-append, length-drop}
use Rattle.std.specs.List.{concat}
use Rattle.std.proofs.lemmas.List.{take-append-drop, take_at, drop-append-le, take-append-le, length-take-le}
use Rattle.td_giop.specs.declared.fault.FrameFault.{FrameFault}
use Rattle.td_giop.specs.Header.{GoodHeader, JudgesHeader, header_at}
use Rattle.td_giop.specs.declared.raw.Raw.{Raw}
use Rattle.td_giop.specs.FramerLends.{IsRaw}
use Rattle.td_giop.specs.Stream.{Stream, first_at}
use Rattle.td_giop.specs.Cut.{StreamEnd, border, inside, bad, HasEnding, IsFirstMessage, Fronts, Cut, HasCut, SameCut}
use Rattle.td_giop.specs.Cut.{IsMessage}
use Rattle.td_giop.proofs.Judged.{judged, good_at, header_at-append}
use Rattle.td_giop.proofs.Framing.{whole, bad_header, same_size, first-append, first_of}

-- ---- no second pair fits

-- a rest that ends so has no whole message in front
no_front : (limit : ℕ) (e : StreamEnd) (rest m : List ℕ) → HasEnding limit e rest → IsFirstMessage limit rest m → ⊥
no_front limit border rest m ends front =
    let w = whole limit rest (length m) front.size in
    let none : length rest ≡ 0 = ap (length {A = ℕ}) ends in
    absurd (omega (arith, w.size, w.within, none))
no_front limit inside rest m ends front = cc (ends.0, front.size)
no_front limit (bad fault) rest m ends front = cc (ends, front.size)

pub same_front : (limit : ℕ) (s m n : List ℕ) → IsFirstMessage limit s m → IsFirstMessage limit s n → m ≡ n
same_front limit s m n p q =
    let e = same_size (length m) (length n) (sym p.size ∙ q.size) in
    p.bytes ∙ ap (λ (k : ℕ). take k s) e ∙ sym q.bytes

abbrev bad_size : FrameFault → Result (Option ℕ) FrameFault
bad_size f = Err f

-- a bad header isn't nothing
not_empty : (limit : ℕ) (f : FrameFault) (rest : List ℕ) → rest ≡ [] → first_at limit rest ≡ Err f → ⊥
not_empty limit f rest e b =
    let there = (subst (JudgesHeader limit rest) (bad_header limit rest f b) (judged limit rest)).0 in
    let none : length rest ≡ 0 = ap (length {A = ℕ}) e in
    omega (arith, there, none)

same_ending : (limit : ℕ) (e f : StreamEnd) (rest : List ℕ) → HasEnding limit e rest → HasEnding limit f rest → e ≡ f
same_ending limit border border rest p q = refl
same_ending limit border inside rest p q =
    let none : length rest ≡ 0 = ap (length {A = ℕ}) p in absurd (omega (arith, none, q.1))
same_ending limit border (bad f) rest p q = absurd (not_empty limit f rest p q)
same_ending limit inside border rest p q =
    let none : length rest ≡ 0 = ap (length {A = ℕ}) q in absurd (omega (arith, none, p.1))
same_ending limit inside inside rest p q = refl
same_ending limit inside (bad f) rest p q = absurd (cc (p.0, q))
same_ending limit (bad e) border rest p q = absurd (not_empty limit e rest q p)
same_ending limit (bad e) inside rest p q = absurd (cc (p, q.0))
same_ending limit (bad e) (bad f) rest p q = let both : bad_size e ≡ bad_size f = sym p ∙ q in cc

one_fronts : (limit : ℕ) (s : List ℕ) (ms ns : List (List ℕ)) (rest other : List ℕ) (e f : StreamEnd)
    → Fronts limit s ms rest → HasEnding limit e rest → Fronts limit s ns other → HasEnding limit f other
    → SameCut ms ns rest other e f
one_fronts limit s [] [] rest other e f p ends q also =
    let same : rest ≡ other = sym p ∙ q in
    record {
      messages = refl;
      rest = same;
      ending = same_ending limit e f other (subst (HasEnding limit e) same ends) also;
    }
one_fronts limit s [] (n ∷ ns) rest other e f p ends q also =
    absurd (no_front limit e rest n ends (subst (λ (x : List ℕ). IsFirstMessage limit x n) p q.0))
one_fronts limit s (m ∷ ms) [] rest other e f p ends q also =
    absurd (no_front limit f other m also (subst (λ (x : List ℕ). IsFirstMessage limit x m) q p.0))
one_fronts limit s (m ∷ ms) (n ∷ ns) rest other e f p ends q also =
    let mn = same_front limit s m n p.0 q.0 in
    let there : Fronts limit (drop (length m) s) ns other =
    subst (λ (x : List ℕ). Fronts limit (drop (length x) s) ns other) (sym mn) q.1 in
    let ih = one_fronts limit (drop (length m) s) ms ns rest other e f p.1 ends there also in
    record { messages = cc (mn, ih.messages); rest = ih.rest; ending = ih.ending }

pub one_cut : (limit : ℕ) (s : List ℕ) (ms ns : List (List ℕ)) (rest other : List ℕ) (e f : StreamEnd)
    → Cut limit s ms rest e → Cut limit s ns other f → SameCut ms ns rest other e f
one_cut limit s ms ns rest other e f p q = one_fronts limit s ms ns rest other e f p.fronts p.ends q.fronts q.ends

-- ---- what is fed goes into the rest

pub front_within : (limit : ℕ) (s m : List ℕ) → IsFirstMessage limit s m → (12 ≤ length m) × (length m ≤ length s)
front_within limit s m front = let w = whole limit s (length m) front.size in (omega (arith, w.size), w.within)

front_fed : (limit : ℕ) (s p m : List ℕ) → IsFirstMessage limit s m → IsFirstMessage limit (s ++ p) m
front_fed limit s p m front = record {
  size = first-append limit s p (length m) front.size;
  bytes = front.bytes ∙ sym (take-append-le (length m) s p (front_within limit s m front).1);
}

pub fronts_fed : (limit : ℕ) (s p : List ℕ) (ms : List (List ℕ)) (rest : List ℕ) → Fronts limit s ms rest
    → Fronts limit (s ++ p) ms (rest ++ p)
fronts_fed limit s p [] rest f = ap (λ (x : List ℕ). x ++ p) f
fronts_fed limit s p (m ∷ ms) rest f =
    let ih = fronts_fed limit (drop (length m) s) p ms rest f.1 in
    let left = drop-append-le (length m) s p (front_within limit s m f.0).1 in
    (front_fed limit s p m f.0, subst (λ (x : List ℕ). Fronts limit x ms (rest ++ p)) (sym left) ih)

-- ---- one message more

pub fronts_more : (limit : ℕ) (s : List ℕ) (ms : List (List ℕ)) (rest m : List ℕ) → Fronts limit s ms rest
    → IsFirstMessage limit rest m → Fronts limit s (ms ++ m ∷ []) (drop (length m) rest)
fronts_more limit s [] rest m f front = (subst (λ (x : List ℕ). IsFirstMessage limit x m) (sym f) front, ap (drop (length m)) f)
fronts_more limit s (n ∷ ns) rest m f front = (f.0, fronts_more limit (drop (length n) s) ns rest m f.1 front)

pub fronts_none : (limit : ℕ) (s : List ℕ) → Fronts limit s [] s
fronts_none limit s = refl

-- ---- nothing is lost

pub fronts_joined : (limit : ℕ) (s : List ℕ) (ms : List (List ℕ)) (rest : List ℕ) → Fronts limit s ms rest
    → concat ms ++ rest ≡ s
fronts_joined limit s [] rest f = sym f
fronts_joined limit s (m ∷ ms) rest f =
    append_assoc m (concat ms) rest ∙ ap (λ (x : List ℕ). m ++ x) (fronts_joined limit (drop (length m) s) ms rest f.1)
    ∙ ap (λ (x : List ℕ). x ++ drop (length m) s) f.0.bytes ∙ take-append-drop (length m) s

-- ---- every stream is messages and a rest

front_taken : (limit : ℕ) (s : List ℕ) (n : ℕ) → first_at limit s ≡ Ok (Some n) → IsFirstMessage limit s (take n s)
front_taken limit s n e =
    let w = whole limit s n e in
    let long : length (take n s) ≡ n = length-take-le n s w.within in
    record { size = rw long e; bytes = rw long refl }

no_more : (limit : ℕ) (s : List ℕ) → first_at limit s ≡ Ok None → HasCut limit s
no_more limit [] e = record { messages = []; rest = []; ending = border; cut = record { fronts = refl; ends = refl } }
no_more limit (b ∷ s) e = record {
  messages = [];
  rest = b ∷ s;
  ending = inside;
  cut = record { fronts = refl; ends = (e, omega arith) };
}

one_more : (limit : ℕ) (s : List ℕ) (n : ℕ) → first_at limit s ≡ Ok (Some n) → HasCut limit (drop n s) → HasCut limit s
one_more limit s n e c =
    let w = whole limit s n e in
    let long : length (take n s) ≡ n = length-take-le n s w.within in
    let there : Fronts limit (drop (length (take n s)) s) c.messages c.rest = rw long c.cut.fronts in
    record {
      messages = take n s ∷ c.messages;
      rest = c.rest;
      ending = c.ending;
      cut = record { fronts = (front_taken limit s n e, there); ends = c.cut.ends };
    }

cut_case : (limit : ℕ) (s : List ℕ) (r : Result (Option ℕ) FrameFault) → first_at limit s ≡ r
    → ((n : ℕ) → first_at limit s ≡ Ok (Some n) → HasCut limit (drop n s)) → HasCut limit s
cut_case limit s (Err f) e more = record {
  messages = [];
  rest = s;
  ending = bad f;
  cut = record { fronts = refl; ends = e };
}
cut_case limit s (Ok None) e more = no_more limit s e
cut_case limit s (Ok (Some n)) e more = one_more limit s n e (more n e)

cut_within : (bound limit : ℕ) (s : List ℕ) → length s < bound → HasCut limit s
cut_within zero limit s h = absurd (omega arith)
cut_within (suc bound) limit s h =
    cut_case limit s (first_at limit s) refl (λ (n : ℕ) (e : first_at limit s ≡ Ok (Some n)).
    let w = whole limit s n e in
    cut_within bound limit (drop n s) (omega (arith, h, w.size, w.within, length-drop n s)))

pub has_cut : (limit : ℕ) (s : List ℕ) → HasCut limit s
has_cut limit s = cut_within (suc (length s)) limit s (omega arith)

-- ---- a message by itself

pub front_message : (limit : ℕ) (s m : List ℕ) → IsFirstMessage limit s m → IsMessage limit m
front_message limit s m front =
    let w = whole limit s (length m) front.size in
    let long : 12 ≤ length m = omega (arith, w.size) in
    let parts : s ≡ m ++ drop (length m) s =
    sym (take-append-drop (length m) s) ∙ ap (λ (x : List ℕ). x ++ drop (length m) s) (sym front.bytes) in
    let alone : header_at limit m ≡ Ok (Some w.header) =
    sym (header_at-append limit m (drop (length m) s) long) ∙ ap (header_at limit) (sym parts) ∙ w.was in
    let good = subst (JudgesHeader limit m) alone (judged limit m) in
    let size : w.header.size ≡ length m - 12 = omega (arith, w.size) in
    record {
      minor = w.header.minor;
      order = w.header.order;
      kind = w.header.kind;
      good = subst (GoodHeader limit m w.header.minor w.header.order w.header.kind) size good;
    }

abbrev content_size : ℕ → Result (Option ℕ) FrameFault
content_size n = Ok (Some n)

pub message_front : (limit : ℕ) (m rest : List ℕ) → IsMessage limit m → IsFirstMessage limit (m ++ rest) m
message_front limit m rest i =
    let long = i.good.whole in
    let there = header_at-append limit m rest long ∙ good_at limit m i.minor i.order i.kind (length m - 12) i.good in
    let size : 12 + (length m - 12) ≡ length m = omega arith in
    let first =
    first_of limit (m ++ rest) (record { kind = i.kind; order = i.order; size = length m - 12; minor = i.minor }) there
    (omega (arith, length-append m rest)) in
    record { size = first ∙ ap (λ (n : ℕ). content_size n) size; bytes = sym (take_at m rest (length m) refl) }

-- ---- what a framer lends

pub raw_front : (s : Stream) (m : Raw) → IsRaw s m → IsFirstMessage s.limit s.rest m.bytes.now
raw_front s m r = record { size = r.whole; bytes = r.bytes }

pub raw_good : (s : Stream) (m : Raw) → IsRaw s m
    → GoodHeader s.limit m.bytes.now m.minor m.order m.kind (length m.bytes.now - 12)
raw_good s m r =
    let bytes = m.bytes.now in
    let parts : s.rest ≡ bytes ++ drop (length bytes) s.rest =
    sym (take-append-drop (length bytes) s.rest)
    ∙ ap (λ (x : List ℕ). x ++ drop (length bytes) s.rest) (sym r.bytes) in
    let alone : header_at s.limit bytes
    ≡ Ok (Some (record { kind = m.kind; order = m.order; size = length bytes - 12; minor = m.minor })) =
    sym (header_at-append s.limit bytes (drop (length bytes) s.rest) r.least) ∙ ap (header_at s.limit) (sym parts)
    ∙ r.header in
    subst (JudgesHeader s.limit bytes) alone (judged s.limit bytes)

-- ---- a whole cut

pub fronts_cut : (limit : ℕ) (s : List ℕ) (ms : List (List ℕ)) (rest : List ℕ) (e : StreamEnd) → Fronts limit s ms rest
    → HasEnding limit e rest → Cut limit s ms rest e
fronts_cut limit s ms rest e f ends = record { fronts = f; ends = ends }
